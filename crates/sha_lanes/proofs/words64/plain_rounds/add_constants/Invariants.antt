use Rattle.{std.proofs.Common.{◌≡◌, ℕ, ◌<◌, length, slice_index}, sha_lanes.specs.Lanes.lane}
use Rattle.sha2.specs.Sha512 as S512
use Rattle.sha_lanes.proofs.words64.plain_rounds.add_constants.Given as goal

abbrev pub invariant-loop-t : goal.invariant-loop-t
invariant-loop-t l = record {
  long : length l.kw ≡ 80;
  words : (j : ℕ) → j < 4 → (i : ℕ) → i < l.t
      → slice_index (lane l.kw j) i ≡ S512.add64 (slice_index (lane l.w j) i) (slice_index S512.round_constants i);
}
