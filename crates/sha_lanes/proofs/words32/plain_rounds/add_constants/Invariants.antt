use Rattle.{std.proofs.Common.{◌≡◌, ℕ, ◌<◌, length, slice_index}, sha_lanes.specs.Lanes.lane}
use Rattle.sha2.specs.Sha256 as S256
use Rattle.sha_lanes.proofs.words32.plain_rounds.add_constants.Given as goal

abbrev pub invariant-loop-t : goal.invariant-loop-t
invariant-loop-t l = record {
  long : length l.kw ≡ 64;
  words : (j : ℕ) → j < 8 → (i : ℕ) → i < l.t
      → slice_index (lane l.kw j) i ≡ S256.add32 (slice_index (lane l.w j) i) (slice_index S256.round_constants i);
}
