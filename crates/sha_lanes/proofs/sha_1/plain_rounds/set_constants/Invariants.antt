use Rattle.{std.{proofs.Common.{◌≡◌, ℕ, ◌<◌, length, slice_index}, specs.Prelude.replicate}, sha_lanes.specs.Lanes.lane}
use Rattle.sha1.specs.Sha1 as S1
use Rattle.sha_lanes.proofs.sha_1.plain_rounds.set_constants.Given as goal

abbrev pub invariant-loop-t : goal.invariant-loop-t
invariant-loop-t l = record {
  long : length l.kw ≡ 80;
  words : (j : ℕ) → j < 8 → (i : ℕ) → i < l.t
      → slice_index (lane l.kw j) i ≡ S1.add32 (slice_index (replicate 80 0) i) (S1.round_constant i);
}
