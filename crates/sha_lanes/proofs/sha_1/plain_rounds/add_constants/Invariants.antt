use Rattle.std.proofs.Common.{◌≡◌, ℕ, ◌<◌, [], length, get_or, slice_index}
use Rattle.sha1.specs.Sha1 as S1
use Rattle.sha_lanes.proofs.sha_1.plain_rounds.add_constants.Given as goal

abbrev pub invariant-loop-t : goal.invariant-loop-t
invariant-loop-t l = record {
  long : length l.kw ≡ 80;
  added : (j : ℕ) → j < 8 → (i : ℕ) → i < l.t
      → slice_index (get_or l.kw i []) j ≡ S1.add32 (slice_index (get_or l.w i []) j) (S1.round_constant i);
}
