use Rattle.std.proofs.Common.{◌≡◌, ℕ, ◌<◌, ◌≤◌, length, slice_index, replicate}
use Rattle.sha_lanes.proofs.rows.are_zeros.Given as goal

abbrev pub invariant-loop-i : goal.invariant-loop-i
invariant-loop-i l = record {
  most : (k : ℕ) → k < l.i → slice_index l.bytes k ≤ l.largest;
  none : l.bytes ≡ replicate (length l.bytes) 0 → l.largest ≡ 0;
}
