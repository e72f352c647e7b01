use Rattle.std.proofs.Common.{◌≡◌, ◌≤◌, ◌-◌, vec_capacity, vec_len}
use Rattle.verity_pass.proofs.store.Store.new.Given as goal

abbrev pub invariant-loop-bytes : goal.invariant-loop-bytes
invariant-loop-bytes l = record {
  length : vec_len l.bytes ≤ l.length;
  room : vec_capacity l.bytes ≡ l.length;
}

abbrev pub decreases-loop-bytes : goal.decreases-loop-bytes
decreases-loop-bytes l = l.length - vec_len l.bytes
