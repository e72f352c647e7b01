use Rattle.std.proofs.Common.{◌≡◌, ◌-◌, ◌≤◌, ◌++◌}
use Rattle.sha2.specs.Sha512 as S512
use Rattle.sha_lanes.proofs.words64.by_instructions.hash_one.Given as goal

abbrev pub invariant-loop-k : goal.invariant-loop-k
invariant-loop-k l = record {
  most : l.k ≤ l.blocks;
  taken : l.state ≡ S512.hash_after l.fn.initial (S512.padded_message (l.first ++ l.second ++ l.third)) l.k;
}

abbrev pub decreases-loop-k : goal.decreases-loop-k
decreases-loop-k l = l.blocks - l.k
