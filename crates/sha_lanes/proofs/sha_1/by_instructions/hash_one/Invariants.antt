use Rattle.std.proofs.Common.{◌≡◌, ◌-◌, ◌≤◌, ◌++◌}
use Rattle.sha_instructions.specs.Sha1Vectors.{hash_from}
use Rattle.sha1.specs.Sha1 as S1
use Rattle.sha_lanes.proofs.sha_1.by_instructions.hash_one.Given as goal

abbrev pub invariant-loop-k : goal.invariant-loop-k
invariant-loop-k l = record {
  most : l.k ≤ l.blocks;
  taken : l.state ≡ hash_from S1.initial_hash (S1.padded_message (l.first ++ l.second ++ l.third)) l.k;
}

abbrev pub decreases-loop-k : goal.decreases-loop-k
decreases-loop-k l = l.blocks - l.k
