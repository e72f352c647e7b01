use Rattle.std.proofs.Common.{◌≡◌, ◌-◌, ◌≤◌, ◌++◌}
use Rattle.sha_instructions.specs.Sha1Vectors.{hash_from}
use Rattle.sha1.specs.Sha1 as S1
use Rattle.sha_lanes.proofs.sha_1.by_instructions.hash_two.Given as goal

abbrev pub invariant-loop-k : goal.invariant-loop-k
invariant-loop-k l = record {
  most : l.k ≤ l.blocks;
  of_first : l.state1 ≡ hash_from S1.initial_hash (S1.padded_message (l.before ++ l.part1 ++ l.after)) l.k;
  of_second : l.state2 ≡ hash_from S1.initial_hash (S1.padded_message (l.before ++ l.part2 ++ l.after)) l.k;
}

abbrev pub decreases-loop-k : goal.decreases-loop-k
decreases-loop-k l = l.blocks - l.k
