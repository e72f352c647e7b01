use Rattle.std.proofs.Common.{◌≡◌, ◌-◌, ◌≤◌, ◌++◌}
use Rattle.sha2.specs.Sha256 as S256
use Rattle.sha_lanes.proofs.words32.by_instructions.hash_two.Given as goal

abbrev pub invariant-loop-k : goal.invariant-loop-k
invariant-loop-k l = record {
  most : l.k ≤ l.blocks;
  of_first : l.state1 ≡ S256.hash_after l.fn.initial (S256.padded_message (l.before ++ l.part1 ++ l.after)) l.k;
  of_second : l.state2 ≡ S256.hash_after l.fn.initial (S256.padded_message (l.before ++ l.part2 ++ l.after)) l.k;
}

abbrev pub decreases-loop-k : goal.decreases-loop-k
decreases-loop-k l = l.blocks - l.k
