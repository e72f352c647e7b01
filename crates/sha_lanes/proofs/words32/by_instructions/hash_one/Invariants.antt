use Rattle.std.proofs.Common.{◌≡◌, ◌-◌, ◌≤◌, ◌++◌}
use Rattle.sha2.specs.Sha256 as S256
use Rattle.sha_lanes.proofs.words32.by_instructions.hash_one.Given as goal

abbrev pub invariant-loop-k : goal.invariant-loop-k
invariant-loop-k l = record {
  most : l.k ≤ l.blocks;
  taken : l.state ≡ S256.hash_after l.fn.initial (S256.padded_message (l.first ++ l.second ++ l.third)) l.k;
}

abbrev pub decreases-loop-k : goal.decreases-loop-k
decreases-loop-k l = l.blocks - l.k
