use Rattle.sha_instructions.specs.Sha256Vectors.{Has}
use Rattle.sha2.specs.Sha256 as S256
use Rattle.sha_instructions.proofs.sha_256.take_blocks_of_two.Given as goal

abbrev pub invariant-loop-k : goal.invariant-loop-k
invariant-loop-k l = record {
  of_first : Has l.for_arm l.h1 (S256.hash_after l.initial.state1 l.blocks1 l.k);
  of_second : Has l.for_arm l.h2 (S256.hash_after l.initial.state2 l.blocks2 l.k);
}
