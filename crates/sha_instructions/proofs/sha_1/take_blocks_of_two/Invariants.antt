use Rattle.sha_instructions.specs.Sha1Vectors.{Keeps, hash_from}
use Rattle.sha_instructions.proofs.sha_1.take_blocks_of_two.Given as goal

abbrev pub invariant-loop-k : goal.invariant-loop-k
invariant-loop-k l = record {
  of_first : Keeps l.for_arm l.h1 (hash_from l.initial.state1 l.blocks1 l.k);
  of_second : Keeps l.for_arm l.h2 (hash_from l.initial.state2 l.blocks2 l.k);
}
