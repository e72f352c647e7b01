use Rattle.sha_instructions.specs.Sha1Vectors.{Keeps, hash_from}
use Rattle.sha_instructions.proofs.sha_1.take_blocks.Given as goal

abbrev pub invariant-loop-k : goal.invariant-loop-k
invariant-loop-k l = Keeps l.for_arm l.h (hash_from l.initial.state l.blocks l.k)
