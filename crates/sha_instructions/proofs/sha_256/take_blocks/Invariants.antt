use Rattle.sha_instructions.specs.Sha256Vectors.{Has}
use Rattle.sha2.specs.Sha256 as S256
use Rattle.sha_instructions.proofs.sha_256.take_blocks.Given as goal

abbrev pub invariant-loop-k : goal.invariant-loop-k
invariant-loop-k l = Has l.for_arm l.h (S256.hash_after l.initial.state l.blocks l.k)
