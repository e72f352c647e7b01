use Rattle.sha_instructions.specs.Sha512Vectors.{Has}
use Rattle.sha2.specs.Sha512 as S512
use Rattle.sha_instructions.proofs.sha_512.take_blocks.Given as goal

abbrev pub invariant-loop-k : goal.invariant-loop-k
invariant-loop-k l = Has l.h (S512.hash_after l.initial.state l.blocks l.k)
