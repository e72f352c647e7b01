use Rattle.verity_format.proofs.SuperblockLemmas.{fault_none-says, says-fault_none}
use Rattle.verity_format.proofs.laws.bytes_say_a_superblock_or_fail_a_test.Goals as goal

pub returns : goal.returns
returns c = λ s. (λ said. says-fault_none s said.0 said.1, fault_none-says s)
