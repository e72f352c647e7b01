use Rattle.verity_c_api.proofs.SuperblockLemmas.{written_again}
use Rattle.verity_c_api.proofs.laws.read_parameters_write_the_superblock.Goals as goal

pub returns : goal.returns
returns c = written_again
