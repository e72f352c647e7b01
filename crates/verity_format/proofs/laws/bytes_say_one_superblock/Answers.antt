use Rattle.verity_format.proofs.SuperblockLemmas.{one-superblock}
use Rattle.verity_format.proofs.laws.bytes_say_one_superblock.Goals as goal

pub returns : goal.returns
returns c = one-superblock
