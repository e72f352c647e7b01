use Rattle.verity_format.proofs.TextLemmas.{text_says}
use Rattle.verity_format.proofs.laws.text_says_its_superblock.Goals as goal

pub returns : goal.returns
returns c = text_says
