use Rattle.verity_builders.proofs.Parts.PartLevels.{part-block}
use Rattle.verity_builders.proofs.laws.parts_are_of_the_tree.Goals as goal

pub returns : goal.returns
returns c = part-block
