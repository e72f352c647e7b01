use Rattle.verity_builders.proofs.PartCalls.{parts-build}
use Rattle.verity_builders.proofs.laws.any_calls_build_the_tree_from_parts.Goals as goal

pub returns : goal.returns
returns c = parts-build
