use Rattle.verity_builders.proofs.TreeCalls.{calls-build}
use Rattle.verity_builders.proofs.laws.any_calls_build_the_tree.Goals as goal

pub returns : goal.returns
returns c = calls-build
