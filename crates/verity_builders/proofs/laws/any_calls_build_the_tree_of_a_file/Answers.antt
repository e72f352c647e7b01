use Rattle.verity_builders.proofs.Files.FileTreeCalls.{tree-calls-build}
use Rattle.verity_builders.proofs.laws.any_calls_build_the_tree_of_a_file.Goals as goal

pub returns : goal.returns
returns c = tree-calls-build
