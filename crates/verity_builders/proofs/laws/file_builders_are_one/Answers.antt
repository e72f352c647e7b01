use Rattle.verity_builders.proofs.Files.FileTreeMemory.{file-of_tree, tree-of_file}
use Rattle.verity_builders.proofs.laws.file_builders_are_one.Goals as goal

pub returns : goal.returns
returns c = λ b memory fed none. (file-of_tree b memory fed none, tree-of_file b memory fed none)
