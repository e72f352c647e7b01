-- What is said of a block that isn't handed out.
use Rattle.std.specs.Prelude.{ℕ, List, ◌++◌, codes}
use Rattle.{std.specs.Fmt.decimal, verity_pass.specs.declared.path.PathFault.TheVariants.{Index, Length, DiffersAt}}
use Rattle.read_one_block.specs.declared.image.ReadFault.{ReadFault, TheVariants.{DataFailed, TreeFailed, Refused}}

-- why it isn't
abbrev pub fault_text : ReadFault → List ℕ
fault_text DataFailed = codes "cannot read it"
fault_text (TreeFailed level) = codes "cannot read its hash block of level " ++ decimal level
fault_text (Refused Index) = codes "there is none"
fault_text (Refused Length) = codes "has a wrong length"
fault_text (Refused (DiffersAt level)) = codes "differs at level " ++ decimal level
