use Rattle.verity_builders.proofs.Files.FileCalls.{asked-joined}
use Rattle.verity_builders.proofs.laws.asking_between_pieces_changes_nothing.Goals as goal

pub returns : goal.returns
returns c = λ b after memory room calls h asked. asked-joined b after memory room _ calls h asked
