use Rattle.verity_builders.proofs.Files.FileCalls.{pieces-joined}
use Rattle.verity_builders.proofs.laws.any_pieces_are_the_file.Goals as goal

pub returns : goal.returns
returns c = λ b after memory room pieces h calls. pieces-joined b after memory room _ pieces h calls
