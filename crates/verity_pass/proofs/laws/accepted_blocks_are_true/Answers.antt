use Rattle.verity_pass.proofs.AcceptedPaths.{accepted-true}
use Rattle.verity_pass.proofs.laws.accepted_blocks_are_true.Goals as goal

pub returns : goal.returns
returns c = accepted-true
