use Rattle.verity_pass.proofs.AcceptedPaths.{true-accepted}
use Rattle.verity_pass.proofs.laws.true_paths_are_accepted.Goals as goal

pub returns : goal.returns
returns c = true-accepted
