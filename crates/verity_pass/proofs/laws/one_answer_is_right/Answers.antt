use Rattle.verity_pass.proofs.AcceptedPaths.{one-answer}
use Rattle.verity_pass.proofs.laws.one_answer_is_right.Goals as goal

pub returns : goal.returns
returns c = one-answer
