use Rattle.verity_c_api.proofs.ReadBackLemmas.{plan-back, read-back}
use Rattle.verity_c_api.proofs.laws.written_parameters_are_read_back.Goals as goal

pub returns-clause-bytes : goal.returns-clause-bytes
returns-clause-bytes c = read-back

pub returns-clause-plan : goal.returns-clause-plan
returns-clause-plan c = plan-back
