use Rattle.verity_c_api.proofs.ReadLemmas.{plan-read}
use Rattle.verity_c_api.proofs.laws.read_parameters_make_the_plan.Goals as goal

pub returns : goal.returns
returns c = plan-read
