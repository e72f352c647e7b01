use Rattle.verity_plan.proofs.{FanLemmas.fan-two, FitLemmas.fan-fits}
use Rattle.verity_plan.proofs.laws.slots_fit.Goals as goal

pub returns : goal.returns
returns c = record { two = fan-two; room = fan-fits }
