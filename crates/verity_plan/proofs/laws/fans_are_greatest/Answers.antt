use Rattle.verity_plan.proofs.{FanLemmas.{fan-greatest, fan-power}, FitLemmas.fan-digests}
use Rattle.verity_plan.proofs.laws.fans_are_greatest.Goals as goal

pub returns : goal.returns
returns c = record { power = fan-power; room = fan-digests; greatest = fan-greatest }
