use Rattle.verity_plan.proofs.FitLemmas.{digest-slot, slot-least, slot-after, slot-power, slot-same}
use Rattle.verity_plan.proofs.laws.slots_are_least.Goals as goal

pub returns : goal.returns
returns c = record {
  digest = digest-slot;
  power = slot-power;
  least = slot-least;
  after = slot-after;
  same = slot-same;
}
