use Rattle.{verity_plan.proofs.FanLemmas.fan-some, verity_blocks.proofs.Order.ClosedStays.closed-prefix}
use Rattle.verity_blocks.proofs.laws.closed_blocks_stay.Goals as goal

pub returns : goal.returns
returns c = λ s xs ys i l j. closed-prefix s xs ys i l j (fan-some s)
