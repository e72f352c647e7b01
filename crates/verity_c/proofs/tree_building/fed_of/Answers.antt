use Rattle.{std.proofs.Common.arith, verity_plan.proofs.PlanLemmas.some_hash}
use Rattle.verity_c.proofs.tree_building.fed_of.Goals as goal

pub returns-in-Some-clause-some : goal.returns-in-Some-clause-some
returns-in-Some-clause-some c = omega (arith, some_hash c.args.plan.now c.blocks-planned.ensures.planned)

pub returns-in-None-clause-some : goal.returns-in-None-clause-some
returns-in-None-clause-some c = omega (arith, some_hash c.args.plan.now c.blocks-planned.ensures.planned)
