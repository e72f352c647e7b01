use Rattle.{std.{proofs.Common.{◌∙◌, ◌≡◌, ap}, specs.Prelude.Ok}, verity_plan.specs.{Plans.PlanFields, PlanCounts.level_count_of}}
use Rattle.verity_builders.{specs.Steps.Parts.plan_of_join, proofs.Joins.PlanOfJoin.{IsPlan-join, levels-of_join, plan-found}}
use Rattle.verity_builders.proofs.join_builder.joining_plan.Goals.{After-for_blocks}
use Rattle.verity_builders.proofs.join_builder.joining_plan.Goals as goal

-- the plan is found
found : (c : After-for_blocks) → c.for_blocks.result ≡ Ok (plan_of_join c.args.plan.now c.args.level)
found c =
    plan-found c.args.plan.now c.settings.result.now c.args.level c.count_under.result c.for_blocks.result
    c.planned.ensures
    c.requires c.settings.ensures c.count_under.ensures c.for_blocks.ensures

-- and it is this one
found-is : (c : After-for_blocks) (own : PlanFields) → c.for_blocks.result ≡ Ok own
    → own ≡ plan_of_join c.args.plan.now c.args.level
found-is c own is = let made = found c in cc

pub returns-in-Ok-clause-plan : goal.returns-in-Ok-clause-plan
returns-in-Ok-clause-plan c = found-is (goal.at.returns-in-Ok-clause-plan c).After-for_blocks _ c.in-Ok.is

pub returns-in-Ok-clause-levels : goal.returns-in-Ok-clause-levels
returns-in-Ok-clause-levels c =
    ap level_count_of (found-is (goal.at.returns-in-Ok-clause-levels c).After-for_blocks _ c.in-Ok.is)
    ∙ levels-of_join c.args.plan.now c.args.level c.planned.ensures c.requires

pub returns-in-Ok-clause-planned : goal.returns-in-Ok-clause-planned
returns-in-Ok-clause-planned c =
    rw (found-is (goal.at.returns-in-Ok-clause-planned c).After-for_blocks _ c.in-Ok.is)
    (IsPlan-join c.args.plan.now c.args.level c.planned.ensures c.requires)

pub returns-in-Err-clause-plan : goal.returns-in-Err-clause-plan
returns-in-Err-clause-plan c = let made = found (goal.at.returns-in-Err-clause-plan c).After-for_blocks in absurd cc

pub returns-in-Err-clause-levels : goal.returns-in-Err-clause-levels
returns-in-Err-clause-levels c = let made = found (goal.at.returns-in-Err-clause-levels c).After-for_blocks in absurd cc
