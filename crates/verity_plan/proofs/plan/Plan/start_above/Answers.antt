use Rattle.std.proofs.Common.{arith, sym, subst}
use Rattle.verity_plan.{specs.Plans.HasBlock, proofs.{FanLemmas.fan-some, IndexLemmas.HasBlock-above, PlanLemmas.levels_few}}
use Rattle.verity_plan.proofs.plan.Plan.start_above.Goals as goal

pub overflow_add-level : goal.overflow_add-level
overflow_add-level c = omega (arith, levels_few c.args.self.now c.blocks-blocks.ensures.planned, c.requires.level)

pub start-requires : goal.start-requires
start-requires c =
    let p = c.args.self.now in
    subst (HasBlock p c.args.level) (sym c.index_above.ensures)
    (HasBlock-above p c.args.i c.args.level (fan-some p.settings) c.requires.index
    c.requires.level)
