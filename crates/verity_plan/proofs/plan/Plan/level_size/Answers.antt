use Rattle.std.{proofs.Common.{ℕ, ◌<◌, arith, ap, ◌∙◌, refl}, specs.Int.div_ceil}
use Rattle.verity_plan.{specs.{PlanCounts.count_under, Settings.fan}, proofs.PlanLemmas.count-more}
use Rattle.verity_plan.proofs.plan.Plan.level_size.Goals as goal

pub returns : goal.returns
returns c =
    let p = c.args.self.now in
    let some : 0 < fan p.settings = omega (arith, c.fan.ensures.two, c.fan.ensures.value) in
    c.div_ceil.ensures
    ∙ ap (λ (n : ℕ). div_ceil n c.fan.result) c.count_under.ensures
    ∙ ap (λ (n : ℕ). div_ceil (count_under p c.args.level) n) c.fan.ensures.value
    ∙ count-more (fan p.settings) p.blocks c.args.level (count_under p c.args.level) some refl
