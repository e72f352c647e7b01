use Rattle.{std.{proofs.Common.{◌≡◌, ℕ, ◌<◌, arith, ◌∙◌, ap}, specs.Int.div_ceil}, verity_plan.{specs.Settings.fan, proofs.PlanLemmas.count-more}}
use Rattle.verity_plan.proofs.plan.Plan.count_under.Goals as goal

pub loop-below-preserved : goal.loop-below-preserved
loop-below-preserved c =
    let p = c.args.self.now in
    let fan_is : c.fan-fan.result ≡ fan p.settings =
    c.fan-fan.ensures.value ∙ ap (λ v. fan v.settings) c.self.view_is in
    let some : 0 < fan p.settings = omega (arith, fan_is, c.fan-fan.ensures.two) in
    c.div_ceil-count.ensures ∙ ap (λ (f : ℕ). div_ceil c.loop-below.count f) fan_is
    ∙ count-more (fan p.settings) p.blocks c.loop-below.below c.loop-below.count some c.loop-below.invariant
