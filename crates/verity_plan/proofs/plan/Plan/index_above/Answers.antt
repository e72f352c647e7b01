use Rattle.{std.proofs.Common.{◌≡◌, ℕ, ◌/◌, ◌^◌, ap, sym, ◌∙◌}, verity_plan.{specs.Settings.fan, proofs.IndexLemmas.quotient-next}}
use Rattle.verity_plan.proofs.plan.Plan.index_above.Goals as goal

pub loop-below-preserved : goal.loop-below-preserved
loop-below-preserved c =
    let p = c.args.self.now in
    let fan_is : c.fan-fan.result ≡ fan p.settings =
    c.fan-fan.ensures.value ∙ ap (λ v. fan v.settings) c.self.view_is in
    ap (λ (n : ℕ). n / c.fan-fan.result) c.loop-below.invariant
    ∙ ap (λ (n : ℕ). c.args.i / fan p.settings ^ c.loop-below.below / n) fan_is
    ∙ sym (quotient-next (fan p.settings) c.args.i c.loop-below.below)
