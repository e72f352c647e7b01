use Rattle.{std.proofs.Common.{◌<◌, ◌≤◌, ◌/◌, max, ℕ, sym, ◌∙◌, subst}, verity_plan.proofs.FanLemmas.least_power-is}
use Rattle.verity_plan.proofs.settings.least_power.Goals as goal

pub returns-clause-value : goal.returns-clause-value
returns-clause-value c =
    let e = c.next_power_of_two.ensures.power.1 in
    e ∙ sym (least_power-is c.args.len c.next_power_of_two.ensures.power.0
    (subst (λ (n : ℕ). c.args.len ≤ n) e c.next_power_of_two.ensures.lower_bound)
    (subst (λ (n : ℕ). n / 2 < max 1 c.args.len) e c.next_power_of_two.ensures.upper_bound))
