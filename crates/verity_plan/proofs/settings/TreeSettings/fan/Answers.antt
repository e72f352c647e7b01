use Rattle.{verity_plan.specs.Settings.{IsValid, TreeSettingsFields, digest_len, least_power, most_block}, std.proofs.lemmas.Nat.one_shl}
use Rattle.verity_plan.proofs.{FitLemmas.{ByExponents, fan-exponents, fan-fits, fan-most, least_power-above}, FanLemmas.{digest_len_of-pos, fan-two}}
use Rattle.{verity_plan.proofs.settings.TreeSettings.fan.Goals.After-ilog2-least, std.proofs.Common.{◌≡◌, ℕ, ◌≤◌, ◌-◌, arith, sym, ◌∙◌, ap, subst}}
use Rattle.verity_plan.proofs.settings.TreeSettings.fan.Goals as goal

pub ilog2-least-requires : goal.ilog2-least-requires
ilog2-least-requires c = omega (
  arith,
  c.least_power.ensures.value,
  least_power-above c.digest_len.result,
  c.digest_len.ensures,
  digest_len_of-pos c.self.inside.algorithm,
)

-- the exponents are those of the hash block and of the least power of two that holds a digest
exponents : (c : After-ilog2-least) → ByExponents c.args.self.now c.ilog2-block.result c.ilog2-least.result
exponents c =
    let s = c.args.self.now in
    let valid = subst (λ (t : TreeSettingsFields). IsValid t) c.self.view_is c.self.invariant in
    let size : c.self.inside.hash_block ≡ s.hash_block = ap (λ (t : TreeSettingsFields). t.hash_block) c.self.view_is in
    let width : c.least_power.result ≡ least_power (digest_len s) =
    c.least_power.ensures.value
    ∙ ap least_power (c.digest_len.ensures ∙ ap (λ (t : TreeSettingsFields). digest_len t) c.self.view_is) in
    fan-exponents s c.ilog2-block.result c.ilog2-least.result valid
    (omega (arith, size, c.ilog2-block.ensures.power_le)) (omega (arith, size, c.ilog2-block.ensures.next_power_gt))
    (omega (arith, width, c.ilog2-least.ensures.power_le)) (omega (arith, width, c.ilog2-least.ensures.next_power_gt))

pub overflow_sub-result : goal.overflow_sub-result
overflow_sub-result c = (exponents (goal.at.overflow_sub-result c).After-ilog2-least).within

pub returns-clause-value : goal.returns-clause-value
returns-clause-value c =
    one_shl (c.ilog2-block.result - c.ilog2-least.result) 64 (omega (arith, c.ilog2-block.ensures.bound))
    ∙ sym (exponents (goal.at.returns-clause-value c).After-ilog2-least).fan_is

pub returns-clause-two : goal.returns-clause-two
returns-clause-two c =
    subst (λ (n : ℕ). 2 ≤ n) (sym (returns-clause-value c))
    (fan-two _ (subst (λ (t : TreeSettingsFields). IsValid t) c.self.view_is c.self.invariant))

pub returns-clause-most : goal.returns-clause-most
returns-clause-most c =
    subst (λ (n : ℕ). n ≤ most_block) (sym (returns-clause-value c))
    (fan-most _ (subst (λ (t : TreeSettingsFields). IsValid t) c.self.view_is c.self.invariant))

pub returns-clause-fits : goal.returns-clause-fits
returns-clause-fits c = fan-fits _ (subst (λ (t : TreeSettingsFields). IsValid t) c.self.view_is c.self.invariant)
