use Rattle.std.proofs.Common.{◌≡◌, ◌∙◌, ℕ, ap, refl, Bool, true, false, cond, Option, Some, None, ◌%◌, ◌==◌, sym, subst, arith}
use Rattle.{std.proofs.lemmas.Bool.Decides.nat_tests, verity_plan.specs.Plans.{PlanFields, multiple_of}}
use Rattle.veritysetup.proofs.ChosenPlanLemmas.{accepted_plan-is, plan_is}
use Rattle.veritysetup.proofs.options.settings.settings_of.Goals as goal

-- a number that is taken as a multiple of a unit is one
aligned-is : (unit same_unit bytes offset : ℕ) (r : Option ℕ) → r ≡ multiple_of unit bytes → r ≡ Some offset
    → unit ≡ same_unit → offset % same_unit ≡ 0
aligned-is unit same_unit bytes offset r made given same =
    subst (λ (u : ℕ). offset % u ≡ 0) same (by_test (bytes % unit == 0) refl (sym made ∙ given))
  where
    by_test : (b : Bool) → (bytes % unit == 0) ≡ b → cond b (Some bytes) None ≡ Some offset → offset % unit ≡ 0
    by_test true test e =
        let one : bytes ≡ offset = cc in
        subst (λ (x : ℕ). x % unit ≡ 0) one (grind (arith, nat_tests, test))
    by_test false test e = cc

pub invariant_of-result : goal.invariant_of-result
invariant_of-result c =
    let planned = accepted_plan-is _ _ _ c.in_ok-plan.plan c.in_ok-plan.ensures in
    let made = plan_is c.in_ok-tree.tree _ _ c.in_ok-plan.plan (planned ∙ c.plan_at-planned.ensures) in
    record {
      of_type = ap (λ (p : PlanFields). p.settings.rule) made.plan_is ∙ c.in_ok-tree.ensures.of_type;
      whole = rw made.plan_is refl;
      based = rw made.plan_is made.from_is;
      aligned = rw made.plan_is
          (aligned-is _ _ _ _ _ c.multiple_of.ensures c.in_ok-offset.ensures.ok_part c.offset_unit-unit.ensures.value);
    }
