-- The plan that options choose is the one that was made.
use Rattle.std.proofs.Common.{◌≡◌, ◌*◌, ◌&&◌, ℕ, nat_lt, ap, refl, Bool, true, false, cond, Option, Some, None, Result, Ok, Err}
use Rattle.verity_plan.specs.{Plans.{PlanFields, plan_from}, Settings.TreeSettingsFields, declared.plan_fault.PlanFault.PlanFault}
use Rattle.verity_plan.{specs.declared.plan_fault.PlanFault.TheVariants.{NoData, TooLarge}, proofs.PlanLemmas.planned_is}
use Rattle.veritysetup.specs.{Options.Choices.accepted_plan, declared.options.option_fault.OptionFault.TheVariants.Overlap}

-- the plan that whole data blocks have from this hash block on
pub record IsPlanFrom (s : TreeSettingsFields) (count : ℕ) (from : Option ℕ) (q : PlanFields) : Type 0 where
  pub base : ℕ
  pub from_is : from ≡ Some base
  pub plan_is : q ≡ record { settings = s; blocks = count; wanted = count * s.data_block; base = base }

pub plan_is : (s : TreeSettingsFields) (count : ℕ) (from : Option ℕ) (q : PlanFields) → Ok q ≡ plan_from s count from
    → IsPlanFrom s count from q
plan_is s count (Some base) q e = record { base = base; from_is = refl; plan_is = planned_is _ q e }
plan_is s count None q e = by_test _ e
  where
    by_test : (none : Bool) → Ok q ≡ cond none (Err NoData) (Err TooLarge) → IsPlanFrom s count None q
    by_test true e = cc
    by_test false e = cc

-- a plan that is accepted is the one that was made
pub accepted_plan-is : (same_file : Bool) (offset : ℕ) (r : Result PlanFields PlanFault) (q : PlanFields)
    → Ok q ≡ accepted_plan same_file offset r → Ok q ≡ r
accepted_plan-is same_file offset (Ok p) q e =
    ap (λ (x : PlanFields). Ok x) (by_test (same_file && nat_lt offset p.wanted) e)
  where
    by_test : (within : Bool) → Ok q ≡ cond within (Err Overlap) (Ok p) → q ≡ p
    by_test true e = cc
    by_test false e = cc
accepted_plan-is same_file offset (Err NoData) q e = cc
accepted_plan-is same_file offset (Err TooLarge) q e = cc
