use Rattle.std.{proofs.Common.{◌≡◌, ℕ, ◌*◌, Bool, true, false, cond, Option, Some, None, Ok, Err, ap, sym}, specs.Prelude.◌==◌}
use Rattle.verity_plan.specs.{Plans.{PlanFields, base_of, has_room, plan_at, plan_from}, Settings.TreeSettingsFields}
use Rattle.verity_plan.specs.declared.plan_fault.PlanFault.TheVariants.{NoData, TooLarge}

-- a plan's tree is the one that it was asked for
plan_at-settings : (tree : TreeSettingsFields) (blocks offset : ℕ) (plan : PlanFields)
    → plan_at tree blocks offset true ≡ Ok plan → plan.settings ≡ tree
plan_at-settings tree blocks offset plan = by_base (base_of offset true tree.hash_block)
  where
    by_base : (base : Option ℕ) → plan_from tree blocks base ≡ Ok plan → plan.settings ≡ tree
    by_base None made = by_test (blocks == 0) made
      where
        by_test : (none : Bool) → cond none (Err NoData) (Err TooLarge) ≡ Ok plan → plan.settings ≡ tree
        by_test true e = cc
        by_test false e = cc
    by_base (Some base) made = by_test (blocks == 0) made
      where
        wanted_plan : PlanFields
        wanted_plan =
            record { settings = tree; blocks = blocks; wanted = blocks * tree.data_block; base = base }

        by_room : (room : Bool) → cond room (Ok wanted_plan) (Err TooLarge) ≡ Ok plan → plan.settings ≡ tree
        by_room false e = cc
        by_room true e = let same : wanted_plan ≡ plan = cc in sym (ap (λ (p : PlanFields). p.settings) same)

        by_test : (none : Bool)
            → cond none (Err NoData) (cond (has_room wanted_plan) (Ok wanted_plan) (Err TooLarge)) ≡ Ok plan
            → plan.settings ≡ tree
        by_test true e = cc
        by_test false e = by_room (has_room wanted_plan) e
