use Rattle.std.{proofs.Common.{◌≡◌, ◌+◌, ◌-◌, ◌^◌}, specs.Int.div_ceil}
use Rattle.verity_plan.specs.{Plans.blocks_from, PlanCounts.level_count_of, Settings.fan}
use Rattle.verity_plan.proofs.plan.Plan.place.Given as goal

-- the levels from this one upward stand before this place
abbrev pub invariant-loop-below : goal.invariant-loop-below
invariant-loop-below l = record {
  count_is : l.count ≡ div_ceil l.self.blocks (fan l.self.settings ^ l.below);
  first_is : l.first ≡ l.self.base + blocks_from (fan l.self.settings) l.self.blocks l.below
      (level_count_of l.self - l.below);
}
