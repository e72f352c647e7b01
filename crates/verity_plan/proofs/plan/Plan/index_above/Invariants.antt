use Rattle.{std.proofs.Common.{◌≡◌, ◌/◌, ◌^◌}, verity_plan.specs.Settings.fan}
use Rattle.verity_plan.proofs.plan.Plan.index_above.Given as goal

abbrev pub invariant-loop-below : goal.invariant-loop-below
invariant-loop-below l = l.index ≡ l.i / fan l.self.settings ^ l.below
