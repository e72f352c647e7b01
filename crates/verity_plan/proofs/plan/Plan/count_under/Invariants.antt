use Rattle.{std.{proofs.Common.{◌≡◌, ◌^◌}, specs.Int.div_ceil}, verity_plan.specs.Settings.fan}
use Rattle.verity_plan.proofs.plan.Plan.count_under.Given as goal

abbrev pub invariant-loop-below : goal.invariant-loop-below
invariant-loop-below l = l.count ≡ div_ceil l.self.blocks (fan l.self.settings ^ l.below)
