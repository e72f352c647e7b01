use Rattle.{std.proofs.Common.{length, ◌-◌, ◌≡◌, ℕ, ◌+◌, ◌*◌, ◌<◌, ◌≤◌, List, take, false}, verity_plan.specs.PlanCounts.level_count_of}
use Rattle.verity_blocks.specs.Steps.Feeding.{FeedsOn, Stands}
use Rattle.verity_builders.proofs.feeding.steps.feed_before_end.Given as goal

-- no hash block has closed with the bytes that were taken
abbrev pub invariant-loop-taken : goal.invariant-loop-taken
invariant-loop-taken l = record {
  most : l.taken ≤ length l.piece;
  fed : l.progress.fed ≡ l.fn.progress.fed + l.taken;
  closed : l.progress.closed ≤ l.levels;
  early : l.progress.fed < l.plan.wanted → l.progress.closed ≤ level_count_of l.plan;
  first : l.taken ≡ 0 → l.progress.closed ≡ l.fn.progress.closed;
  none_closes : 0 < l.taken → l.progress.closed ≡ 0;
  stands : (levels : ℕ) (fed : List ℕ) → l.levels ≤ levels
      → levels * l.plan.settings.hash_block ≤ length l.fn.opened → length fed ≡ l.fn.progress.fed
      → Stands l.plan levels fed l.fn.progress.closed l.fn.opened l.fn.window
      → FeedsOn l.plan levels fed l.fn.progress.closed (take l.taken l.piece) false l.progress.closed l.opened l.window;
}

abbrev pub decreases-loop-taken : goal.decreases-loop-taken
decreases-loop-taken l = length l.piece - l.taken
