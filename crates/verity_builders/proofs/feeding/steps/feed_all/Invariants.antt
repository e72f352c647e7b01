use Rattle.{std.proofs.Common.{length, ◌-◌, ◌≡◌, ℕ, ◌+◌, ◌*◌, ◌≤◌, ◌++◌, List, take}, verity_plan.specs.PlanCounts.level_count_of}
use Rattle.verity_blocks.specs.Steps.Feeding.{HasFed, Stands}
use Rattle.verity_builders.proofs.feeding.steps.feed_all.Given as goal

-- the bytes that were taken were fed, and no hash block has closed after the last of the piece
abbrev pub invariant-pieces : goal.invariant-pieces
invariant-pieces l = record {
  most : l.taken ≤ length l.piece;
  fed : l.progress.fed ≡ l.fn.count + l.taken;
  closed : l.progress.closed ≤ level_count_of l.plan;
  none_closes : l.taken ≡ length l.piece → l.progress.closed ≡ 0;
  stands : (levels : ℕ) (fed : List ℕ) → level_count_of l.plan ≤ levels
      → levels * l.plan.settings.hash_block ≤ length l.fn.opened → length fed ≡ l.fn.count
      → HasFed l.plan.settings levels fed l.fn.opened l.fn.window
      → Stands l.plan levels (fed ++ take l.taken l.piece) l.progress.closed l.opened l.window;
}

-- a step takes bytes, or one level more closes
abbrev pub decreases-pieces : goal.decreases-pieces
decreases-pieces l = (length l.piece - l.taken) * (level_count_of l.plan + 1) + (level_count_of l.plan - l.progress.closed)
