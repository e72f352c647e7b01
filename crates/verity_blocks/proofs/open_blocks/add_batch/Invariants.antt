use Rattle.{std.proofs.Common.{◌≡◌, ℕ, ◌+◌, ◌*◌, ◌≤◌, List, length}, verity_plan.specs.PlanCounts.level_count_of}
use Rattle.verity_blocks.specs.Steps.{Batches.HoldsDataBlocks, OpenBlocks.HasOpenBlocks}
use Rattle.verity_blocks.proofs.open_blocks.add_batch.Given as goal

-- the digests before this one have come to the open blocks
abbrev pub invariant-loop-row : goal.invariant-loop-row
invariant-loop-row l = (blocks : List (List ℕ)) (levels : ℕ) → l.plan.blocks ≡ length blocks
    → level_count_of l.plan ≤ levels → levels * l.plan.settings.hash_block ≤ length l.fn.opened
    → HoldsDataBlocks l.plan.settings blocks l.i l.count l.rows
    → HasOpenBlocks l.plan.settings blocks 0 levels l.i l.fn.opened
    → HasOpenBlocks l.plan.settings blocks 0 levels (l.i + l.row) l.opened
