use Rattle.{std.proofs.Common.{length, ◌*◌, ◌≡◌, ℕ, ◌≤◌, List}, verity_plan.specs.{PlanCounts.level_count_of, Settings.digest_len}}
use Rattle.verity_blocks.specs.{Levels.data_blocks, Steps.{Feeding.HasFed, OpenBlocks.{IsAsking, carry_state}}}
use Rattle.verity_blocks.proofs.closing.digest_below.Given as goal

-- the digest that comes to the level with the last data block; below it the open blocks are those before the last window's
-- first
abbrev pub invariant-loop-level : goal.invariant-loop-level
invariant-loop-level l = record {
  size : length l.digest ≡ digest_len l.plan.settings;
  asks : (levels : ℕ) (fed : List ℕ) → level_count_of l.plan ≤ levels
      → levels * l.plan.settings.hash_block ≤ length l.fn.opened → length fed ≡ l.plan.wanted
      → HasFed l.plan.settings levels fed l.fn.opened l.fn.window
      → IsAsking l.plan.settings (data_blocks l.plan fed) l.first (carry_state l.last l.level levels) l.opened l.digest;
}
