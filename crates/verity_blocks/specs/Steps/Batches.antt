-- Data blocks that are hashed side by side and added together.
-- For the private functions; not needed to read a public contract.
use Rattle.std.specs.Prelude.{◌≡◌, ℕ, ◌+◌, ◌<◌, ◌≤◌, List}
use Rattle.{std.specs.Fork.slice_chunk, verity_plan.specs.{Plans.PlanFields, Settings.{TreeSettingsFields, hash, fan}}}
use Rattle.verity_blocks.specs.Steps.{Closing.EndsBlock, OpenBlocks.level_digest}

-- `count` data blocks from i on stand in the rows
abbrev pub HoldsDataBlocks : TreeSettingsFields → List (List ℕ) → ℕ → ℕ → List ℕ → Type 0
HoldsDataBlocks s blocks i count rows = (r : ℕ) → r < count
    → hash s (slice_chunk rows s.data_block r) ≡ level_digest s blocks (i + r) 0

-- a batch: `count` data blocks from i on, one to eight, of which none but the last is the last below a hash block
pub record IsBatch (p : PlanFields) (i count : ℕ) : Type 0 where
  pub some : 0 < count
  pub most : count ≤ 8
  pub below : i + count ≤ p.blocks
  pub none_closes : (k : ℕ) → i ≤ k → k + 1 < i + count → ¬ EndsBlock (fan p.settings) p.blocks k
