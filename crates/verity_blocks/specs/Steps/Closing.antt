-- The hash blocks that close with a data block, in rising order of level.
-- For the private functions; not needed to read a public contract.
use Rattle.std.specs.Prelude.{◌≡◌, ◌⊎◌, ℕ, ◌+◌, ◌/◌, ◌%◌, ◌<◌, ◌≤◌, ◌^◌, true}
use Rattle.{verity_plan.specs.{Plans.PlanFields, PlanCounts.level_count_of, Settings.fan}, verity_blocks.specs.ClosingOrder.closes}

-- data block i is the last below a block of level 0
abbrev pub EndsBlock : ℕ → ℕ → ℕ → Type 0
EndsBlock fan n i = (i % fan + 1 ≡ fan) ⊎ (i + 1 ≡ n)

-- the block that closes with data block i after those of the levels below it
pub record ClosesWith (p : PlanFields) (i level index : ℕ) : Type 0 where
  pub level_below : level < level_count_of p
  pub index_is : index ≡ i / fan p.settings ^ (level + 1)
  pub all : (k : ℕ) → k ≤ level → closes (fan p.settings) p.blocks i k ≡ true
