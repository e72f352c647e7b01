-- The closing order, in which hash blocks close, and so are written and compared, as the data blocks come one after
-- another: a block closes when it is full, or with the last data block. That order is this project's own; the kernel's
-- pages leave it open.
use Rattle.std.specs.Prelude.{◌≡◌, ◌<◌, ℕ, zero, suc, ◌+◌, ◌-◌, ◌/◌, ◌%◌, ◌^◌, Bool, ◌||◌, ◌&&◌, ◌==◌, List, [], ◌∷◌, ◌++◌, map, filter, min, nat_lt}
use Rattle.std.specs.Prelude.{◌*◌, if◌then◌else◌}
use Rattle.std.specs.List.{range_with_len, count_by}
use Rattle.verity_plan.specs.{Plans.{level_count, IsTreeBlock, PlanFields}, PlanCounts.level_count_of, Settings.{TreeSettingsFields, fan}}

-- a hash block of a tree, by its level and its index in the level
pub record BlockIndex : Type 0 where
  pub level : ℕ
  pub index : ℕ

abbrev pub block_index : ℕ → ℕ → BlockIndex
block_index level index = record { level = level; index = index }

-- data block i, counted from 0, is the last below a block of this level
abbrev pub closes : ℕ → ℕ → ℕ → ℕ → Bool
closes fan n i level = ((i + 1) % fan ^ (level + 1) == 0) || (i + 1 == n)

-- the blocks that close with data block i, counted from 0, in rising order of level
abbrev pub closing_with : ℕ → ℕ → ℕ → List BlockIndex
closing_with fan n i = map (λ level. block_index level (i / fan ^ (level + 1)))
    (filter (closes fan n i) (range_with_len 0 (level_count fan n)))

-- the blocks of the levels below m that close with data block i, if all of them do
abbrev pub first_closing : ℕ → ℕ → ℕ → List BlockIndex
first_closing fan i m = map (λ level. block_index level (i / fan ^ (level + 1))) (range_with_len 0 m)

-- the blocks that have closed after i data blocks, in closing order
unfoldable pub closed_after : ℕ → ℕ → ℕ → List BlockIndex
closed_after fan n zero = []
closed_after fan n (suc i) = closed_after fan n i ++ closing_with fan n i

-- the block that comes next in a list after those that are done
pub record ComesNext (all done : List BlockIndex) (next : BlockIndex) : Type 0 where
  pub rest : List BlockIndex
  pub in_order : all ≡ (done ++ next ∷ []) ++ rest

-- how often a block of a level stands in a list
abbrev pub times : ℕ → ℕ → List BlockIndex → ℕ
times level index hash_blocks = count_by (λ block. (block.level == level) && (block.index == index)) hash_blocks

-- the closing order has each block of the tree once, and nothing else
pub record ClosesOnce (fan n : ℕ) : Type 0 where
  pub once : (l j : ℕ) → IsTreeBlock fan n l j → times l j (closed_after fan n n) ≡ 1
  pub only : (l j : ℕ) → 0 < times l j (closed_after fan n n) → IsTreeBlock fan n l j

-- the number of data blocks before the one that the last of some bytes is in
abbrev pub blocks_before : TreeSettingsFields → ℕ → ℕ
blocks_before s count = (count - 1) / s.data_block

-- the hash blocks that were handed out, in closing order, when so many bytes were fed and the hash blocks of so many
-- levels above the last of them were handed out
abbrev pub handed_out : PlanFields → ℕ → ℕ → List BlockIndex
handed_out p count closed = closed_after (fan p.settings) p.blocks (blocks_before p.settings count)
    ++ first_closing (fan p.settings) (blocks_before p.settings count) closed

-- of how many levels hash blocks can have closed above the last of so many bytes: before the last byte only of those of
-- the plan's tree, and with it of all up to a level, as above the last part of a tree
abbrev pub most_closed : PlanFields → ℕ → ℕ → ℕ
most_closed own level count = if nat_lt count own.wanted then level_count_of own else level

-- after how many data blocks a hash block closes
abbrev pub closing_moment : ℕ → ℕ → BlockIndex → ℕ
closing_moment fan n block = min ((block.index + 1) * fan ^ (block.level + 1)) n
