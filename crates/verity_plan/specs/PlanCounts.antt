-- What is counted of a plan, as the calls of `Plan` answer it: its levels, their blocks and places, and the bytes of a
-- store. It stands apart from Plans.antt, since neither a plan's limits nor the bytes of a device are defined by it.
use Rattle.std.specs.Prelude.{ℕ, ◌+◌, ◌^◌, ◌*◌, ◌/◌}
use Rattle.{std.specs.Int.div_ceil, verity_io.specs.Writing.most_bytes}
use Rattle.verity_plan.specs.{Settings.{TreeSettingsFields, fan}, Plans.{level_count, level_size, place, PlanFields}}

-- of a plan, the number of levels
abbrev pub level_count_of : PlanFields → ℕ
level_count_of p = level_count (fan p.settings) p.blocks

-- the number of levels of the largest tree that settings allow
abbrev pub most_level_count : TreeSettingsFields → ℕ
most_level_count s = level_count (fan s) (most_bytes / s.data_block)

-- the number of blocks of a level
abbrev pub level_size_of : PlanFields → ℕ → ℕ
level_size_of p level = level_size (fan p.settings) p.blocks level

-- the number of blocks one level below a level: below level 0 they are the data blocks
abbrev pub count_under : PlanFields → ℕ → ℕ
count_under p level = div_ceil p.blocks (fan p.settings ^ level)

-- the place of a block of a level
abbrev pub place_of : PlanFields → ℕ → ℕ → ℕ
place_of p level index = place (fan p.settings) p.blocks p.base level index

-- room for one open block a level, a data block and a stored block to compare with, in bytes
abbrev pub store_length_of : PlanFields → ℕ
store_length_of p = level_count_of p * p.settings.hash_block + p.settings.data_block + p.settings.hash_block
