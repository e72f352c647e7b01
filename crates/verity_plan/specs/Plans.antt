-- A plan: how many hash blocks each level has, where they stand, and what is read; and which sizes make one: at least
-- one data block, and a data area and a hash area of at most as many bytes as a device can have, `most_bytes`.
-- Of the functions of a plan (`.._of`) this file has those by which its limits and the bytes of a device are defined;
-- the others are in PlanCounts.antt.
--
-- Levels: Linux kernel, dm-verity page, "Hash Tree". Places, counted in hash blocks: the top level first and level 0
-- last, without gaps (the same page, "On-disk format": a depth at a time, from the root; cryptsetup's on-disk format
-- page; Linux kernel, fs-verity page, "FS_IOC_READ_VERITY_METADATA").
use Rattle.std.specs.Prelude.{◌<◌, ◌≤◌, ℕ, ◌+◌, ◌^◌, nat_le, ◌≡◌, ◌-◌, ◌*◌, ◌/◌, ◌%◌, ◌&&◌, ◌==◌, Bool, true, false, Option, Some, None, Result, Ok}
use Rattle.std.specs.Prelude.{Err, if◌then◌else◌}
use Rattle.{std.specs.{List.{range_with_len, sum_by}, Int.div_ceil}, verity_io.specs.Writing.most_bytes}
use Rattle.verity_plan.specs.{Settings.{least_up_to, TreeSettingsFields, fan, IsValid}, declared.plan_fault.PlanFault.PlanFault}
use Rattle.verity_plan.specs.declared.plan_fault.PlanFault.TheVariants.{NoData, TooLarge}

-- the number of levels: the least with n ≤ fan ^ levels
unfoldable pub level_count : ℕ → ℕ → ℕ
level_count fan n = least_up_to n (λ l. nat_le n (fan ^ l))

-- the number of blocks of a level, level 0 next to the data
abbrev pub level_size : ℕ → ℕ → ℕ → ℕ
level_size fan n level = div_ceil n (fan ^ (level + 1))

-- the number of blocks of so many levels, from this one upward
abbrev pub blocks_from : ℕ → ℕ → ℕ → ℕ → ℕ
blocks_from fan n level levels = sum_by (level_size fan n) (range_with_len level levels)

-- the tree above n data blocks has this block of this level
pub record IsTreeBlock (fan n level index : ℕ) : Type 0 where
  pub level_below : level < level_count fan n
  pub index_below : index < level_size fan n level

-- the place of a block of a level: the levels above it stand before it
abbrev pub place : ℕ → ℕ → ℕ → ℕ → ℕ → ℕ
place fan n base level index = base + blocks_from fan n (level + 1) (level_count fan n - (level + 1)) + index

-- the place after all blocks
abbrev pub end_place : ℕ → ℕ → ℕ → ℕ
end_place fan n base = base + blocks_from fan n 0 (level_count fan n)

-- the byte at which a block of a level stands
abbrev pub start_byte : TreeSettingsFields → ℕ → ℕ → ℕ → ℕ → ℕ
start_byte s n base level index = place (fan s) n base level index * s.hash_block

-- the settings, the number of data blocks, how many bytes are read for them, and where the tree begins, in hash blocks
pub record PlanFields : Type 0 where
  pub settings : TreeSettingsFields
  pub blocks : ℕ
  pub wanted : ℕ
  pub base : ℕ

-- of a plan, the place after all blocks
abbrev pub end_place_of : PlanFields → ℕ
end_place_of p = end_place (fan p.settings) p.blocks p.base

-- the byte at which a block of a plan's level stands
abbrev pub start_byte_of : PlanFields → ℕ → ℕ → ℕ
start_byte_of p level index = start_byte p.settings p.blocks p.base level index

-- the tree has this block of this level
abbrev pub HasBlock : PlanFields → ℕ → ℕ → Type 0
HasBlock p level index = IsTreeBlock (fan p.settings) p.blocks level index

-- the number of data blocks of a size in bytes
abbrev pub block_count : TreeSettingsFields → ℕ → ℕ
block_count s size = div_ceil size s.data_block

-- the plan of a file's tree, which has its device to itself
abbrev pub plan_of_file : TreeSettingsFields → ℕ → PlanFields
plan_of_file s size = record { settings = s; blocks = block_count s size; wanted = size; base = 0 }

-- the length of a superblock in bytes
abbrev pub superblock_size : ℕ
superblock_size = 512

-- where the tree begins, in hash blocks: at the first whole hash block after a superblock at this offset, or without
-- one at the hash block that the offset lies in, which begins at the offset if that is a multiple of its size
-- (cryptsetup's on-disk format page; veritysetup(8), `--hash-offset`); none if the superblock's end, or the offset, is
-- past the limit
abbrev pub base_of : ℕ → Bool → ℕ → Option ℕ
base_of offset true hash_block =
    if nat_le (offset + superblock_size) most_bytes then Some (div_ceil (offset + superblock_size) hash_block) else None
base_of offset false hash_block = if nat_le offset most_bytes then Some (offset / hash_block) else None

-- what a hash offset is a multiple of: a superblock's length, and without a superblock the size of a hash block
-- (veritysetup(8), `--hash-offset`)
abbrev pub offset_unit : Bool → ℕ → ℕ
offset_unit true hash_block = superblock_size
offset_unit false hash_block = hash_block

-- this number of bytes, if it is a multiple of a unit
abbrev pub multiple_of : ℕ → ℕ → Option ℕ
multiple_of unit bytes = if bytes % unit == 0 then Some bytes else None

-- the data area, and the hash device up to the tree's end, are within the limit
abbrev pub has_room : PlanFields → Bool
has_room p = nat_le (p.blocks * p.settings.data_block) most_bytes
    && nat_le (end_place_of p * p.settings.hash_block) most_bytes

-- a plan that can be carried out
pub record IsPlan (p : PlanFields) : Type 0 where
  pub valid : IsValid p.settings
  pub some : 0 < p.wanted
  pub blocks_are : p.blocks ≡ block_count p.settings p.wanted
  pub data_most : p.blocks * p.settings.data_block ≤ most_bytes
  pub hash_most : end_place_of p * p.settings.hash_block ≤ most_bytes

-- the plan, or why there is none
abbrev pub checked_plan : PlanFields → Result PlanFields PlanFault
checked_plan p = if p.blocks == 0 then Err NoData else (if has_room p then Ok p else Err TooLarge)

-- a plan for whole data blocks
abbrev pub plan_for_blocks : TreeSettingsFields → ℕ → ℕ → Result PlanFields PlanFault
plan_for_blocks s blocks base =
    checked_plan (record { settings = s; blocks = blocks; wanted = blocks * s.data_block; base = base })

-- a plan for a size in bytes, the last block perhaps not whole
abbrev pub plan_for_bytes : TreeSettingsFields → ℕ → ℕ → Result PlanFields PlanFault
plan_for_bytes s size base = checked_plan
    (record { settings = s; blocks = block_count s size; wanted = size; base = base })

-- the plan for this number of data blocks if the tree begins at this hash block; without one there is no data, or else
-- the hash area is too large
abbrev pub plan_from : TreeSettingsFields → ℕ → Option ℕ → Result PlanFields PlanFault
plan_from tree blocks (Some base) = plan_for_blocks tree blocks base
plan_from tree blocks None = if blocks == 0 then Err NoData else Err TooLarge

-- the plan for this number of data blocks with this hash offset, after a superblock if there is one
abbrev pub plan_at : TreeSettingsFields → ℕ → ℕ → Bool → Result PlanFields PlanFault
plan_at tree blocks offset superblock = plan_from tree blocks (base_of offset superblock tree.hash_block)
