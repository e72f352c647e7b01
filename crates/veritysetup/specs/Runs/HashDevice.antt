-- The superblock of a hash device: the bytes that it is read from, and the one that settings have (cryptsetup's on-disk
-- format page, "dm-verity header").
use Rattle.std.specs.Prelude.{ℕ, List, take, drop}
use Rattle.{verity_format.specs.Superblocks.SuperblockFields, verity_plan.specs.Plans.superblock_size}
use Rattle.veritysetup.specs.Options.Settings.{SettingsFields}

-- the bytes that a superblock is read from: as many as one has, from the offset on, or fewer if the device ends before
abbrev pub superblock_at : ℕ → List ℕ → List ℕ
superblock_at offset device = take superblock_size (drop offset device)

-- the superblock of some settings
abbrev pub superblock_for : SettingsFields → SuperblockFields
superblock_for s = record { hash_type = s.hash_type; tree = s.plan.settings; uuid = s.uuid; blocks = s.plan.blocks }
