-- What status 0 of format stands for (veritysetup(8), "format"; cryptsetup's on-disk format page, "dm-verity header";
-- Linux kernel, dm-verity page, "On-disk format"). That nothing else is changed is this project's own.
use Rattle.std.specs.Prelude.{◌≡◌, ℕ, ◌+◌, ◌*◌, ◌≤◌, ◌&&◌, ◌||◌, Bool, true, false, List, length, Option, Some, nat_le, nat_lt, slice_index}
use Rattle.std.specs.Prelude.{if◌then◌else◌}
use Rattle.{std.specs.Io.KnownBytes.Appends, verity_io.specs.Reading.HasRead, verity_format.specs.Superblocks.superblock_bytes}
use Rattle.{verity_plan.specs.Plans.{end_place_of, superblock_size}, veritysetup.specs.Runs.HashDevice.{superblock_at, superblock_for}}
use Rattle.veritysetup.specs.{Texts.Reports.{no_uuid_text, report_text, uuid_text}, Options.Settings.SettingsFields}
use Rattle.verity_blocks.specs.{Levels.{data_blocks, root}, TreeOnDevice.HoldsTree}

-- the root hash of the tree above some data
abbrev pub root_above : SettingsFields → List ℕ → List ℕ
root_above s source = root s.plan.settings (data_blocks s.plan source)

-- i is at least `first`, and below `end`
abbrev pub is_within : ℕ → ℕ → ℕ → Bool
is_within first end i = nat_le first i && nat_lt i end

-- byte i of the hash device is one that format writes: of the superblock, if there is one, or of the hash blocks
abbrev pub is_written : SettingsFields → ℕ → Bool
is_written s i = (s.superblock && is_within s.offset (s.offset + superblock_size) i)
    || is_within (s.plan.base * s.plan.settings.hash_block) (end_place_of s.plan * s.plan.settings.hash_block) i

-- the hash device holds the tree above the data, and the superblock, if there is one; every other byte is as before, or
-- zero past the old end; and the device ends at its old end or after the last byte that is written, whichever is later.
-- For settings whose parts agree (`PartsAgree`), just one device is that (law `formatted_devices_are_written`)
pub record IsFormattedDevice (s : SettingsFields) (source before after : List ℕ) : Type 0 where
  pub tree : HoldsTree s.plan after source (root_above s source)
  pub superblock : s.superblock ≡ true → superblock_at s.offset after ≡ superblock_bytes (superblock_for s)
  pub others : (i : ℕ) → is_written s i ≡ false → slice_index after i ≡ slice_index before i
  pub no_shorter : length before ≤ length after
  -- nothing is added past the last byte that is written
  pub no_longer : (i : ℕ) → length before ≤ i → ((j : ℕ) → i ≤ j → is_written s j ≡ false) → length after ≤ i

-- the text in the report's line of the UUID
abbrev pub report_uuid : SettingsFields → List ℕ
report_uuid s = if s.superblock then uuid_text s.uuid else no_uuid_text

-- the report of format, with this root hash
abbrev pub format_report : SettingsFields → List ℕ → List ℕ → List ℕ
format_report s path root = report_text path (report_uuid s) (superblock_for s) (Some root)

-- what status 0 stands for: just the wanted bytes of the source were read, the device is formatted, and the report with
-- the root hash is added to what the writer holds, if that is known. `source` and `rest` are the bytes that the source
-- has left before and after; `before` and `after` are the device's
pub record IsFormatted (s : SettingsFields) (path source rest before after : List ℕ)
    (out_before out_after : Option (List ℕ)) : Type 0 where
  pub read : HasRead s.plan.wanted source rest
  pub stands : IsFormattedDevice s source before after
  pub printed : Appends out_before out_after (format_report s path (root_above s source))
