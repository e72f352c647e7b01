-- How a run of format ends (veritysetup(8), "format"; statuses and messages are this project's own). If it stops at a
-- fault, nothing that comes later has been done: the superblock is written after all hash blocks, the report last.
use Rattle.std.specs.Prelude.{◌≡◌, ℕ, true, List, Result, Ok, Err, if◌then◌else◌, Option}
use Rattle.{std.specs.Io.KnownBytes.{Appends, Keeps}, verity_plan.specs.Plans.superblock_size, command_line.specs.Writing.WritesText}
use Rattle.verity_io.specs.{Counting.{Change, Counts, TheDevice, TheSource, failed_at}, Writing.{put, Spoiled}, Reading.HasRead}
use Rattle.{verity_pass.specs.Building.{Builds, BuildsOnDevice}, verity_blocks.specs.{TreeWriting.tree_on_device, Levels.data_blocks}}
use Rattle.veritysetup.specs.{Faults.{IsTold, result_status, side_of}, Options.Settings.SettingsFields, Runs.HashDevice.superblock_for}
use Rattle.veritysetup.specs.{Runs.Formatted.{root_above, format_report}, Texts.TextChanges.TextChange, declared.fault.Fault.Fault}
use Rattle.{veritysetup.specs.declared.runs.format.Formatted.Formatted as FormattedOver, verity_format.specs.Superblocks.superblock_bytes}
use Rattle.veritysetup.specs.declared.fault.Fault.TheVariants as fault

-- a device with the superblock at the hash offset, if there is one
abbrev pub with_superblock : SettingsFields → List ℕ → List ℕ
with_superblock s device = if s.superblock then put device s.offset (superblock_bytes (superblock_for s)) else device

-- the device with the whole tree above these data blocks, and the superblock
abbrev pub formatted_device : SettingsFields → List (List ℕ) → List ℕ → List ℕ
formatted_device s blocks before = with_superblock s (tree_on_device s.plan blocks before)

-- how much was read of the source: once the tree is built, the bytes of all data blocks
abbrev pub Reads : {X : Type 0} → SettingsFields → Result X Fault → List ℕ → List ℕ → Type 0
Reads s (Err fault.Store) before after = after ≡ before
Reads s (Err (fault.Build cause)) before after = Builds s.plan (Err cause) before after
Reads s outcome before after = HasRead s.plan.wanted before after

-- what stands on the device: once the superblock is written, all that format leaves
abbrev pub Writes : {X : Type 0} → SettingsFields → List (List ℕ) → Result X Fault → List ℕ → List ℕ → Type 0
Writes s blocks (Err fault.Store) before after = after ≡ before
Writes s blocks (Err (fault.Build cause)) before after = BuildsOnDevice s.plan blocks (Err cause) before after
Writes s blocks (Err fault.SuperblockUnwritten) before after =
    (s.superblock ≡ true) × Spoiled (tree_on_device s.plan blocks before) s.offset superblock_size after
Writes s blocks outcome before after = after ≡ formatted_device s blocks before

-- what is added to out: the report, or its first bytes if a write fails. No other fault is one of format
abbrev pub PrintsReport : {X : Type 0} → List ℕ → Result X Fault → Option (List ℕ) → Option (List ℕ) → Type 0
PrintsReport report (Ok done) before after = Appends before after report
PrintsReport report (Err (fault.Report cause)) before after = WritesText (Err cause) report before after
PrintsReport report (Err fault.Store) before after = Keeps before after
PrintsReport report (Err (fault.Build cause)) before after = Keeps before after
PrintsReport report (Err fault.SuperblockUnwritten) before after = Keeps before after
PrintsReport report (Err other) before after = ⊥

-- what a run over any source and device answers when all is done: it names no files
abbrev pub Formatted : Type 0
Formatted = FormattedOver (Unit {0})

-- a run: one outcome says what became of the source, the device and the writers
pub record FormatRun (s : SettingsFields) (path : List ℕ) (status : ℕ) (source device : Change) (texts : TextChange)
    : Type 0 where
  pub outcome : Result Formatted Fault
  pub status_is : status ≡ result_status outcome
  pub read : source.told → Reads s outcome source.before source.after
  pub stands : source.told → device.told
      → Writes s (data_blocks s.plan source.before) outcome device.before device.after
  pub root_hash : List ℕ
  pub root_is : source.told → root_hash ≡ root_above s source.before
  pub printed : PrintsReport (format_report s path root_hash) outcome texts.out_before texts.out_after
  pub message : IsTold outcome texts.msgs_before texts.msgs_after
  pub source_counted : Counts (failed_at side_of TheSource outcome) source.failures_before source.failures_after
  pub device_counted : Counts (failed_at side_of TheDevice outcome) device.failures_before device.failures_after
