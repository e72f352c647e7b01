-- How a run of dump ends (veritysetup(8), "dump"; the statuses are this project's own).
use Rattle.std.specs.Prelude.{◌≡◌, ℕ, List, Option, None, Result, Ok, Err}
use Rattle.{std.specs.Io.KnownBytes.Keeps, verity_format.specs.Superblocks.{SuperblockFields, IsSuperblock}}
use Rattle.{verity_io.specs.Counting.{Change, Counts, TheDevice, failed_at}, veritysetup.specs.declared.runs.dump.Dumped.Dumped}
use Rattle.veritysetup.specs.{Faults.{IsTold, result_status, side_of}, Texts.{Reports.{report_text, uuid_text}, TextChanges.TextChange}}
use Rattle.veritysetup.specs.{Runs.{HashDevice.superblock_at, StoredSuperblock.{IsSuperblockFault, ReadsSuperblock}}, declared.fault.Fault.Fault}
use Rattle.command_line.specs.{Writing.WritesText, declared.writing.print_fault.PrintFault.PrintFault}
use Rattle.veritysetup.specs.declared.fault.Fault.TheVariants as fault

-- the report of the superblock at an offset of the device is printed, without a root hash
abbrev pub ReportsSuperblock : ℕ → List ℕ → Change → Result (Unit {0}) PrintFault → Option (List ℕ)
    → Option (List ℕ) → Type 0
ReportsSuperblock offset path device result before after = (v : SuperblockFields)
    × (device.told → IsSuperblock (superblock_at offset device.before) v)
    × WritesText result (report_text path (uuid_text v.uuid) v None) before after

-- what is printed of a device with the superblock at an offset. The superblock's faults and those of the report are the
-- only ones of dump
abbrev pub DumpsTo : {X : Type 0} → ℕ → List ℕ → Change → Result X Fault → Option (List ℕ) → Option (List ℕ) → Type 0
DumpsTo offset path device (Ok done) before after = ReportsSuperblock offset path device (Ok tt) before after
DumpsTo offset path device (Err (fault.Report cause)) before after =
    ReportsSuperblock offset path device (Err cause) before after
DumpsTo offset path device (Err cause) before after = IsSuperblockFault cause
    × (device.told → ReadsSuperblock (Err cause) offset device.before) × Keeps before after

-- a run on a device with the superblock at an offset: one outcome says what became of each
pub record DumpRun (offset : ℕ) (path : List ℕ) (status : ℕ) (device : Change) (texts : TextChange) : Type 0 where
  pub outcome : Result Dumped Fault
  pub status_is : status ≡ result_status outcome
  pub printed : DumpsTo offset path device outcome texts.out_before texts.out_after
  pub message : IsTold outcome texts.msgs_before texts.msgs_after
  pub counted : Counts (failed_at side_of TheDevice outcome) device.failures_before device.failures_after
