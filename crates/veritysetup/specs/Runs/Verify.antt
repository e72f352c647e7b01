-- How a run of verify ends (veritysetup(8), "verify"; statuses and messages are this project's own).
use Rattle.std.specs.Prelude.{◌≡◌, ℕ, true, List, Option, None, Result, Ok, Err, IfErr}
use Rattle.{verity_format.specs.Superblocks.{SuperblockFields, IsSuperblock}, verity_plan.specs.Plans.{PlanFields, plan_at}}
use Rattle.{verity_io.specs.Counting.{Change, Counts, TheDevice, TheSource, failed_at}, verity_plan.specs.declared.plan_fault.PlanFault.PlanFault}
use Rattle.verity_pass.specs.{Comparing.{CompareReads, Judges}, declared.comparing.CompareFault.CompareFault}
use Rattle.veritysetup.specs.{Faults.{IsTold, result_status, side_of}, Options.Settings.read_root, Runs.{HashDevice.superblock_at, Verified.Trusts}}
use Rattle.veritysetup.specs.{Runs.StoredSuperblock.{IsSuperblockFault, ReadsSuperblock}, declared.fault.Fault.Fault}
use Rattle.veritysetup.specs.declared.runs.verify_input.VerifyInput.TheVariants.{Stored, Given}
use Rattle.veritysetup.specs.declared.runs.{verify.Verified.Verified as VerifiedOver, verify_input.VerifyInput.VerifyInput}
use Rattle.veritysetup.specs.declared.fault.Fault.TheVariants as fault
use Rattle.veritysetup.specs.declared.options.option_fault.OptionFault.TheVariants as option

-- the faults before anything is compared: no superblock is read, the hash area that one describes is too large, or the
-- text is no root hash
abbrev pub IsInputFault : Fault → Type 0
IsInputFault fault.HashAreaTooLarge = Unit {0}
IsInputFault (fault.Option option.BadRoot) = Unit {0}
IsInputFault other = IsSuperblockFault other

-- all faults of verify
abbrev pub IsVerifyFault : Fault → Type 0
IsVerifyFault fault.Store = Unit {0}
IsVerifyFault (fault.Compare cause) = Unit {0}
IsVerifyFault other = IsInputFault other

-- there is no plan for what the superblock at this offset describes. It always describes some data, so the hash area is
-- too large
pub record IsTooLarge (offset : ℕ) (device : List ℕ) : Type 0 where
  pub fields : SuperblockFields
  pub superblock : IsSuperblock (superblock_at offset device) fields
  pub cause : PlanFault
  pub no_plan : plan_at fields.tree fields.blocks offset true ≡ Err cause

-- there is a plan, and the text is no root hash
pub record IsBadRoot (offset : ℕ) (text device : List ℕ) : Type 0 where
  pub fields : SuperblockFields
  pub superblock : IsSuperblock (superblock_at offset device) fields
  pub plan : PlanFields
  pub plan_is : plan_at fields.tree fields.blocks offset true ≡ Ok plan
  pub no_root : read_root fields.tree.algorithm text ≡ None

-- why nothing is compared, the first of these: no superblock is read, there is no plan, the text is no root hash
abbrev pub RefusesStored : ℕ → List ℕ → List ℕ → Fault → Type 0
RefusesStored offset text device fault.HashAreaTooLarge = IsTooLarge offset device
RefusesStored offset text device (fault.Option option.BadRoot) = IsBadRoot offset text device
RefusesStored offset text device other = ReadsSuperblock (Err other) offset device

-- why nothing is compared for an input
abbrev pub Refuses : VerifyInput → List ℕ → Fault → Type 0
Refuses (Stored offset text) device cause = RefusesStored offset text.now device cause
Refuses (Given settings) device cause = (cause ≡ fault.Option option.BadRoot) × (settings.now.root ≡ None)

-- the tree is compared: the answer, and how much was read of the source
pub record Compares (input : VerifyInput) (device before after : List ℕ) (result : Result Unit CompareFault)
    : Type 0 where
  pub plan : PlanFields
  pub root : List ℕ
  pub trusted : Trusts input device plan root
  pub verdict : Judges plan device before root result
  pub read : CompareReads plan result before after

-- the verdict, and how much was read of the source: nothing, if the run ends before there is a store
abbrev pub Verifies : {X : Type 0} → VerifyInput → List ℕ → List ℕ → List ℕ → Result X Fault → Type 0
Verifies input device before after (Ok done) = Compares input device before after (Ok tt)
Verifies input device before after (Err fault.Store) =
    ((plan : PlanFields) × (root : List ℕ) × Trusts input device plan root) × (after ≡ before)
Verifies input device before after (Err (fault.Compare cause)) = Compares input device before after (Err cause)
Verifies input device before after (Err other) = Refuses input device other × (after ≡ before)

-- what a run over any source and device answers when all is done: it names no files
abbrev pub Verified : Type 0
Verified = VerifiedOver (Unit {0})

-- a run: one outcome says what became of the source, the device and the writer of the message
pub record VerifyRun (input : VerifyInput) (status : ℕ) (source device : Change)
    (msgs_before msgs_after : Option (List ℕ)) : Type 0 where
  pub outcome : Result Verified Fault
  pub possible : IfErr outcome IsVerifyFault
  pub status_is : status ≡ result_status outcome
  pub verdict : source.told → device.told → Verifies input device.before source.before source.after outcome
  pub message : IsTold outcome msgs_before msgs_after
  pub source_counted : Counts (failed_at side_of TheSource outcome) source.failures_before source.failures_after
  pub device_counted : Counts (failed_at side_of TheDevice outcome) device.failures_before device.failures_after
