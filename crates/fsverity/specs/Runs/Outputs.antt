-- A run of `fsverity digest` over one file with output files (fsverity(1), "--out-merkle-tree", "--out-descriptor"):
-- the tree, then the descriptor, then the line. Nothing that comes after the first fault is written.
use Rattle.std.specs.Prelude.{◌≡◌, ◌↔◌, ℕ, ◌<◌, Bool, MatchBool, List, length, take, Option, Result, Ok, Err, IfErr, IsTrue}
use Rattle.{std.specs.Io.KnownBytes.{Appends, Keeps}, command_line.specs.Writing.WritesText, verity_blocks.specs.Levels.root_of_file}
use Rattle.{verity_format.specs.Descriptors.{descriptor_bytes, digest_of_file}, verity_plan.specs.Settings.{TreeSettingsFields, digest_len}}
use Rattle.verity_io.specs.{Counting.{Change, Counts, TheDevice, TheSource, failed_at}, Reading.HasRead}
use Rattle.fsverity.specs.{Faults.{IsTold, result_status, side_of}, Runs.FileDigest.{FaultsIn, Stands, with_tree}, Texts.Lines.digest_line}
use Rattle.fsverity.specs.{Runs.Digested.{descriptor_of, is_too_large}, Texts.TextChanges.{OutputChange, WriterChange}, declared.fault.Fault.Fault}
use Rattle.fsverity.specs.declared.{fault.Fault.TheVariants.{Digest, Descriptor, DigestLine}, texts.digest_lines.Form.Form}
use Rattle.fsverity.specs.declared.runs.{digest_fault.DigestFault.{DigestFault, TheVariants.TooLarge}, outputs.Written.Written}

-- what a run gets beside the file's bytes: the settings, the form of the line, the file's name and its size, and
-- whether the tree and the descriptor are wanted
pub record OutputTask : Type 0 where
  pub settings : TreeSettingsFields
  pub form : Form
  pub name : List ℕ
  pub size : ℕ
  pub wants_tree : Bool
  pub wants_descriptor : Bool

-- the task with these parts
abbrev pub output_task : TreeSettingsFields → Form → List ℕ → ℕ → Bool → Bool → OutputTask
output_task settings form name size wants_tree wants_descriptor = record {
  settings = settings;
  form = form;
  name = name;
  size = size;
  wants_tree = wants_tree;
  wants_descriptor = wants_descriptor;
}

-- all faults of a run over the file of this name, in the order of its steps
abbrev pub IsOutputFault : List ℕ → Fault → Type 0
IsOutputFault file (Digest fault name) = name.now ≡ file
IsOutputFault file (Descriptor count) = Unit {0}
IsOutputFault file (DigestLine fault) = Unit {0}
IsOutputFault file other = ⊥

-- the digest's part of an outcome
abbrev pub digest_result : {X : Type 0} → Result X Fault → Result (Unit {0}) DigestFault
digest_result (Err (Digest fault name)) = Err fault
digest_result outcome = Ok tt

-- how much was read of the source: once there is a digest, all of the file
abbrev pub Reads : OutputTask → Result (Unit {0}) DigestFault → List ℕ → List ℕ → Type 0
Reads task (Ok unit) before after = HasRead task.size before after
Reads task (Err fault) before after = FaultsIn task.settings task.size before after fault

-- what the tree's device holds for these bytes of the source; it stays if no tree is wanted
abbrev pub WritesTree : {X : Type 0} → OutputTask → List ℕ → Result X DigestFault → List ℕ → List ℕ → Type 0
WritesTree task bytes result before after =
    MatchBool task.wants_tree (Stands task.settings task.size bytes result before after) (after ≡ before)

-- the descriptor with this root hash is added if it is wanted
abbrev pub AddsDescriptor : OutputTask → List ℕ → Option (List ℕ) → Option (List ℕ) → Type 0
AddsDescriptor task root before after = MatchBool task.wants_descriptor
    (Appends before after (descriptor_bytes (descriptor_of task.settings task.size root))) (Keeps before after)

-- only this many of the descriptor's first bytes are added, fewer than all; it is wanted then
abbrev pub AddsDescriptorPrefix : OutputTask → List ℕ → ℕ → Option (List ℕ) → Option (List ℕ) → Type 0
AddsDescriptorPrefix task root count before after = MatchBool task.wants_descriptor
    ((count < length (descriptor_bytes (descriptor_of task.settings task.size root)))
    × Appends before after (take count (descriptor_bytes (descriptor_of task.settings task.size root)))) ⊥

-- what is added to the descriptor's writer
abbrev pub WritesDescriptor : {X : Type 0} → OutputTask → List ℕ → Result X Fault → Option (List ℕ)
    → Option (List ℕ) → Type 0
WritesDescriptor task root (Ok done) before after = AddsDescriptor task root before after
WritesDescriptor task root (Err (Descriptor count)) before after = AddsDescriptorPrefix task root count before after
WritesDescriptor task root (Err (DigestLine fault)) before after = AddsDescriptor task root before after
WritesDescriptor task root (Err other) before after = Keeps before after

-- the line for this root hash
abbrev pub digest_line_of_root : OutputTask → List ℕ → List ℕ
digest_line_of_root task root =
    digest_line task.form task.settings.algorithm (digest_of_file (descriptor_of task.settings task.size root))
    task.name

-- what is added to out: the line, or only its first bytes if a write fails
abbrev pub WritesDigestLine : {X : Type 0} → OutputTask → List ℕ → Result X Fault → Option (List ℕ)
    → Option (List ℕ) → Type 0
WritesDigestLine task root (Ok done) before after = WritesText (Ok tt) (digest_line_of_root task root) before after
WritesDigestLine task root (Err (DigestLine fault)) before after =
    WritesText (Err fault) (digest_line_of_root task root) before after
WritesDigestLine task root outcome before after = Keeps before after

-- the descriptor and the line have one root hash, of the settings' length; it is the file's if the source tells its
-- bytes
pub record WritesOutputs {X : Type 0} (task : OutputTask) (outcome : Result X Fault) (told : Type 0)
    (bytes : List ℕ) (outputs : OutputChange) : Type 0 where
  pub root : List ℕ
  pub root_length : length root ≡ digest_len task.settings
  pub root_is : told → root ≡ root_of_file task.settings task.size bytes
  pub descriptor : WritesDescriptor task root outcome outputs.descriptor_before outputs.descriptor_after
  pub printed : WritesDigestLine task root outcome outputs.out_before outputs.out_after

-- a run: one outcome says what became of the source, the tree's device and the writers
pub record OutputRun (task : OutputTask) (status : ℕ) (source tree : Change) (writers : WriterChange) : Type 0 where
  pub outcome : Result Written Fault
  pub possible : IfErr outcome (IsOutputFault task.name)
  pub status_is : status ≡ result_status outcome
  pub too_large : (digest_result outcome ≡ Err TooLarge) ↔ IsTrue (is_too_large task.settings task.size)
  pub read : source.told → Reads task (digest_result outcome) source.before source.after
  pub stands : source.told → tree.told → WritesTree task source.before (digest_result outcome) tree.before tree.after
  pub outputs_written : WritesOutputs task outcome source.told source.before writers.outputs
  pub told : IsTold outcome writers.msgs_before writers.msgs_after
  pub source_counted : Counts (failed_at side_of TheSource outcome) source.failures_before source.failures_after
  pub tree_counted : Counts (failed_at side_of TheDevice outcome) tree.failures_before tree.failures_after

-- what status 0 means: the file was read once, and what is wanted is written
pub record IsWritten (task : OutputTask) (source tree : Change) (outputs : OutputChange) : Type 0 where
  pub read : HasRead task.size source.before source.after
  pub stands : tree.told → MatchBool task.wants_tree
      (tree.after ≡ with_tree task.settings task.size source.before tree.before) (tree.after ≡ tree.before)
  pub descriptor : AddsDescriptor task (root_of_file task.settings task.size source.before)
      outputs.descriptor_before outputs.descriptor_after
  pub printed : Appends outputs.out_before outputs.out_after
      (digest_line_of_root task (root_of_file task.settings task.size source.before))
