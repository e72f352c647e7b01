-- One pass over the data: how much was read, and what becomes of a device with the hash blocks that closed.
-- For the private functions; not needed to read a public contract.
use Rattle.std.specs.Prelude.{◌≡◌, ℕ, ◌+◌, ◌<◌, ◌≤◌, List, [], length, Result, Ok, Err, IfOk}
use Rattle.verity_io.specs.{Counting.{Change, Counts, TheDevice, TheSource, failed_at}, Reading.HasRead}
use Rattle.{verity_hash.specs.declared.digest.Digest.Digest, verity_plan.specs.{Plans.PlanFields, Settings.{digest_len, fan}}}
use Rattle.verity_blocks.specs.{ClosingOrder.{BlockIndex, block_index, ComesNext, closed_after}, Levels.{data_blocks, root}}
use Rattle.verity_pass.specs.{Reading.{ReadsUpTo, bytes_of}, Steps.{DataBlocks.StopsInBlock, OnClosed.Effects, PassFaults.side_of}}
use Rattle.verity_pass.specs.declared.pass.pass_fault.{PassFault.{PassFault, TheVariants.{InData, AtBlock}}, Stop.Stop}

-- the answer, and how much was read
abbrev pub Passes : {F : Type 0} → PlanFields → Result Digest (PassFault F) → List ℕ → List ℕ → Type 0
Passes p (Ok digest) before after = (digest ≡ root p.settings (data_blocks p before)) × HasRead p.wanted before after
Passes p (Err (InData stop)) before after = StopsInBlock p stop.block before stop.why after
Passes p (Err (AtBlock stop)) before after = ReadsUpTo p stop.level stop.block before after

-- a pass over these bytes stops at a hash block: those before it in closing order have closed
pub record StopsFor {F : Type 0} (w : Effects F) (p : PlanFields) (bytes : List ℕ) (stop : Stop F)
    (before after : List ℕ) : Type 0 where
  pub i : ℕ
  pub below : i < p.blocks
  pub enough : bytes_of p (i + 1) ≤ length bytes
  pub done : List BlockIndex
  pub next : ComesNext (closed_after (fan p.settings) p.blocks (i + 1)) done (block_index stop.level stop.block)
  pub stopped : w.stops p (data_blocks p bytes) done stop before after

-- the device after a pass over these bytes
abbrev pub PassesOver : {F : Type 0} → Effects F → PlanFields → List ℕ → Result Digest (PassFault F) → List ℕ → List ℕ
    → Type 0
PassesOver w p bytes (Ok digest) before after =
    w.leaves p (data_blocks p bytes) (closed_after (fan p.settings) p.blocks p.blocks) before after
PassesOver w p bytes (Err (InData stop)) before after =
    w.leaves p (data_blocks p bytes) (closed_after (fan p.settings) p.blocks stop.block) before after
PassesOver w p bytes (Err (AtBlock stop)) before after = StopsFor w p bytes stop before after

-- a pass: what it answers, and what becomes of the source and the device
pub record PassRun {F : Type 0} (w : Effects F) (p : PlanFields) (result : Result Digest (PassFault F))
    (source device : Change) : Type 0 where
  pub size : IfOk result (λ root. length root ≡ digest_len p.settings)
  pub source_counted : Counts (failed_at (side_of w.is_failure) TheSource result) source.failures_before
      source.failures_after
  pub device_counted : Counts (failed_at (side_of w.is_failure) TheDevice result) device.failures_before
      device.failures_after
  pub read : source.told → Passes p result source.before source.after
  pub keeps : device.told → w.keeps device.before device.before → w.keeps device.before device.after
  pub leaves : source.told → device.told → w.leaves p (data_blocks p source.before) [] device.before device.before
      → PassesOver w p source.before result device.before device.after
