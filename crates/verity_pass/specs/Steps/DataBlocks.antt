-- How a window of data blocks is read, and how a source stops within one of them.
-- For the private functions; not needed to read a public contract.
use Rattle.std.specs.Prelude.{◌≡◌, ℕ, ◌+◌, ◌*◌, ◌<◌, ◌≤◌, List, length, take, drop, Option, Some, None, Result, Ok, Err}
use Rattle.{verity_io.specs.{Counting.{Side, TheSource}, Reading.HasRead}, verity_plan.specs.Plans.PlanFields}
use Rattle.verity_pass.specs.{Reading.{EndsWithin, FailsWithin}, declared.pass.pass_fault.BlockFault.{BlockFault, TheVariants.{Short, Failed}}}
use Rattle.verity_pass.specs.declared.pass.pass_fault.SourceStop.{SourceStop}

-- whose call failed
abbrev pub side_of : BlockFault → Option Side
side_of Short = None
side_of Failed = Some TheSource

-- the source ended or failed within data block i
abbrev pub StopsInBlock : PlanFields → ℕ → List ℕ → BlockFault → List ℕ → Type 0
StopsInBlock p i bytes Short after = EndsWithin p i bytes after
StopsInBlock p i bytes Failed after = FailsWithin p i bytes after

-- the source stopped within a data block of a window, before which so many bytes were read
pub record StopsInWindow (p : PlanFields) (fed : ℕ) (bytes : List ℕ) (stop : SourceStop)
    (window after : List ℕ) : Type 0 where
  pub from : fed ≤ stop.block * p.settings.data_block
  pub to : stop.block * p.settings.data_block < fed + length window
  pub stopped : StopsInBlock p stop.block bytes stop.why after

-- a window begins with so many bytes that come after those that were read before, or the source stopped within it
abbrev pub ReadsWindow : PlanFields → ℕ → List ℕ → Result ℕ SourceStop → List ℕ → List ℕ → Type 0
ReadsWindow p fed bytes (Ok count) window after =
    HasRead (fed + count) bytes after × (take count window ≡ take count (drop fed bytes))
ReadsWindow p fed bytes (Err stop) window after = StopsInWindow p fed bytes stop window after
