-- What becomes of hash blocks that have closed, and of a device with them: they are written, or compared.
-- For the private functions; not needed to read a public contract.
use Rattle.std.specs.Prelude.{◌≡◌, ◌≢◌, ℕ, Bool, true, false, List, Option, Some, None, if◌then◌else◌}
use Rattle.verity_io.specs.{Counting.{Side, TheDevice}, Writing.Spoiled, declared.failed.Failed.Failed}
use Rattle.{verity_plan.specs.Plans.{PlanFields, start_byte_of}, verity_pass.specs.declared.pass.pass_fault.Stop.Stop}
use Rattle.verity_blocks.specs.{ClosingOrder.{BlockIndex, block_index}, TreeOnDevice.{stored_block, tree_block}, TreeWriting.device_with}
use Rattle.verity_pass.specs.{Verdicts.{NoneDiffers, part_of}, declared.pass.comparing.CompareStop.{CompareStop, TheVariants.{Unread, Differs}}}

-- whose call failed: the device's, or no one's
abbrev pub side_by : {F : Type 0} → (F → Bool) → F → Option Side
side_by failed why = if failed why then Some TheDevice else None

-- the hash block at which something stops, and why
abbrev pub stop_at : {F : Type 0} → ℕ → ℕ → F → Stop F
stop_at level block why = record { level = level; block = block; why = why }

abbrev pub stop_side : {F : Type 0} → (F → Bool) → Stop F → Option Side
stop_side failed stop = side_by failed stop.why

-- whether a hash block couldn't be written: each stop of writing is that
abbrev pub is_unwritten : Failed → Bool
is_unwritten why = true

-- of a device that is written nothing is known without the blocks
abbrev pub KeepsAny : List ℕ → List ℕ → Type 0
KeepsAny before after = Unit {0}

-- the blocks are put at their places
abbrev pub WritesAll : PlanFields → List (List ℕ) → List BlockIndex → List ℕ → List ℕ → Type 0
WritesAll p blocks done before after = after ≡ device_with p.settings blocks p.base done before

-- the blocks before it are put at their places, and its own range is unknown
abbrev pub StopsWriting : PlanFields → List (List ℕ) → List BlockIndex → Stop Failed → List ℕ → List ℕ → Type 0
StopsWriting p blocks done stop before after = Spoiled (device_with p.settings blocks p.base done before)
    (start_byte_of p stop.level stop.block) p.settings.hash_block after

-- whether a stored block couldn't be read
abbrev pub is_unread : CompareStop → Bool
is_unread Unread = true
is_unread (Differs part) = false

-- a device that is compared stays
abbrev pub KeepsSame : List ℕ → List ℕ → Type 0
KeepsSame before after = after ≡ before

-- the blocks stand at their places, and the device stays
abbrev pub HoldsAll : PlanFields → List (List ℕ) → List BlockIndex → List ℕ → List ℕ → Type 0
HoldsAll p blocks done before after = (after ≡ before) × NoneDiffers p blocks before done

-- the block at a place could not be read, or isn't the tree's
abbrev pub IsStopFor : PlanFields → List (List ℕ) → List ℕ → BlockIndex → CompareStop → Type 0
IsStopFor p blocks device at Unread = Unit {0}
IsStopFor p blocks device at (Differs part) =
    (stored_block p device at.level at.index ≢ tree_block p.settings blocks at.level at.index)
    × (part ≡ part_of p at.level at.index (stored_block p device at.level at.index)
    (tree_block p.settings blocks at.level at.index))

-- the blocks before it stand at their places, the device stays, and this is why it stops
abbrev pub StopsComparing : PlanFields → List (List ℕ) → List BlockIndex → Stop CompareStop → List ℕ → List ℕ → Type 0
StopsComparing p blocks done stop before after = (after ≡ before) × NoneDiffers p blocks before done
    × IsStopFor p blocks before (block_index stop.level stop.block) stop.why

-- what an implementation says becomes of a device with the hash blocks that close, and which of its reasons to stop is
-- a failure
pub record Effects (F : Type 0) : Type 1 where
  pub is_failure : F → Bool
  pub keeps : List ℕ → List ℕ → Type 0
  pub leaves : PlanFields → List (List ℕ) → List BlockIndex → List ℕ → List ℕ → Type 0
  pub stops : PlanFields → List (List ℕ) → List BlockIndex → Stop F → List ℕ → List ℕ → Type 0

abbrev pub effects : {F : Type 0} → (F → Bool) → (List ℕ → List ℕ → Type 0)
    → (PlanFields → List (List ℕ) → List BlockIndex → List ℕ → List ℕ → Type 0)
    → (PlanFields → List (List ℕ) → List BlockIndex → Stop F → List ℕ → List ℕ → Type 0) → Effects F
effects is_failure keeps leaves stops = record { is_failure = is_failure; keeps = keeps; leaves = leaves; stops = stops }
