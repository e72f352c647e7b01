-- What building a tree answers, how much of the source it reads, and what stands on the device after it.
use Rattle.std.specs.Prelude.{◌≡◌, ℕ, List, Option, Some, None, Result, Ok, Err}
use Rattle.{verity_hash.specs.declared.digest.Digest.Digest, verity_io.specs.{Counting.{Side, TheSource, TheDevice}, Reading.HasRead}}
use Rattle.{verity_plan.specs.Plans.PlanFields, verity_pass.specs.declared.building.BuildFault.TheVariants.{SourceShort, SourceFailed, DeviceFailed}}
use Rattle.verity_blocks.specs.{Levels.{data_blocks, root}, ClosingOrder.block_index, TreeWriting.{tree_on_device, tree_on_device_after, StopsAt}}
use Rattle.verity_pass.specs.{Reading.{EndsWithin, FailsWithin, ReadsUpTo}, declared.building.BuildFault.BuildFault}

-- the answer, and how much was read
abbrev pub Builds : PlanFields → Result Digest BuildFault → List ℕ → List ℕ → Type 0
Builds p (Ok digest) before after = (digest ≡ root p.settings (data_blocks p before)) × HasRead p.wanted before after
Builds p (Err (SourceShort i)) before after = EndsWithin p i before after
Builds p (Err (SourceFailed i)) before after = FailsWithin p i before after
Builds p (Err (DeviceFailed level block)) before after = ReadsUpTo p level block before after

-- what stands on the device, by the answer
abbrev pub BuildsOnDevice : PlanFields → List (List ℕ) → Result Digest BuildFault → List ℕ → List ℕ → Type 0
BuildsOnDevice p blocks (Ok digest) before after = after ≡ tree_on_device p blocks before
BuildsOnDevice p blocks (Err (SourceShort i)) before after = after ≡ tree_on_device_after p blocks i before
BuildsOnDevice p blocks (Err (SourceFailed i)) before after = after ≡ tree_on_device_after p blocks i before
BuildsOnDevice p blocks (Err (DeviceFailed level block)) before after =
    StopsAt p blocks (block_index level block) before after

-- whose call failed
abbrev pub side_of : BuildFault → Option Side
side_of (SourceShort i) = None
side_of (SourceFailed i) = Some TheSource
side_of (DeviceFailed level block) = Some TheDevice

-- a fault of the source
abbrev pub IsOfSource : BuildFault → Type 0
IsOfSource (SourceShort i) = Unit {0}
IsOfSource (SourceFailed i) = Unit {0}
IsOfSource (DeviceFailed level block) = ⊥
