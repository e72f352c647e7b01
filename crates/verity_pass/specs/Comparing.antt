-- What a comparison of a stored tree answers, and how much of the source it reads.
use Rattle.std.specs.Prelude.{◌≡◌, ℕ, List, Option, Some, None, Result, Ok, Err}
use Rattle.{verity_io.specs.{Counting.{Side, TheSource, TheDevice}, Reading.HasRead}, verity_plan.specs.{Plans.PlanFields, Settings.fan}}
use Rattle.verity_blocks.specs.{ClosingOrder.{BlockIndex, block_index, ComesNext, closed_after}, Levels.data_blocks}
use Rattle.verity_pass.specs.{Reading.{EndsWithin, FailsWithin, ReadsUpTo}, Verdicts.{NoneDiffers, verdict}}
use Rattle.verity_pass.specs.declared.comparing.CompareFault.{CompareFault}
use Rattle.verity_pass.specs.declared.comparing.CompareFault.TheVariants.{SourceShort, SourceFailed, DeviceFailed, Differs, RootDiffers}

-- no block before this one in closing order differs
pub record ComesTo (p : PlanFields) (device bytes : List ℕ) (block : BlockIndex) : Type 0 where
  pub done : List BlockIndex
  pub next : ComesNext (closed_after (fan p.settings) p.blocks p.blocks) done block
  pub same : NoneDiffers p (data_blocks p bytes) device done

-- the answer is a failure before which nothing differs, or else the verdict
abbrev pub Judges : PlanFields → List ℕ → List ℕ → List ℕ → Result Unit CompareFault → Type 0
Judges p device bytes digest (Err (SourceFailed i)) =
    NoneDiffers p (data_blocks p bytes) device (closed_after (fan p.settings) p.blocks i)
Judges p device bytes digest (Err (DeviceFailed level block)) = ComesTo p device bytes (block_index level block)
Judges p device bytes digest answer = verdict p device bytes digest ≡ answer

-- how much was read
abbrev pub CompareReads : PlanFields → Result Unit CompareFault → List ℕ → List ℕ → Type 0
CompareReads p (Ok right) before after = HasRead p.wanted before after
CompareReads p (Err (SourceShort i)) before after = EndsWithin p i before after
CompareReads p (Err (SourceFailed i)) before after = FailsWithin p i before after
CompareReads p (Err (DeviceFailed level block)) before after = ReadsUpTo p level block before after
CompareReads p (Err (Differs level block part)) before after = ReadsUpTo p level block before after
CompareReads p (Err (RootDiffers computed)) before after = HasRead p.wanted before after

-- whose call failed
abbrev pub side_of : CompareFault → Option Side
side_of (SourceShort i) = None
side_of (SourceFailed i) = Some TheSource
side_of (DeviceFailed level block) = Some TheDevice
side_of (Differs level block part) = None
side_of (RootDiffers computed) = None
