-- How much of a source a pass over the data reads: data blocks from the first on, each once.
use Rattle.std.specs.Prelude.{◌≡◌, ℕ, ◌+◌, ◌*◌, ◌<◌, ◌≤◌, min, List, [], length, Contains}
use Rattle.{verity_io.specs.Reading.HasRead, verity_plan.specs.{Plans.PlanFields, Settings.fan}}
use Rattle.verity_blocks.specs.{ClosingOrder.{block_index, closing_with}, Levels.whole_blocks}

-- the bytes of i data blocks, or all that are wanted
abbrev pub bytes_of : PlanFields → ℕ → ℕ
bytes_of p i = min (i * p.settings.data_block) p.wanted

-- a source that ended within data block i: it held i whole blocks, and all its bytes were read
pub record EndsWithin (p : PlanFields) (i : ℕ) (before after : List ℕ) : Type 0 where
  pub below : i < p.blocks
  pub whole_is : i ≡ whole_blocks p before
  pub enough : bytes_of p i ≤ length before
  pub short : length before < bytes_of p (i + 1)
  pub rest : after ≡ []

-- a source that failed within data block i
pub record FailsWithin (p : PlanFields) (i : ℕ) (before after : List ℕ) : Type 0 where
  pub below : i < p.blocks
  pub count : ℕ
  pub from : bytes_of p i ≤ count
  pub to : count < bytes_of p (i + 1)
  pub read : HasRead count before after

-- a source that was read up to the data block with which a hash block closes, and no further
pub record ReadsUpTo (p : PlanFields) (level index : ℕ) (before after : List ℕ) : Type 0 where
  pub i : ℕ
  pub below : i < p.blocks
  pub here : Contains (closing_with (fan p.settings) p.blocks i) (block_index level index)
  pub read : HasRead (bytes_of p (i + 1)) before after
