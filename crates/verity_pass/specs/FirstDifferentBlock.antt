-- Which data block is the first in which two pieces of data differ, and the fault that names it.
use Rattle.std.specs.Prelude.{◌≡◌, ◌≢◌, ◌<◌, ℕ, ◌/◌, List, [], slice_index_or}
use Rattle.{verity_plan.specs.{Plans.PlanFields, Settings.fan}, verity_blocks.specs.Levels.data_blocks}
use Rattle.verity_pass.specs.declared.{comparing.CompareFault.{CompareFault, TheVariants.Differs}, part.Part.TheVariants.Child}

-- data block i is the first in which two pieces of data differ
pub record IsFirstDifferent (p : PlanFields) (x y : List ℕ) (i : ℕ) : Type 0 where
  pub below : i < p.blocks
  pub same : (k : ℕ) → k < i → slice_index_or (data_blocks p x) k [] ≡ slice_index_or (data_blocks p y) k []
  pub differs : slice_index_or (data_blocks p x) i [] ≢ slice_index_or (data_blocks p y) i []

-- the fault that names data block i: the digest of this child differs in the hash block of level 0 above it
abbrev pub names_data_block : PlanFields → ℕ → CompareFault
names_data_block p i = Differs 0 (i / fan p.settings) (Child i)
