-- What status 0 of verify stands for (veritysetup(8), "verify").
use Rattle.std.specs.Prelude.{◌≡◌, ℕ, true, List, Some, Ok}
use Rattle.{verity_format.specs.Superblocks.{SuperblockFields, IsSuperblock}, verity_io.specs.Reading.HasRead}
use Rattle.{verity_plan.specs.Plans.{PlanFields, plan_at}, verity_blocks.specs.TreeOnDevice.HoldsTree, veritysetup.specs.Options.Settings.read_root}
use Rattle.veritysetup.specs.{declared.runs.verify_input.VerifyInput.{TheVariants.{Stored, Given}, VerifyInput}, Runs.HashDevice.superblock_at}

-- a superblock at this offset and the text of a root hash give the plan of a tree that stands after the superblock, and
-- this root hash
pub record Describes (offset : ℕ) (text device : List ℕ) (plan : PlanFields) (root : List ℕ) : Type 0 where
  pub fields : SuperblockFields
  pub superblock : IsSuperblock (superblock_at offset device) fields
  pub plan_is : plan_at fields.tree fields.blocks offset true ≡ Ok plan
  pub root_is : read_root fields.tree.algorithm text ≡ Some root

-- what the stored tree is compared by for an input: a superblock and the text of a root hash, or settings with a root
-- hash
abbrev pub Trusts : VerifyInput → List ℕ → PlanFields → List ℕ → Type 0
Trusts (Stored offset text) device plan root = Describes offset text.now device plan root
Trusts (Given settings) device plan root = (plan ≡ settings.now.plan) × (settings.now.root ≡ Some root)

-- what status 0 stands for: by the plan and the root hash that the input gives, the device holds the whole tree above
-- the data, of which just the wanted bytes were read, and the root hash is the tree's. `source` and `rest` are the bytes
-- that the source has left before and after
pub record IsVerified (input : VerifyInput) (device source rest : List ℕ) : Type 0 where
  pub plan : PlanFields
  pub root : List ℕ
  pub trusted : Trusts input device plan root
  pub holds : HoldsTree plan device source root
  pub read : HasRead plan.wanted source rest
