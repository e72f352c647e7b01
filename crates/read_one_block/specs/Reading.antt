-- What reading one block of an image gives.
use Rattle.std.specs.Prelude.{◌≡◌, ◌⊎◌, ◌<◌, ⊤, ℕ, ◌+◌, ◌*◌, ◌/◌, ◌^◌, List, [], length, slice_index_or, Option, Some, None, Result, Ok, Err}
use Rattle.{std.specs.Fork.slice_chunk, verity_io.specs.Counting.{Side, TheSource, TheDevice}, verity_hash.specs.Hashing.with_zeros}
use Rattle.verity_plan.specs.{Plans.PlanFields, PlanCounts.level_count_of, Settings.fan}
use Rattle.{verity_blocks.specs.{Levels.data_blocks, TreeOnDevice.stored_block}, verity_pass.specs.Paths.{ChecksBlock, HasCollision, IsAccepted}}
use Rattle.read_one_block.specs.declared.image.ReadFault.{ReadFault, TheVariants.{DataFailed, TreeFailed, Refused}}

-- what a device holds at the place of the hash block of level l above data block i, zeros where it ends
abbrev pub stored_above : PlanFields → ℕ → List ℕ → ℕ → List ℕ
stored_above p i device l = with_zeros p.settings.hash_block (stored_block p device l (i / fan p.settings ^ (l + 1)))

-- the blocks of a path are those that a device holds above data block i
pub record IsPathOn (p : PlanFields) (i : ℕ) (device path : List ℕ) : Type 0 where
  pub whole : length path ≡ level_count_of p * p.settings.hash_block
  pub each : (l : ℕ) → l < level_count_of p → slice_chunk path p.settings.hash_block l ≡ stored_above p i device l

-- the block is data block i of these bytes; or at some level the path and the tree have different blocks with the same
-- salted hash
abbrev pub IsRight : PlanFields → List ℕ → ℕ → List ℕ → List ℕ → Type 0
IsRight p bytes i block path =
    (block ≡ slice_index_or (data_blocks p bytes) i []) ⊎ HasCollision p (data_blocks p bytes) i block path

-- the answer is that of the check, or a read failed
abbrev pub Answers : PlanFields → ℕ → List ℕ → List ℕ → List ℕ → Result Unit ReadFault → Type 0
Answers p i block path root (Ok _) = IsAccepted p i block path root
Answers p i block path root (Err DataFailed) = i < p.blocks
Answers p i block path root (Err (TreeFailed level)) = (i < p.blocks) × (level < level_count_of p)
Answers p i block path root (Err (Refused fault)) = ChecksBlock p i block path root (Err fault)

-- a fact if nothing failed
abbrev pub WasRead : Result Unit ReadFault → Type 0 → Type 0
WasRead (Ok _) fact = fact
WasRead (Err DataFailed) fact = ⊤
WasRead (Err (TreeFailed level)) fact = ⊤
WasRead (Err (Refused fault)) fact = fact

-- whose call failed: the data's device is the source, and the tree's is the device
abbrev pub side_of : ReadFault → Option Side
side_of DataFailed = Some TheSource
side_of (TreeFailed level) = Some TheDevice
side_of (Refused fault) = None
