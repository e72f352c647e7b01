-- What the calls of the library for C answer that build a tree as pieces of its data come. Whoever reads a contract
-- need not know how memory holds what was fed: it holds no bytes at the beginning, those before and those of the piece
-- after feeding, and the answer at the end is of all. A fault leaves everything as it was.
use Rattle.std.specs.Prelude.{◌≡◌, ◌≢◌, ◌<◌, ◌≤◌, ◌⊎◌, ℕ, ◌+◌, ◌-◌, ◌*◌, ◌/◌, ◌^◌, ◌==◌, ◌||◌, List, [], ◌∷◌, ◌++◌, length, not, Option, Some, None}
use Rattle.std.specs.Prelude.{Result, Ok, Err, if◌then◌else◌}
use Rattle.{verity_format.specs.Descriptors.digest_of_file, verity_plan.specs.PlanCounts.{level_count_of, most_level_count}}
use Rattle.verity_plan.specs.{Settings.{TreeSettingsFields, digest_len, fan}, Plans.{PlanFields, start_byte_of}}
use Rattle.verity_blocks.specs.{ClosingOrder.{BlockIndex, block_index, blocks_before, handed_out}, Levels.{data_blocks, root, root_of_file}}
use Rattle.{verity_blocks.specs.declared.hash_block.HashBlock.HashBlock, verity_builders.specs.declared.tree_builder.TreeBuilder.TreeBuilder}
use Rattle.verity_c_api.specs.{declared.parameters.VerityParams.VerityParams, Answers.number_in, Parameters.{fsverity_tree_of, plan_of}}
use Rattle.verity_c_api.specs.{Statuses.fault_of_feed, declared.{build.{VerityBuild.VerityBuild, VerityFed.VerityFed}, fault.Fault.Fault}}
use Rattle.verity_c_api.specs.declared.{fault.Fault.TheVariants.{Length, Root}, parameters.FsverityParams.FsverityParams}
use Rattle.verity_builders.specs.Feeding.{IsFed, IsFedFile, IsHandedOut, IsPlaced, end_fault, feed_fault, feeding_length, file_fault}
use Rattle.verity_builders.specs.declared.{feed_fault.FeedFault.FeedFault, file_builder.FileBuilder.FileBuilder, tree_builder.Fed.Fed}

-- the builder of a plan's tree that a struct says, and the builder of a file's tree with so many bytes fed
abbrev pub builder_of : PlanFields → VerityBuild → TreeBuilder
builder_of p build = record { plan = p; fed = build.fed; closed = build.closed }

abbrev pub file_builder_of : TreeSettingsFields → ℕ → FileBuilder
file_builder_of tree size = record { settings = tree; fed = size }

-- these bytes were fed to the tree of these parameters: struct and memory are as the calls that fed them left them
pub record IsFedTo (params : VerityParams) (build : VerityBuild) (memory fed : List ℕ) : Type 0 where
  pub plan : PlanFields
  pub planned : plan_of params ≡ Ok plan
  pub is_fed : IsFed (builder_of plan build) memory fed

-- the same of a file's tree: the size in the parameters counts the bytes
pub record IsFedFileTo (params : FsverityParams) (memory fed : List ℕ) : Type 0 where
  pub tree : TreeSettingsFields
  pub made : fsverity_tree_of params ≡ Ok tree
  pub is_fed : IsFedFile (file_builder_of tree params.size) memory fed

-- a value, or the fault of a builder
abbrev pub unless : {A : Type 0} → Option FeedFault → A → Result A Fault
unless None value = Ok value
unless (Some fault) value = Err (fault_of_feed fault)

-- the length of the memory that a plan's tree is built in
abbrev pub memory_length_of : PlanFields → ℕ
memory_length_of p = feeding_length p.settings (level_count_of p)

abbrev pub memory_length_in : Result PlanFields Fault → Result ℕ Fault
memory_length_in plan = number_in plan memory_length_of

-- the plan, if the memory has its length
abbrev pub with_memory : Result PlanFields Fault → ℕ → Result PlanFields Fault
with_memory (Err fault) room = Err fault
with_memory (Ok p) room = if room == memory_length_of p then Ok p else Err Length

-- the plan, if the builder takes a piece of this length
abbrev pub with_piece : Result PlanFields Fault → VerityBuild → ℕ → Result PlanFields Fault
with_piece (Err fault) build count = Err fault
with_piece (Ok p) build count = unless (feed_fault (builder_of p build) count) p

-- the plan, if there is room for just a root hash, all bytes were fed and all hash blocks handed out
abbrev pub with_all_fed : Result PlanFields Fault → VerityBuild → ℕ → Result PlanFields Fault
with_all_fed (Err fault) build room = Err fault
with_all_fed (Ok p) build room =
    if not (room == digest_len p.settings) then Err Root else unless (end_fault (builder_of p build)) p

-- so many bytes were taken and no hash block is handed out: the other numbers are 0
abbrev pub without_block : ℕ → VerityFed
without_block taken = record {
  taken = taken;
  block_length = 0;
  block_at = 0;
  block_start = 0;
  block_index = 0;
  block_level = 0;
}

-- the hash block that a struct hands out
abbrev pub block_of : VerityFed → HashBlock
block_of fed = record { level = fed.block_level; index = fed.block_index; start = fed.block_start; at = fed.block_at }

-- what an answer to a piece of a length says, whatever struct and memory were: all of the piece is taken, or a hash
-- block, which is within the memory, is handed out before its end, or after the last byte of all; and after that byte
-- none is left when none is handed out
pub record TakesPiece (p : PlanFields) (before after : VerityBuild) (count : ℕ) (fed : VerityFed) : Type 0 where
  pub fed_is : after.fed ≡ before.fed + fed.taken
  pub most : fed.taken ≤ count
  pub block_length : (fed.block_length ≡ 0) ⊎ (fed.block_length ≡ p.settings.hash_block)
  pub none : fed.block_length ≡ 0 → fed ≡ without_block fed.taken
  pub all : fed.block_length ≡ 0 → fed.taken ≡ count
  pub done : fed.block_length ≡ 0 → after.fed ≡ p.wanted → after.closed ≡ level_count_of p
  pub placed : fed.block_length ≢ 0 → IsPlaced p after.fed after.closed (block_of fed)
  pub within : fed.block_at + fed.block_length ≤ memory_length_of p
  pub waits : fed.block_length ≢ 0 → (fed.taken < count) ⊎ (after.fed ≡ p.wanted)
  pub rises : fed.block_length ≢ 0 → fed.taken ≡ 0 → after.closed ≡ before.closed + 1

-- the hash block that a struct hands out in a list of its own, if there is one
abbrev pub given_by : VerityFed → List BlockIndex
given_by fed = if fed.block_length == 0 then [] else block_index fed.block_level fed.block_index ∷ []

-- with these bytes fed, a struct hands out the next hash block in closing order, or none: its bytes in the memory are
-- the tree's, and its start is its place
pub record HandsOut (p : PlanFields) (before after : VerityBuild) (bytes memory : List ℕ) (fed : VerityFed) : Type 0 where
  pub order : handed_out p after.fed after.closed ≡ handed_out p before.fed before.closed ++ given_by fed
  pub block : fed.block_length ≢ 0 → IsHandedOut p bytes memory (block_of fed)

-- the hash block that was handed out last, by what a struct counts; all numbers are 0 if it counts none since the
-- latest byte was fed
abbrev pub last_index : PlanFields → VerityBuild → ℕ
last_index p build = blocks_before p.settings build.fed / fan p.settings ^ build.closed

abbrev pub last_of : PlanFields → VerityBuild → VerityFed
last_of p build = if (build.fed == 0) || (build.closed == 0) then without_block 0 else record {
  taken = 0;
  block_length = p.settings.hash_block;
  block_at = (build.closed - 1) * p.settings.hash_block;
  block_start = start_byte_of p (build.closed - 1) (last_index p build);
  block_index = last_index p build;
  block_level = build.closed - 1;
}

abbrev pub last_in : Result PlanFields Fault → VerityBuild → Result VerityFed Fault
last_in (Err fault) build = Err fault
last_in (Ok p) build = Ok (last_of p build)

-- with these bytes fed, the hash block that is named stands in the memory and is the tree's; if none is named, none was
-- handed out since the latest byte was fed
pub record StandsLast (p : PlanFields) (build : VerityBuild) (bytes memory : List ℕ) (fed : VerityFed) : Type 0 where
  pub none : fed.block_length ≡ 0 → build.closed ≡ 0
  pub block : fed.block_length ≢ 0 → IsHandedOut p bytes memory (block_of fed)

-- the root hash of a plan's tree above these bytes
abbrev pub root_in : Result PlanFields Fault → List ℕ → Result (List ℕ) Fault
root_in (Err fault) bytes = Err fault
root_in (Ok p) bytes = Ok (root p.settings (data_blocks p bytes))

-- the length of the memory that a file's tree is built in
abbrev pub file_memory_length_of : TreeSettingsFields → ℕ
file_memory_length_of tree = feeding_length tree (most_level_count tree)

abbrev pub file_memory_length_in : Result TreeSettingsFields Fault → Result ℕ Fault
file_memory_length_in (Err fault) = Err fault
file_memory_length_in (Ok tree) = Ok (file_memory_length_of tree)

-- the settings, if the memory has their length
abbrev pub with_file_memory : Result TreeSettingsFields Fault → ℕ → Result TreeSettingsFields Fault
with_file_memory (Err fault) room = Err fault
with_file_memory (Ok tree) room = if room == file_memory_length_of tree then Ok tree else Err Length

-- the settings, if after so many bytes the builder takes a piece of this length
abbrev pub with_file_piece : Result TreeSettingsFields Fault → ℕ → ℕ → Result TreeSettingsFields Fault
with_file_piece (Err fault) size count = Err fault
with_file_piece (Ok tree) size count = unless (file_fault (file_builder_of tree size) count) tree

-- the settings, if there is room for just a root hash and a file digest, and a tree above so many bytes
abbrev pub with_file_end : Result TreeSettingsFields Fault → ℕ → ℕ → ℕ → Result TreeSettingsFields Fault
with_file_end (Err fault) size root_room digest_room = Err fault
with_file_end (Ok tree) size root_room digest_room = if not (root_room == digest_len tree) then Err Root
    else (if not (digest_room == digest_len tree) then Err Length
    else unless (file_fault (file_builder_of tree size) 0) tree)

-- the root hash and the digest of the file that these bytes are
abbrev pub file_root_in : Result TreeSettingsFields Fault → List ℕ → Result (List ℕ) Fault
file_root_in (Err fault) bytes = Err fault
file_root_in (Ok tree) bytes = Ok (root_of_file tree (length bytes) bytes)

abbrev pub digest_of_fed : Result TreeSettingsFields Fault → List ℕ → Result (List ℕ) Fault
digest_of_fed (Err fault) bytes = Err fault
digest_of_fed (Ok tree) bytes =
    Ok (digest_of_file (record { tree = tree; size = length bytes; root = root_of_file tree (length bytes) bytes }))

-- for a private function of `verity_c`, not needed to read a public contract: what a builder has answered, in the
-- numbers of the struct
abbrev pub fed_by : ℕ → ℕ → Option HashBlock → VerityFed
fed_by size taken None = without_block taken
fed_by size taken (Some block) = record {
  taken = taken;
  block_length = size;
  block_at = block.at;
  block_start = block.start;
  block_index = block.index;
  block_level = block.level;
}

abbrev pub fed_of : PlanFields → Fed → VerityFed
fed_of p answer = fed_by p.settings.hash_block answer.taken answer.hash_block
