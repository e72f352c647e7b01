-- What the calls of the library for C answer that build a file's tree and hand out its hash blocks, while nobody knows
-- the file's length. A hash block that is handed out is the tree's of every file that goes on; those that are left at
-- an end are the tree's of the file that ends there. A fault leaves everything as it was.
use Rattle.std.specs.Prelude.{◌≡◌, ◌≢◌, ◌<◌, ◌≤◌, ◌⊎◌, ℕ, ◌+◌, ◌==◌, List, ◌++◌, length, not, Option, Some, None, Result, Ok, Err, if◌then◌else◌}
use Rattle.{verity_plan.specs.{Plans.plan_of_file, Settings.{TreeSettingsFields, digest_len}}, verity_blocks.specs.ClosingOrder.handed_out}
use Rattle.verity_builders.specs.FileTrees.{IsFedFileTree, IsFinal, IsPlacedInFile, file_blocks, last_block_fault, end_index, piece_fault, root_fault}
use Rattle.verity_builders.specs.declared.file_tree_builder.{FileFed.FileFed, FileHashBlock.FileHashBlock, FileTreeBuilder.FileTreeBuilder}
use Rattle.verity_c_api.specs.{Building.{file_memory_length_of, given_by, unless, without_block}, Parameters.fsverity_tree_of}
use Rattle.verity_c_api.specs.declared.{build.{VerityBuild.VerityBuild, VerityFed.VerityFed}, fault.Fault.{Fault, TheVariants.{Length, Root}}}
use Rattle.{verity_c_api.specs.declared.parameters.FsverityParams.FsverityParams, verity_blocks.specs.TreeOnDevice.tree_block}

-- the builder of a file's tree that a struct says
abbrev pub tree_builder_of : TreeSettingsFields → VerityBuild → FileTreeBuilder
tree_builder_of tree build = record { settings = tree; fed = build.fed; closed = build.closed }

-- these bytes were fed to the file's tree of these parameters: struct and memory are as the calls that fed them left
-- them
pub record IsFedTreeTo (params : FsverityParams) (build : VerityBuild) (memory fed : List ℕ) : Type 0 where
  pub tree : TreeSettingsFields
  pub made : fsverity_tree_of params ≡ Ok tree
  pub is_fed : IsFedFileTree (tree_builder_of tree build) memory fed

-- the settings, if the builder takes a piece of this length
abbrev pub with_tree_piece : Result TreeSettingsFields Fault → VerityBuild → ℕ → Result TreeSettingsFields Fault
with_tree_piece (Err fault) build count = Err fault
with_tree_piece (Ok tree) build count = unless (piece_fault (tree_builder_of tree build) count) tree

-- the settings, if there is room for just a block, and the tree of the bytes so far has this level
abbrev pub with_last_block : Result TreeSettingsFields Fault → VerityBuild → ℕ → ℕ → Result TreeSettingsFields Fault
with_last_block (Err fault) build level room = Err fault
with_last_block (Ok tree) build level room = if not (room == tree.hash_block) then Err Length
    else unless (last_block_fault (tree_builder_of tree build) level) tree

-- the settings, if there is room for just a root hash and a file digest, and a tree above the bytes so far
abbrev pub with_tree_end : Result TreeSettingsFields Fault → VerityBuild → ℕ → ℕ → Result TreeSettingsFields Fault
with_tree_end (Err fault) build root_room digest_room = Err fault
with_tree_end (Ok tree) build root_room digest_room = if not (root_room == digest_len tree) then Err Root
    else (if not (digest_room == digest_len tree) then Err Length
    else unless (root_fault (tree_builder_of tree build)) tree)

-- the last hash block of a level of the tree of the file that these bytes are, and its number
abbrev pub last_block_in : Result TreeSettingsFields Fault → List ℕ → ℕ → Result (List ℕ) Fault
last_block_in (Err fault) bytes level = Err fault
last_block_in (Ok tree) bytes level =
    Ok (tree_block tree (file_blocks tree bytes) level (end_index tree (length bytes) level))

abbrev pub end_index_in : Result TreeSettingsFields Fault → VerityBuild → ℕ → Result ℕ Fault
end_index_in (Err fault) build level = Err fault
end_index_in (Ok tree) build level = Ok (end_index tree build.fed level)

-- the hash block that a struct hands out
abbrev pub file_block_of : VerityFed → FileHashBlock
file_block_of fed = record { level = fed.block_level; index = fed.block_index; at = fed.block_at }

-- what an answer to a piece of a length says, whatever struct and memory were: all of the piece is taken, and then no
-- hash block waits, or a hash block, which is within the memory, is handed out before its end; it has no place on a
-- device
pub record TakesFilePiece (tree : TreeSettingsFields) (before after : VerityBuild) (count : ℕ) (fed : VerityFed) : Type 0
  where
    pub fed_is : after.fed ≡ before.fed + fed.taken
    pub most : fed.taken ≤ count
    pub block_length : (fed.block_length ≡ 0) ⊎ (fed.block_length ≡ tree.hash_block)
    pub none : fed.block_length ≡ 0 → fed ≡ without_block fed.taken
    pub all : fed.block_length ≡ 0 → fed.taken ≡ count
    pub none_waits : fed.block_length ≡ 0 → 0 < count → after.closed ≡ 0
    pub nothing : count ≡ 0 → after ≡ before
    pub placed : fed.block_length ≢ 0 → IsPlacedInFile tree after.fed after.closed (file_block_of fed)
    pub no_start : fed.block_start ≡ 0
    pub within : fed.block_at + fed.block_length ≤ file_memory_length_of tree
    pub before_end : fed.block_length ≢ 0 → fed.taken < count
    pub rises : fed.block_length ≢ 0 → fed.taken ≡ 0 → after.closed ≡ before.closed + 1

-- with these bytes fed, a struct hands out the next hash block in closing order, of a file of any size that has them,
-- or none: its bytes in the memory are the tree's of every file that goes on
pub record HandsOutOfFile (tree : TreeSettingsFields) (before after : VerityBuild) (bytes memory : List ℕ)
    (fed : VerityFed) : Type 0 where
  pub order : (size : ℕ) → after.fed ≤ size → handed_out (plan_of_file tree size) after.fed after.closed
      ≡ handed_out (plan_of_file tree size) before.fed before.closed ++ given_by fed
  pub block : fed.block_length ≢ 0 → IsFinal tree bytes memory (file_block_of fed)

-- for a private function of `verity_c`, not needed to read a public contract: what a builder has answered, in the
-- numbers of the struct
abbrev pub fed_by_file : ℕ → ℕ → Option FileHashBlock → VerityFed
fed_by_file size taken None = without_block taken
fed_by_file size taken (Some block) = record {
  taken = taken;
  block_length = size;
  block_at = block.at;
  block_start = 0;
  block_index = block.index;
  block_level = block.level;
}

abbrev pub fed_of_file : TreeSettingsFields → FileFed → VerityFed
fed_of_file tree answer = fed_by_file tree.hash_block answer.taken answer.hash_block
