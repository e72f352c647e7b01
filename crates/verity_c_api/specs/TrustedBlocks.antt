-- From a trusted file digest to one block of the file: what a check has been handed by whomever, when it is trusted,
-- and what it then shows.
use Rattle.std.specs.Prelude.{◌≡◌, ◌⊎◌, ◌<◌, ℕ, List, length, Ok}
use Rattle.{verity_format.specs.Descriptors.{DescriptorFields, descriptor_bytes}, verity_pass.specs.{Collisions.Collide, Paths.HasCollision}}
use Rattle.{verity_blocks.specs.Levels.{block_at, data_blocks, root_of_file}, verity_plan.specs.Plans.{block_count, plan_of_file}}
use Rattle.verity_c_api.specs.{Answers.{AnswersBlock, descriptor_in, file_digest_in, with_root}, Parameters.{fsverity_plan_of, fsverity_tree_of}}
use Rattle.{verity_c_api.specs.{Statuses.done, declared.parameters.FsverityParams.FsverityParams}, verity_plan.specs.Settings.TreeSettingsFields}

-- what a block of a file is checked by: parameters, root hash and path, none of them trusted
pub record FileBlock : Type 0 where
  pub params : FsverityParams
  pub root : List ℕ
  pub index : ℕ
  pub block : List ℕ
  pub path : List ℕ

-- fsverity_file_digest has answered this digest for parameters and root hash, into a buffer with so much room, and
-- fsverity_check_block has answered 0 for the block, whatever stood in the level and stands there then
pub record IsAcceptedFor (b : FileBlock) (digest : List ℕ) : Type 0 where
  pub room : ℕ
  pub digest_is : file_digest_in (fsverity_tree_of b.params) b.params.size b.root room ≡ Ok digest
  pub level : ℕ
  pub level_after : ℕ
  pub accepted : AnswersBlock (with_root (fsverity_plan_of b.params) b.root) b.index b.block b.path b.root done level
      level_after

-- parameters and root hash are those of this file with these settings, and the block is the file's, with zeros after
-- its end
pub record IsBlockOf (tree : TreeSettingsFields) (bytes : List ℕ) (b : FileBlock) : Type 0 where
  pub settings : fsverity_tree_of b.params ≡ Ok tree
  pub size : b.params.size ≡ length bytes
  pub root : b.root ≡ root_of_file tree (length bytes) bytes
  pub index : b.index < block_count tree (length bytes)
  pub block : b.block ≡ block_at tree.data_block bytes b.index

-- the descriptor of a file with these settings
abbrev pub descriptor_of_bytes : TreeSettingsFields → List ℕ → DescriptorFields
descriptor_of_bytes tree bytes =
    record { tree = tree; size = length bytes; root = root_of_file tree (length bytes) bytes }

-- the descriptor that parameters and root hash make isn't the file's, and both have one hash
pub record DescriptorsCollide (tree : TreeSettingsFields) (bytes : List ℕ) (b : FileBlock) : Type 0 where
  pub descriptor : DescriptorFields
  pub made : descriptor_in (fsverity_tree_of b.params) b.params.size b.root ≡ Ok descriptor
  pub collide : Collide tree.algorithm (descriptor_bytes descriptor) (descriptor_bytes (descriptor_of_bytes tree bytes))

-- a collision is at hand: of the descriptors, or of two blocks at one level of path and tree
abbrev pub ShowsCollision : TreeSettingsFields → List ℕ → FileBlock → Type 0
ShowsCollision tree bytes b = DescriptorsCollide tree bytes b
    ⊎ HasCollision (plan_of_file tree (length bytes)) (data_blocks (plan_of_file tree (length bytes)) bytes) b.index
    b.block b.path
