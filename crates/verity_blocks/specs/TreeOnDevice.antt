-- What a device holds of a tree: each hash block at its place (cryptsetup's on-disk format page; Linux kernel,
-- dm-verity page, "On-disk format").
use Rattle.std.specs.Prelude.{◌≡◌, ℕ, ◌≤◌, List, [], length, slice_index_or, take, drop}
use Rattle.verity_plan.specs.{Plans.{PlanFields, start_byte_of, HasBlock}, Settings.TreeSettingsFields}
use Rattle.verity_blocks.specs.Levels.{level, data_blocks, root}

-- block j of level l above these data blocks
abbrev pub tree_block : TreeSettingsFields → List (List ℕ) → ℕ → ℕ → List ℕ
tree_block s blocks l j = slice_index_or (level s blocks l) j []

-- the bytes that are stored for a block of a level: fewer than a hash block if the device ends before its end
abbrev pub stored_block : PlanFields → List ℕ → ℕ → ℕ → List ℕ
stored_block p device level index = take p.settings.hash_block (drop (start_byte_of p level index) device)

-- there is as much data as the plan wants, the device holds the whole tree above it, each hash block at its place, and
-- the root hash is the tree's
pub record HoldsTree (p : PlanFields) (device bytes digest : List ℕ) : Type 0 where
  pub enough : p.wanted ≤ length bytes
  pub stands : (l j : ℕ) → HasBlock p l j → stored_block p device l j ≡ tree_block p.settings (data_blocks p bytes) l j
  pub root_is : root p.settings (data_blocks p bytes) ≡ digest
