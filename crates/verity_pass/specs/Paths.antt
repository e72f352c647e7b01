-- A data block checked by its path: the hash blocks above it, joined, level 0 next to the data (Linux kernel, dm-verity
-- page, "Hash Tree": each digest leads to the block above; fs-verity page, "Merkle tree").
use Rattle.std.specs.Prelude.{◌≡◌, ◌≢◌, ◌<◌, ◌≤◌, ℕ, zero, suc, ◌+◌, ◌*◌, ◌/◌, ◌%◌, ◌^◌, List, [], length, nat_lt, slice_index_or, if◌then◌else◌}
use Rattle.std.specs.Prelude.{Result, Ok, Err}
use Rattle.{std.specs.{Fork.slice_chunk, List.{flat_map, range_with_len}}, verity_blocks.specs.TreeOnDevice.tree_block}
use Rattle.verity_plan.specs.{Plans.PlanFields, PlanCounts.level_count_of, Settings.{TreeSettingsFields, fan, hash}}
use Rattle.verity_pass.specs.{Verdicts.digest_in, declared.path.PathFault.{PathFault, TheVariants.{Index, Length, DiffersAt}}}

-- the chain: the data block, and above it the blocks of the path
abbrev pub chain : TreeSettingsFields → List ℕ → List ℕ → ℕ → List ℕ
chain s block path zero = block
chain s block path (suc l) = slice_chunk path s.hash_block l

-- what the hash of a block of the chain has to be: the digest in its slot of the block above, and at the top the root
abbrev pub digest_above : PlanFields → ℕ → List ℕ → List ℕ → ℕ → List ℕ
digest_above p i path root l = if nat_lt l (level_count_of p)
    then digest_in p.settings (slice_chunk path p.settings.hash_block l) (i / fan p.settings ^ l % fan p.settings)
    else root

-- the path of data block i holds at this level
abbrev pub HoldsAt : PlanFields → ℕ → List ℕ → List ℕ → List ℕ → ℕ → Type 0
HoldsAt p i block path root l = hash p.settings (chain p.settings block path l) ≡ digest_above p i path root l

-- a data block, and a hash block for each level
pub record HasLengths (p : PlanFields) (block path : List ℕ) : Type 0 where
  pub of_block : length block ≡ p.settings.data_block
  pub of_path : length path ≡ level_count_of p * p.settings.hash_block

-- the path holds at every level and at the root
pub record IsAccepted (p : PlanFields) (i : ℕ) (block path root : List ℕ) : Type 0 where
  pub index : i < p.blocks
  pub lengths : HasLengths p block path
  pub holds : (l : ℕ) → l ≤ level_count_of p → HoldsAt p i block path root l

-- this is the lowest level at which the path does not hold
pub record IsLowest (p : PlanFields) (i : ℕ) (block path root : List ℕ) (l : ℕ) : Type 0 where
  pub index : i < p.blocks
  pub lengths : HasLengths p block path
  pub within : l ≤ level_count_of p
  pub below : (m : ℕ) → m < l → HoldsAt p i block path root m
  pub fails : ¬ HoldsAt p i block path root l

-- the answer to a block and its path: accepted, or the first fault
abbrev pub ChecksBlock : PlanFields → ℕ → List ℕ → List ℕ → List ℕ → Result Unit PathFault → Type 0
ChecksBlock p i block path root (Ok _) = IsAccepted p i block path root
ChecksBlock p i block path root (Err Index) = p.blocks ≤ i
ChecksBlock p i block path root (Err Length) = (i < p.blocks) × ¬ HasLengths p block path
ChecksBlock p i block path root (Err (DiffersAt l)) = IsLowest p i block path root l

-- the true chain: data block i, and above it the blocks of the tree
abbrev pub true_chain : TreeSettingsFields → List (List ℕ) → ℕ → ℕ → List ℕ
true_chain s blocks i zero = slice_index_or blocks i []
true_chain s blocks i (suc l) = tree_block s blocks l (i / fan s ^ (l + 1))

-- the true path: the blocks of the lowest levels above data block i, joined
abbrev pub true_path : TreeSettingsFields → List (List ℕ) → ℕ → ℕ → List ℕ
true_path s blocks i levels = flat_map (λ l. true_chain s blocks i (suc l)) (range_with_len 0 levels)

-- at some level the chain and the true chain have different blocks with one salted hash
pub record HasCollision (p : PlanFields) (blocks : List (List ℕ)) (i : ℕ) (block path : List ℕ) : Type 0 where
  pub level : ℕ
  pub within : level ≤ level_count_of p
  pub differ : chain p.settings block path level ≢ true_chain p.settings blocks i level
  pub one_hash : hash p.settings (chain p.settings block path level)
      ≡ hash p.settings (true_chain p.settings blocks i level)
