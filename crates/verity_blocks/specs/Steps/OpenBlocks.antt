-- The open blocks of a tree, to which digests come, and which close.
-- For the crates that make trees; not needed to read a contract of `verity_tree`.
use Rattle.std.specs.Prelude.{◌≡◌, ℕ, ◌+◌, ◌*◌, ◌/◌, ◌%◌, ◌^◌, ◌<◌, ◌≤◌, List, [], take, drop, length, map, slice_index_or, Bool, true, false}
use Rattle.{std.specs.Fork.slice_chunk, verity_plan.specs.Settings.{TreeSettingsFields, hash, fan}}
use Rattle.verity_blocks.specs.{Levels.{hash_block_of, blocks_up}, TreeOnDevice.tree_block}

-- the digests that the blocks of level l are made of, level 0 next to the data
abbrev pub digests_under : TreeSettingsFields → List (List ℕ) → ℕ → List (List ℕ)
digests_under s blocks l = map (hash s) (blocks_up s blocks l)

-- the open block above some digests of which q have come
abbrev pub open_block : TreeSettingsFields → List (List ℕ) → ℕ → List ℕ
open_block s digests q = hash_block_of s (take (q % fan s) (drop (q / fan s * fan s) digests))

-- after i data blocks the levels from one to another have their open blocks in the store
abbrev pub HasOpenBlocks : TreeSettingsFields → List (List ℕ) → ℕ → ℕ → ℕ → List ℕ → Type 0
HasOpenBlocks s blocks from to i store =
    (l : ℕ) → from ≤ l → l < to
    → slice_chunk store s.hash_block l ≡ open_block s (digests_under s blocks l) (i / fan s ^ l)

-- the digest that comes to level m with data block i
abbrev pub level_digest : TreeSettingsFields → List (List ℕ) → ℕ → ℕ → List ℕ
level_digest s blocks i m = hash s (slice_index_or (blocks_up s blocks m) (i / fan s ^ m) [])

-- data block i is the last below a block of level m - 1
pub record IsReached (f i m : ℕ) : Type 0 where
  pub whole : i + 1 ≡ (i / f ^ m + 1) * f ^ m

-- how far a data block's digest has come: the data block, the level, and the number of levels
pub record CarryState : Type 0 where
  pub i : ℕ
  pub level : ℕ
  pub levels : ℕ

abbrev pub carry_state : ℕ → ℕ → ℕ → CarryState
carry_state i level levels = record { i = i; level = level; levels = levels }

-- the digest of data block i has come to a level as this one: the levels below have closed
pub record IsCarrying (s : TreeSettingsFields) (blocks : List (List ℕ)) (c : CarryState)
    (store digest : List ℕ) : Type 0 where
  pub reached : c.i + 1 < length blocks → IsReached (fan s) c.i c.level
  pub above : HasOpenBlocks s blocks c.level c.levels c.i store
  pub below : c.i + 1 < length blocks → HasOpenBlocks s blocks 0 c.level (c.i + 1) store
  pub digest_is : digest ≡ level_digest s blocks c.i c.level

-- the digest of the last data block has come to a level as this one, and the open blocks below it are again those
-- before data block `first`
pub record IsAsking (s : TreeSettingsFields) (blocks : List (List ℕ)) (first : ℕ) (c : CarryState)
    (store digest : List ℕ) : Type 0 where
  pub below : HasOpenBlocks s blocks 0 c.level first store
  pub above : HasOpenBlocks s blocks c.level c.levels c.i store
  pub digest_is : digest ≡ level_digest s blocks c.i c.level

-- the hash block of a level has closed above data block i, and still stands in its open block; those below it closed
-- before
pub record HasClosed (s : TreeSettingsFields) (blocks : List (List ℕ)) (i level levels : ℕ)
    (opened : List ℕ) : Type 0 where
  pub reached : i + 1 < length blocks → IsReached (fan s) i (level + 1)
  pub stands : slice_chunk opened s.hash_block level ≡ tree_block s blocks level (i / fan s ^ (level + 1))
  pub above : HasOpenBlocks s blocks (level + 1) levels i opened
  pub below : i + 1 < length blocks → HasOpenBlocks s blocks 0 level (i + 1) opened

-- a digest has come to a level above data block i: the level's block has closed, or it has room for more
abbrev pub Adds : Bool → TreeSettingsFields → List (List ℕ) → ℕ → ℕ → ℕ → List ℕ → Type 0
Adds true s blocks i level levels opened = HasClosed s blocks i level levels opened
Adds false s blocks i level levels opened = (i + 1 < length blocks) × HasOpenBlocks s blocks 0 levels (i + 1) opened
