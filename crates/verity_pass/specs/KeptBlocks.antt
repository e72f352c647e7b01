-- Blocks that a reader has checked and keeps, each by the root hash or by one that it had checked before (Linux kernel,
-- dm-verity page, "Hash Tree": each digest leads to the block above; fs-verity page, "Merkle tree"). Which are forgotten
-- and read again in between doesn't matter: each reading is a block of its own.
use Rattle.std.specs.Prelude.{◌≡◌, ◌⊎◌, ◌<◌, ℕ, ◌+◌, ◌/◌, ◌^◌, List, Ok}
use Rattle.{verity_plan.specs.{Plans.PlanFields, PlanCounts.level_count_of, Settings.fan}, verity_blocks.specs.Levels.data_blocks}
use Rattle.verity_pass.specs.{Links.{IsCollision, checked_link, checked_top}, Paths.true_chain}

-- a block that was checked, and the place that it was checked for: so many levels above a data block, or, with none,
-- that data block's own
pub record CheckedBlock : Type 0 where
  pub index : ℕ
  pub levels : ℕ
  pub bytes : List ℕ

-- the tree's block at that place, above some data
abbrev pub true_block : PlanFields → List ℕ → CheckedBlock → List ℕ
true_block p bytes b = true_chain p.settings (data_blocks p bytes) b.index b.levels

-- it was accepted as the top block, by the root hash
pub record IsAcceptedAsTop (p : PlanFields) (root : List ℕ) (b : CheckedBlock) : Type 0 where
  pub at_top : b.levels ≡ level_count_of p
  pub accepted : checked_top p b.index b.bytes root ≡ Ok tt

-- it was accepted by another block, which was checked for the place one level up
pub record IsAcceptedUnder (p : PlanFields) (above b : CheckedBlock) : Type 0 where
  pub one_up : above.levels ≡ b.levels + 1
  pub parent : above.index / fan p.settings ^ above.levels ≡ b.index / fan p.settings ^ above.levels
  pub accepted : checked_link p b.index b.levels b.bytes above.bytes ≡ Ok tt

-- each of so many blocks was accepted, by the root hash or by one that was accepted before it
abbrev pub AreAccepted : PlanFields → List ℕ → ℕ → (ℕ → CheckedBlock) → Type 0
AreAccepted p root count blocks = (k : ℕ) → k < count
    → IsAcceptedAsTop p root (blocks k) ⊎ ((j : ℕ) × (j < k) × IsAcceptedUnder p (blocks j) (blocks k))

-- all of them are the tree's, or one of them and the tree's block at its place are different and have one salted hash
abbrev pub AreTrueOrCollide : PlanFields → List ℕ → ℕ → (ℕ → CheckedBlock) → Type 0
AreTrueOrCollide p bytes count blocks = ((k : ℕ) → k < count → (blocks k).bytes ≡ true_block p bytes (blocks k))
    ⊎ ((k : ℕ) × (k < count) × IsCollision p.settings (blocks k).bytes (true_block p bytes (blocks k)))
