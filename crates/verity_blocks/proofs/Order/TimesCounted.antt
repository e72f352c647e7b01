-- How often a block is counted among others.
use Rattle.std.proofs.{Common.{◌≡◌, ℕ, ◌+◌, ◌<◌, cond, List, ◌∷◌, arith}, lemmas.{Bool.Decides.nat_tests, List.Sums.sum_by-cons}}
use Rattle.{std.specs.Prelude.{◌==◌, ◌&&◌, ◌⊎◌}, verity_blocks.specs.ClosingOrder.{BlockIndex, times}}

-- one more block among those that are counted
pub times-more : (l j : ℕ) (at : BlockIndex) (hash_blocks : List BlockIndex)
    → times l j (at ∷ hash_blocks) ≡ cond ((at.level == l) && (at.index == j)) 1 0 + times l j hash_blocks
times-more l j at hash_blocks =
    sum_by-cons (λ (b : BlockIndex). cond ((b.level == l) && (b.index == j)) 1 0) at hash_blocks

-- a block that is counted is the first, or counted among the rest
pub times-cases : (l j : ℕ) (at : BlockIndex) (hash_blocks : List BlockIndex) → 0 < times l j (at ∷ hash_blocks)
    → ((at.level ≡ l) × (at.index ≡ j)) ⊎ (0 < times l j hash_blocks)
times-cases l j at hash_blocks some = grind (arith, nat_tests, some, times-more l j at hash_blocks)

-- a block is counted among blocks of which it is the first
pub times-first : (at : BlockIndex) (hash_blocks : List BlockIndex) → 0 < times at.level at.index (at ∷ hash_blocks)
times-first at hash_blocks = grind (arith, nat_tests, times-more at.level at.index at hash_blocks)
