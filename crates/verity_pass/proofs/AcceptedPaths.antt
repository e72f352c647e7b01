-- What an accepted path says of the data, that the true path is accepted, and that one answer is right.
use Rattle.std.proofs.{Common.{◌≡◌, ℕ, ◌<◌, ◌≤◌, ◌⊎◌, List, [], get_or, arith, ap, refl, inl, inr}, lemmas.Bool.cases_order}
use Rattle.{std.specs.Prelude.{Result, Ok, Err}, verity_plan.specs.{Plans.{PlanFields, IsPlan}, PlanCounts.level_count_of, Settings.hash}}
use Rattle.{verity_blocks.specs.Levels.{data_blocks, root}, verity_pass.proofs.PathSteps.{chains-meet, digest_above-below, digest_above-top}}
use Rattle.verity_pass.specs.{Paths.{ChecksBlock, HasCollision, IsAccepted, chain, true_chain, true_path}, declared.path.PathFault.PathFault}
use Rattle.verity_pass.{specs.declared.path.PathFault.TheVariants.{Index, Length, DiffersAt}, proofs.Paths.AcceptedLinks.joined-accepted}
use Rattle.verity_pass.proofs.Paths.TrueChain.{length-data, length-true_block, true_chain-next, true_chain-top}

-- what is accepted is the data's, or there is a collision
pub accepted-true : (p : PlanFields) (bytes : List ℕ) (i : ℕ) (block path : List ℕ) → IsPlan p
    → IsAccepted p i block path (root p.settings (data_blocks p bytes))
    → (block ≡ get_or (data_blocks p bytes) i []) ⊎ HasCollision p (data_blocks p bytes) i block path
accepted-true p bytes i block path planned h =
    let s = p.settings in
    let blocks = data_blocks p bytes in
    let top = level_count_of p in
    let all : top ≤ top = omega arith in
    elim (chains-meet (hash s) (chain s block path) (true_chain s blocks i) top top all
    (λ m low above.
    grind (
      arith,
      above,
      h.holds m (omega (arith, low)),
      digest_above-below p i path (root s blocks) m low,
      true_chain-next p bytes i m planned h.index,
    ))
    (grind (
      arith,
      h.holds top all,
      digest_above-top p i path (root s blocks) top all,
      true_chain-top p bytes i planned h.index,
    ))) [
      | inl same ↦ inl same
      | inr met ↦ inr (record { level = met.0; within = met.1; differ = met.2; one_hash = met.3 })
    ]

-- the true path is accepted
pub true-accepted : (p : PlanFields) (bytes : List ℕ) (i : ℕ) → IsPlan p → i < p.blocks
    → IsAccepted p i (get_or (data_blocks p bytes) i [])
    (true_path p.settings (data_blocks p bytes) i (level_count_of p))
    (root p.settings (data_blocks p bytes))
true-accepted p bytes i planned index =
    joined-accepted p i (true_chain p.settings (data_blocks p bytes) i) (root p.settings (data_blocks p bytes))
    (λ m _. length-true_block p bytes i m planned index) index
    (length-data p.settings p.blocks p.wanted bytes i index)
    (λ l _. true_chain-next p bytes i l planned index) (true_chain-top p bytes i planned index)

-- at most one answer is right
pub one-answer : (p : PlanFields) (i : ℕ) (block path root : List ℕ) (x y : Result Unit PathFault)
    → ChecksBlock p i block path root x → ChecksBlock p i block path root y → x ≡ y
one-answer p i block path root (Ok _) (Ok _) h g = refl
one-answer p i block path root (Ok _) (Err Index) h g = absurd (omega (arith, h.index, g))
one-answer p i block path root (Ok _) (Err Length) h g = absurd (g.1 h.lengths)
one-answer p i block path root (Ok _) (Err (DiffersAt l)) h g = absurd (g.fails (h.holds l g.within))
one-answer p i block path root (Err Index) (Ok _) h g = absurd (omega (arith, h, g.index))
one-answer p i block path root (Err Index) (Err Index) h g = refl
one-answer p i block path root (Err Index) (Err Length) h g = absurd (omega (arith, h, g.0))
one-answer p i block path root (Err Index) (Err (DiffersAt l)) h g = absurd (omega (arith, h, g.index))
one-answer p i block path root (Err Length) (Ok _) h g = absurd (h.1 g.lengths)
one-answer p i block path root (Err Length) (Err Index) h g = absurd (omega (arith, h.0, g))
one-answer p i block path root (Err Length) (Err Length) h g = refl
one-answer p i block path root (Err Length) (Err (DiffersAt l)) h g = absurd (h.1 g.lengths)
one-answer p i block path root (Err (DiffersAt l)) (Ok _) h g = absurd (h.fails (g.holds l h.within))
one-answer p i block path root (Err (DiffersAt l)) (Err Index) h g = absurd (omega (arith, h.index, g))
one-answer p i block path root (Err (DiffersAt l)) (Err Length) h g = absurd (g.1 h.lengths)
one-answer p i block path root (Err (DiffersAt l)) (Err (DiffersAt m)) h g =
    elim (cases_order l m) [
      | inl same ↦ ap (λ (k : ℕ). Err (DiffersAt k)) same
      | inr apart ↦ elim apart [
        | inl less ↦ absurd (h.fails (g.below l less))
        | inr less ↦ absurd (g.fails (h.below m less))
      ]
    ]
