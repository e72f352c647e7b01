-- Blocks that a reader keeps are the tree's, or a collision.
use Rattle.std.proofs.{Common.{◌≡◌, ℕ, zero, suc, ◌+◌, ◌/◌, ◌^◌, ◌<◌, ◌⊎◌, List, arith, sym, subst, ◌∙◌, ap, inl, inr}, lemmas.Bool.cases_lt}
use Rattle.{std.specs.Prelude.Ok, verity_plan.specs.{Plans.{PlanFields, IsPlan}, Settings.fan}}
use Rattle.verity_pass.specs.KeptBlocks.{AreAccepted, AreTrueOrCollide, CheckedBlock, IsAcceptedAsTop, IsAcceptedUnder, true_block}
use Rattle.verity_pass.{specs.{Links.{IsCollision, checked_link}, Paths.true_chain}, proofs.Paths.AcceptedLinks.{link-true, top-true}}
use Rattle.verity_blocks.specs.{Levels.{data_blocks, root}, TreeOnDevice.tree_block}

-- a checked block is the tree's, or collides with it
abbrev IsTrueOrCollides : PlanFields → List ℕ → CheckedBlock → Type 0
IsTrueOrCollides p bytes b = (b.bytes ≡ true_block p bytes b) ⊎ IsCollision p.settings b.bytes (true_block p bytes b)

top-or-collides : (p : PlanFields) (bytes : List ℕ) (b : CheckedBlock) → IsPlan p
    → IsAcceptedAsTop p (root p.settings (data_blocks p bytes)) b → IsTrueOrCollides p bytes b
top-or-collides p bytes b planned top =
    let at : ℕ → List ℕ = true_chain p.settings (data_blocks p bytes) b.index in
    subst (λ (l : ℕ). (b.bytes ≡ at l) ⊎ IsCollision p.settings b.bytes (at l)) (sym top.at_top)
    (top-true p bytes b.index b.bytes planned top.accepted)

-- under the tree's block at the parent's place
under-or-collides : (p : PlanFields) (bytes : List ℕ) (above b : CheckedBlock) → IsPlan p
    → above.bytes ≡ true_block p bytes above → IsAcceptedUnder p above b → IsTrueOrCollides p bytes b
under-or-collides p bytes above b planned true_above under =
    let blocks = data_blocks p bytes in
    let up : above.levels ≡ suc b.levels = omega (arith, under.one_up) in
    let parent : above.index / fan p.settings ^ (b.levels + 1) ≡ b.index / fan p.settings ^ (b.levels + 1) =
    subst (λ (l : ℕ). above.index / fan p.settings ^ l ≡ b.index / fan p.settings ^ l) under.one_up under.parent in
    let same : above.bytes ≡ true_chain p.settings blocks b.index (suc b.levels) = true_above
    ∙ ap (true_chain p.settings blocks above.index) up
    ∙ ap (tree_block p.settings blocks b.levels) parent in
    link-true p bytes b.index b.levels b.bytes planned
    (subst (λ (xs : List ℕ). checked_link p b.index b.levels b.bytes xs ≡ Ok tt) same under.accepted)

pub kept-true : (p : PlanFields) (bytes : List ℕ) (count : ℕ) (blocks : ℕ → CheckedBlock) → IsPlan p
    → AreAccepted p (root p.settings (data_blocks p bytes)) count blocks
    → AreTrueOrCollide p bytes count blocks
kept-true p bytes zero blocks planned accepted = inl (λ k below. absurd (omega (arith, below)))
kept-true p bytes (suc n) blocks planned accepted =
    elim (kept-true p bytes n blocks planned (λ k below. accepted k (omega (arith, below)))) [
      | inr found ↦ inr (found.0, omega (arith, found.1), found.2)
      | inl all ↦ elim (next all (accepted n (omega arith))) [
        | inr collides ↦ inr (n, omega arith, collides)
        | inl same ↦ inl (λ k below. elim (cases_lt k n) [
          | inl before ↦ all k before
          | inr last ↦
              let e : n ≡ k = omega (arith, below, last) in
              subst (λ (m : ℕ). (blocks m).bytes ≡ true_block p bytes (blocks m)) e same
        ])
      ]
    ]
  where
    next : ((k : ℕ) → k < n → (blocks k).bytes ≡ true_block p bytes (blocks k))
        → IsAcceptedAsTop p (root p.settings (data_blocks p bytes)) (blocks n)
        ⊎ ((j : ℕ) × (j < n) × IsAcceptedUnder p (blocks j) (blocks n)) → IsTrueOrCollides p bytes (blocks n)
    next all (inl top) = top-or-collides p bytes (blocks n) planned top
    next all (inr under) =
        under-or-collides p bytes (blocks under.0) (blocks n) planned (all under.0 under.1) under.2
