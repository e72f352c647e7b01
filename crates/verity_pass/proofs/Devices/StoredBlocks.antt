-- Stored blocks compared with the tree's, one by one.
use Rattle.std.proofs.Common.{◌≡◌, ℕ, zero, suc, ◌+◌, ◌*◌, ◌<◌, ◌≤◌, Bool, true, false, List, [], ◌∷◌, ◌++◌, arith, refl, inl, inr}
use Rattle.std.proofs.{lemmas.{Bool.cases_eq, List.{take_all, Elements.All-push}, Slice.Eq.bytes_eq-Decides}, Math.Nat.mul-le-mul_right}
use Rattle.{std.specs.{Prelude.{find, Some, None}, List.range_with_len}, verity_pass.specs.Verdicts.{HoldsBlockAt, NoneDiffers}}
use Rattle.verity_plan.{proofs.{FitLemmas.digest-slot, PlanLemmas.count-more}, specs.{Plans.{PlanFields, HasBlock}, PlanCounts.count_under}}
use Rattle.verity_plan.{specs.Settings.{TreeSettingsFields, digest_len, fan, slot_width}, proofs.CountLemmas.mul-lt_div_ceil}
use Rattle.verity_blocks.specs.{ClosingOrder.BlockIndex, TreeOnDevice.{stored_block, tree_block}}

-- the first number of a range that passes a test
pub find-range : (p : ℕ → Bool) (from n k : ℕ) → from ≤ k → k < from + n → ((j : ℕ) → from ≤ j → j < k → p j ≡ false)
    → p k ≡ true
    → find p (range_with_len from n) ≡ Some k
find-range p from zero k low high before here = absurd (omega arith)
find-range p from (suc n) k low high before here = elim (cases_eq from k) [
  | inl same ↦ rw (same, here) refl
  | inr other ↦
      let no : p from ≡ false = before from (omega arith) (omega (arith, other)) in
      rw no (find-range p (from + 1) n k (omega (arith, other)) (omega (arith, high))
      (λ j a b. before j (omega (arith, a)) b) here)
]

-- a range of which none passes
pub find-range_none : (p : ℕ → Bool) (from n : ℕ) → ((j : ℕ) → from ≤ j → j < from + n → p j ≡ false)
    → find p (range_with_len from n) ≡ None
find-range_none p from zero none = refl
find-range_none p from (suc n) none =
    let no : p from ≡ false = none from (omega arith) (omega arith) in
    rw no (find-range_none p (from + 1) n (λ j a b. none j (omega (arith, a)) (omega (arith, b))))

-- the first child of a block is one of the blocks below it
pub first-child : (p : PlanFields) → 0 < fan p.settings → (l j : ℕ) → HasBlock p l j
    → j * fan p.settings < count_under p l
first-child p some l j here =
    mul-lt_div_ceil (count_under p l) (fan p.settings) j some
    (omega (arith, here.index_below, count-more (fan p.settings) p.blocks l (count_under p l) some refl))

-- a digest is within its block
pub digest-room : (s : TreeSettingsFields) (slot : ℕ) → slot < fan s → fan s * slot_width s ≤ s.hash_block
    → slot * slot_width s + digest_len s ≤ s.hash_block
digest-room s slot below fits =
    let next : slot + 1 ≤ fan s = omega arith in
    omega (arith, digest-slot s, mul-le-mul_right (slot_width s) next, fits)

-- one block more that a device holds
pub one_more_held : (p : PlanFields) (blocks : List (List ℕ)) (device : List ℕ) (done : List BlockIndex)
    (at : BlockIndex) → NoneDiffers p blocks device done
    → stored_block p device at.level at.index ≡ tree_block p.settings blocks at.level at.index
    → NoneDiffers p blocks device (done ++ at ∷ [])
one_more_held p blocks device done at so_far here = All-push (HoldsBlockAt p blocks device) done at so_far here

-- what a whole block that was read and compared says
pub ruleset block_compared = (bytes_eq-Decides, take_all, one_more_held)
