-- The number of the block that stands some levels above a data block.
use Rattle.std.proofs.{Common.{◌≡◌, ℕ, suc, ◌+◌, ◌/◌, ◌^◌, ◌<◌, arith, sym, ◌∙◌, ap, inl, inr}, lemmas.{Bool.cases_lt, Nat.div-add-mod'}}
use Rattle.std.{proofs.Math.Nat.{div-div-eq-div-mul, one-le-pow, pow-suc}, specs.Int.div_ceil}
use Rattle.verity_plan.{specs.{Plans.{HasBlock, PlanFields}, PlanCounts.level_count_of, Settings.fan}, proofs.CountLemmas.le-div_ceil}

-- one level up an index is divided by the fan
pub quotient-next : (f i m : ℕ) → i / f ^ (m + 1) ≡ i / f ^ m / f
quotient-next f i m =
    let e : m + 1 ≡ suc m = omega arith in
    ap (λ (k : ℕ). i / f ^ k) e ∙ ap (λ (k : ℕ). i / k) (pow-suc f m) ∙ sym (div-div-eq-div-mul i (f ^ m) f)

-- the index above index i is below the count, rounded up
pub quotient-below : (i n w : ℕ) → 0 < w → i < n → i / w < div_ceil n w
quotient-below i n w some below =
    elim (cases_lt (i / w) (div_ceil n w)) [
      | inl less ↦ less
      | inr most ↦ absurd (omega (arith, le-div_ceil n w (i / w) some most, div-add-mod' i w, below))
    ]

-- the tree has the hash block of each level above a data block
pub HasBlock-above : (p : PlanFields) (i l : ℕ) → 0 < fan p.settings → i < p.blocks → l < level_count_of p
    → HasBlock p l (i / fan p.settings ^ (l + 1))
HasBlock-above p i l some below low = record {
  level_below = low;
  index_below = quotient-below i p.blocks (fan p.settings ^ (l + 1)) (one-le-pow (l + 1) (fan p.settings) some) below;
}
