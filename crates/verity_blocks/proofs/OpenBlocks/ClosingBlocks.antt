-- A digest on its way up: which hash blocks close with its data block.
use Rattle.std.proofs.{Common.{List, ap, arith, inl, inr, length, true, ℕ, ◌*◌, ◌+◌, ◌-◌, ◌/◌, ◌<◌, ◌^◌, ◌∙◌, ◌≡◌, ◌≤◌}, lemmas.Bool.cases_lt}
use Rattle.std.proofs.{lemmas.Nat.{div-mul-add, mod-mul-add, pow-add}, Math.Nat.one-le-pow}
use Rattle.verity_blocks.{proofs.{OpenBlocks.Reached.div_ceil-last, Order.ClosingInTurn.{closes-reached, closes-last}}, specs.ClosingOrder.closes}
use Rattle.verity_blocks.specs.Steps.OpenBlocks.{IsReached, HasClosed}
use Rattle.verity_plan.{specs.{Settings.{TreeSettingsFields, fan}, Plans.level_size}, proofs.{FanLemmas.fan-some, IndexLemmas.quotient-below}}

-- what is reached was reached at the levels below
pub reached-down : (f i m l : ℕ) → 0 < f → IsReached f i m → l ≤ m → IsReached f i l
reached-down f i m l some h le =
    let w = f ^ l in
    let k = (i / f ^ m + 1) * f ^ (m - l) in
    let wide : 0 < w = one-le-pow l f some in
    let e : m ≡ m - l + l = omega arith in
    let power : f ^ m ≡ f ^ (m - l) * w = ap (λ (n : ℕ). f ^ n) e ∙ pow-add f (m - l) l in
    let whole : i + 1 ≡ k * w + 0 = omega (arith, h.whole, ap (λ (n : ℕ). (i / f ^ m + 1) * n) power) in
    let next : i / w + 1 ≡ k =
    grind (arith, whole, div-mul-add k w 0 wide, mod-mul-add k w 0 wide, div_ceil-last i w wide) in
    record { whole = omega (arith, whole, ap (λ (n : ℕ). n * w) next) }

-- the block that closes with data block i is one of its level
pub closing-below : (f count m i : ℕ) → 0 < f → i < count → i / f ^ (m + 1) < level_size f count m
closing-below f count m i some below = quotient-below i count (f ^ (m + 1)) (one-le-pow (m + 1) f some) below

-- where a level's block has closed, so have those below it
pub closes-closed : (s : TreeSettingsFields) (blocks : List (List ℕ)) (i m levels : ℕ) (store : List ℕ)
    → i < length blocks → HasClosed s blocks i m levels store → (k : ℕ) → k ≤ m
    → closes (fan s) (length blocks) i k ≡ true
closes-closed s blocks i m levels store below h k le =
    let some = fan-some s in
    elim (cases_lt (i + 1) (length blocks)) [
      | inl more ↦ closes-reached (fan s) (length blocks) i k some
          (reached-down (fan s) i (m + 1) (k + 1) some (h.reached more) (omega (arith, le)))
      | inr past ↦ closes-last (fan s) (length blocks) i k (omega (arith, past, below))
    ]
