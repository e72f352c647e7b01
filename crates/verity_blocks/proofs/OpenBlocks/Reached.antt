-- Where the levels stand as one more data block comes.
use Rattle.std.{proofs.{Common.{◌≡◌, ℕ, ◌+◌, ◌-◌, ◌*◌, ◌/◌, ◌%◌, ◌^◌, ◌<◌, arith, sym, ◌∙◌, ap}, lemmas.Grind.pow_more}, specs.Int.div_ceil}
use Rattle.{std.proofs.lemmas.Nat.{div-add-mod', mod-mul-add, div-mul-add, pow-add}, verity_blocks.specs.Steps.OpenBlocks.IsReached}
use Rattle.std.proofs.Math.Nat.{div-div-eq-div-mul, mul-div_cancel, one-le-pow, pow-zero}
use Rattle.verity_plan.proofs.{CountLemmas.div_ceil-below, IndexLemmas.quotient-next}

-- a number of data blocks, divided and rounded up, is one more than the place of the last
pub div_ceil-last : (i w : ℕ) → 0 < w → div_ceil (i + 1) w ≡ i / w + 1
div_ceil-last i w some =
    let e : i + 1 - 1 ≡ i = omega arith in
    sym (div_ceil-below (i + 1) w some (omega arith)) ∙ ap (λ (k : ℕ). k / w + 1) e

pub IsReached-zero : (f i : ℕ) → IsReached f i 0
IsReached-zero f i = record { whole = rw pow-zero (omega arith) }

-- the next place of a level
pub quotient-reached : (f i m : ℕ) → 0 < f → IsReached f i m → (i + 1) / f ^ m ≡ i / f ^ m + 1
quotient-reached f i m some h =
    ap (λ (x : ℕ). x / f ^ m) h.whole ∙ mul-div_cancel (i / f ^ m + 1) (one-le-pow m f some)

-- a full block of level m sends its digest up
pub IsReached-full : (f i m : ℕ) → 0 < f → IsReached f i m → i / f ^ m % f + 1 ≡ f → IsReached f i (m + 1)
IsReached-full f i m some h full = record {
  whole =
      let q = i / f ^ m in
      let next : q + 1 ≡ (q / f + 1) * f = omega (arith, div-add-mod' q f, full) in
      rw (quotient-next f i m, pow_more) (omega (arith, h.whole, ap (λ (k : ℕ). k * f ^ m) next));
}

-- one more slot of a block that isn't full
pub next-slot : (f q : ℕ) → q % f + 1 < f → ((q + 1) % f ≡ q % f + 1) × ((q + 1) / f ≡ q / f)
next-slot f q room =
    let split : q / f * f + q % f ≡ q = div-add-mod' q f in
    let e : q + 1 ≡ q / f * f + (q % f + 1) = omega (arith, split) in (
      ap (λ (x : ℕ). x % f) e ∙ mod-mul-add (q / f) f (q % f + 1) room,
      ap (λ (x : ℕ). x / f) e ∙ div-mul-add (q / f) f (q % f + 1) room,
    )

-- the levels above a block that isn't full stand as before
pub quotient-stays : (f i m l : ℕ) → 0 < f → IsReached f i m → i / f ^ m % f + 1 < f → m < l
    → (i + 1) / f ^ l ≡ i / f ^ l
quotient-stays f i m l some h room above =
    let k = l - (m + 1) in
    let e : l ≡ m + 1 + k = omega (arith, above) in
    let split : (n : ℕ) → n / f ^ l ≡ n / f ^ (m + 1) / f ^ k = λ n.
    ap (λ (x : ℕ). n / x) (ap (λ (x : ℕ). f ^ x) e ∙ pow-add f (m + 1) k)
    ∙ sym (div-div-eq-div-mul n (f ^ (m + 1)) (f ^ k)) in
    let next : (i + 1) / f ^ (m + 1) ≡ i / f ^ (m + 1) =
    quotient-next f (i + 1) m
    ∙ ap (λ (x : ℕ). x / f) (quotient-reached f i m some h)
    ∙ (next-slot f (i / f ^ m) room).1
    ∙ sym (quotient-next f i m) in
    split (i + 1) ∙ ap (λ (x : ℕ). x / f ^ k) next ∙ sym (split i)

-- so many are whole runs, and with a run more they are too
pub whole-next : (n d m : ℕ) → 0 < d → n / d * d ≡ n → m ≡ d → (n + m) / d * d ≡ n + m
whole-next n d m some whole is =
    let e : n + m ≡ (n / d + 1) * d = omega (arith, whole, is) in
    ap (λ (k : ℕ). k / d * d) e ∙ ap (λ (k : ℕ). k * d) (mul-div_cancel (n / d + 1) some) ∙ sym e
