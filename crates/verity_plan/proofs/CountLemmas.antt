-- Quotients rounded up, and the number of levels.
use Rattle.std.proofs.Common.{◌≡◌, ℕ, zero, suc, ◌+◌, ◌-◌, ◌*◌, ◌^◌, ◌<◌, ◌≤◌, ◌/◌, ◌%◌, true, false, leb, arith, sym, ◌∙◌, inl, inr, ap}
use Rattle.std.{proofs.lemmas.{Grind.div_ceil_times, Bool.{Decides.{nat_tests, leb_tells}, cases_lt}}, specs.{Prelude.nat_le, Int.div_ceil}}
use Rattle.std.proofs.lemmas.Nat.{div-add-mod', div-mul-add, mod-mul-add, mod_below}
use Rattle.std.proofs.Math.Nat.{le_of_mul-le-mul_right, mul-le-mul_left, mul-le-mul_right, mul-pos, pow-zero, pow-suc}
use Rattle.verity_plan.{specs.{Plans.level_count, PlanLaws.IsLevelCount}, proofs.LeastLemmas.IsLeast-least_from}

-- more of the same number are not less
pub mul_le : (a b w : ℕ) → a ≤ b → a * w ≤ b * w
mul_le a b w h = mul-le-mul_right w h

-- n fits into k runs of a exactly when the quotient, rounded up, is at most k
pub le-div_ceil : (n a k : ℕ) → 0 < a → div_ceil n a ≤ k → n ≤ k * a
le-div_ceil n a k some h = omega (arith, div_ceil_times n a some, mul-le-mul_right a h)

pub div_ceil-le : (n a k : ℕ) → 0 < a → n ≤ k * a → div_ceil n a ≤ k
div_ceil-le n a k some h =
    elim (cases_lt k (div_ceil n a)) [
      | inl more ↦
          let step : k + 1 ≤ div_ceil n a = omega arith in
          absurd (omega (arith, div_ceil_times n a some, mul-le-mul_right a step))
      | inr less ↦ less
    ]

-- n whole runs of a make n
pub div_ceil-mul : (n a : ℕ) → 0 < a → div_ceil (n * a) a ≡ n
div_ceil-mul n a some =
    let none : n * a ≡ n * a + 0 = omega arith in
    let quotient : n * a / a ≡ n = ap (λ (x : ℕ). x / a) none ∙ div-mul-add n a 0 some in
    let rest : n * a % a ≡ 0 = ap (λ (x : ℕ). x % a) none ∙ mod-mul-add n a 0 some in
    omega (arith, quotient, rest)

-- rounding up twice is rounding up once
pub div_ceil-div_ceil : (n a b : ℕ) → 0 < a → 0 < b → div_ceil (div_ceil n a) b ≡ div_ceil n (a * b)
div_ceil-div_ceil n a b pa pb =
    let both : 0 < a * b = mul-pos pa pb in
    let once : n ≤ div_ceil n (a * b) * (a * b) = le-div_ceil n (a * b) (div_ceil n (a * b)) both (omega arith) in
    let inner : div_ceil n a ≤ div_ceil n (a * b) * b = div_ceil-le n a _ pa (omega (arith, once)) in
    let low : div_ceil (div_ceil n a) b ≤ div_ceil n (a * b) = div_ceil-le (div_ceil n a) b _ pb inner in
    let twice : div_ceil n a ≤ div_ceil (div_ceil n a) b * b = le-div_ceil (div_ceil n a) b _ pb (omega arith) in
    let outer : n ≤ div_ceil (div_ceil n a) b * b * a = le-div_ceil n a _ pa twice in
    let high : div_ceil n (a * b) ≤ div_ceil (div_ceil n a) b = div_ceil-le n (a * b) _ both (omega (arith, outer)) in
    omega (arith, low, high)

-- if k runs of a are within n, k is at most the quotient, rounded up
pub div_ceil-most : (n a k : ℕ) → 0 < a → k * a ≤ n → k ≤ div_ceil n a
div_ceil-most n a k some within =
    le_of_mul-le-mul_right {k = a} (omega (arith, le-div_ceil n a (div_ceil n a) some (omega arith), within)) some

-- a quotient of fewer, rounded up, is no more
pub div_ceil-fewer : (few many a : ℕ) → 0 < a → few ≤ many → div_ceil few a ≤ div_ceil many a
div_ceil-fewer few many a some le =
    div_ceil-le few a (div_ceil many a) some
    (omega (arith, le, le-div_ceil many a (div_ceil many a) some (omega arith)))

-- one run is enough exactly when the quotient, rounded up, is at most 1
pub leb-div_ceil_one : (n a : ℕ) → 0 < a → leb (div_ceil n a) 1 ≡ leb n a
leb-div_ceil_one n a some =
    elim (leb_tells n a) [
      | inl fits ↦ let le : div_ceil n a ≤ 1 = div_ceil-le n a 1 some (omega (arith, fits.1)) in
          let t : leb (div_ceil n a) 1 ≡ true = grind (arith, nat_tests, le) in t ∙ sym fits.0
      | inr past ↦ elim (leb_tells (div_ceil n a) 1) [
        | inl fits ↦ absurd (omega (arith, le-div_ceil n a 1 some fits.1, past.1))
        | inr also ↦ also.0 ∙ sym past.0
      ]
    ]

-- a run before the last begins within the list
pub mul-lt_div_ceil : (n a k : ℕ) → 0 < a → k < div_ceil n a → k * a < n
mul-lt_div_ceil n a k some h =
    elim (cases_lt (k * a) n) [
      | inl less ↦ less
      | inr past ↦ absurd (omega (arith, div_ceil-le n a k some past, h))
    ]

-- some elements make some runs
pub div_ceil-pos : (n a : ℕ) → 0 < a → 0 < n → 0 < div_ceil n a
div_ceil-pos n a some more =
    elim (cases_lt 0 (div_ceil n a)) [
      | inl pos ↦ pos
      | inr none ↦ absurd (omega (arith, le-div_ceil n a 0 some none))
    ]

-- there are fewer runs than elements
pub div_ceil-lt : (n a : ℕ) → 2 ≤ a → 1 < n → div_ceil n a < n
div_ceil-lt n a two more =
    omega (arith, div_ceil-le n a (n - 1) (omega arith) (omega (arith, mul-le-mul_left (n - 1) two)))

-- and at most two thirds as many
pub div_ceil-half : (n a : ℕ) → 2 ≤ a → 1 < n → 3 * div_ceil n a ≤ 2 * n
div_ceil-half n a two more =
    let half : div_ceil n a ≤ (n + 1) / 2 =
    div_ceil-le n a ((n + 1) / 2) (omega arith) (omega (arith, mul-le-mul_left ((n + 1) / 2) two)) in
    omega (arith, half)

-- a quotient that is rounded up, by the one below
pub div_ceil-below : (n a : ℕ) → 0 < a → 0 < n → (n - 1) / a + 1 ≡ div_ceil n a
div_ceil-below n a some more =
    let q = (n - 1) / a in
    let split : q * a + (n - 1) % a ≡ n - 1 = div-add-mod' (n - 1) a in
    let low : (n - 1) % a < a = mod_below (n - 1) a some in
    let next : (q + 1) * a ≡ q * a + a = omega arith in
    let most : div_ceil n a ≤ q + 1 = div_ceil-le n a (q + 1) some (omega (arith, split, low, next, more)) in
    elim (cases_lt q (div_ceil n a)) [
      | inl less ↦ omega (arith, less, most)
      | inr few ↦ absurd (omega (arith, le-div_ceil n a q some few, split, more))
    ]

-- a number is below its power
pub lt-pow_self : (fan n : ℕ) → 2 ≤ fan → n < fan ^ n
lt-pow_self fan zero two = omega (arith, pow-zero fan)
lt-pow_self fan (suc n) two =
    omega (
      arith,
      pow-suc fan n,
      lt-pow_self fan n two,
      let at_least : 2 ≤ fan =
          two in mul-le-mul_right (fan ^ n) at_least,
    )

pub IsLevelCount-level_count : (fan n : ℕ) → 2 ≤ fan → IsLevelCount fan n (level_count fan n)
unfolding level_count
IsLevelCount-level_count fan n two =
    let fits : leb n (fan ^ n) ≡ true = grind (arith, nat_tests, lt-pow_self fan n two) in
    let found = IsLeast-least_from (λ l. nat_le n (fan ^ l)) 0 n n (omega arith) (omega arith) fits in
    record {
      enough = let pass : leb n (fan ^ level_count fan n) ≡ true = found.passing in grind (arith, nat_tests, pass);
      least = λ m below. let fail : leb n (fan ^ m) ≡ false = found.least m (omega arith) below in grind
          (arith, nat_tests, fail);
    }

-- two numbers of levels are one
pub IsLevelCount-same : (fan n x y : ℕ) → IsLevelCount fan n x → IsLevelCount fan n y → x ≡ y
IsLevelCount-same fan n x y h k = grind (arith, h.least y, k.least x)
