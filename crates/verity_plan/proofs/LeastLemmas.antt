-- The least number that passes a test.
use Rattle.std.proofs.Common.{◌≡◌, ℕ, zero, suc, ◌+◌, ◌<◌, ◌≤◌, Bool, true, false, arith, sym, ◌∙◌, ap, subst, refl, inl, inr}
use Rattle.{std.proofs.lemmas.Bool.{cases_lt, cases_eq}, verity_plan.specs.Settings.least_from}

-- x passes, it is at least l, and nothing from l to it passes
pub record IsLeast (passes : ℕ → Bool) (l x : ℕ) : Type 0 where
  pub from : l ≤ x
  pub passing : passes x ≡ true
  pub least : (m : ℕ) → l ≤ m → m < x → passes m ≡ false

-- what passes is not below the least
pub IsLeast-le : (passes : ℕ → Bool) (l x y : ℕ) → IsLeast passes l x → l ≤ y → passes y ≡ true → x ≤ y
IsLeast-le passes l x y h low pass =
    elim (cases_lt y x) [
      | inl below ↦ let not : passes y ≡ false = h.least y low below in absurd (let clash : ⊥ = cc in clash)
      | inr le ↦ le
    ]

-- two least numbers are one
pub IsLeast-same : (passes : ℕ → Bool) (l x y : ℕ) → IsLeast passes l x → IsLeast passes l y → x ≡ y
IsLeast-same passes l x y h k =
    let a : x ≤ y = IsLeast-le passes l x y h k.from k.passing in
    let b : y ≤ x = IsLeast-le passes l y x k h.from h.passing in
    omega arith

-- if some number passes within the fuel, the least is found
pub IsLeast-least_from : (passes : ℕ → Bool) (l fuel k : ℕ) → l ≤ k → k ≤ l + fuel → passes k ≡ true
    → IsLeast passes l (least_from passes l fuel)
unfolding least_from
IsLeast-least_from passes l zero k low high pass =
    let e : k ≡ l = omega arith in
    record {
      from = omega arith;
      passing = subst (λ (n : ℕ). passes n ≡ true) e pass;
      least = λ m a b. absurd (omega arith);
    }
IsLeast-least_from passes l (suc fuel) k low high pass =
    elim (passes l) as (λ b. passes l ≡ b
    → IsLeast passes l (elim b [ true ↦ l | false ↦ least_from passes (suc l) fuel ])) [
      | true ↦ λ t. record { from = omega arith; passing = t; least = λ m a b. absurd (omega arith) }
      | false ↦ λ f.
          let apart : l ≡ k → ⊥ =
          λ e. let again : passes l ≡ true = subst (λ (n : ℕ). passes n ≡ true) (sym e) pass in cc in
          let above : suc l ≤ k = omega (arith, apart) in
          let r = IsLeast-least_from passes (suc l) fuel k above (omega arith) pass in
          record {
            from = omega (arith, r.from);
            passing = r.passing;
            least = λ m a b. elim (cases_eq l m) [
              | inl e ↦ subst (λ (n : ℕ). passes n ≡ false) e f
              | inr ne ↦ r.least m (omega (arith, ne)) b
            ];
          }
    ] refl

-- equal tests have equal least numbers
pub least_from-same : (p q : ℕ → Bool) (l fuel : ℕ) → ((m : ℕ) → p m ≡ q m) → least_from p l fuel ≡ least_from q l fuel
unfolding least_from
least_from-same p q l zero same = refl
least_from-same p q l (suc fuel) same =
    ap (λ (b : Bool). let after : Bool → ℕ = λ c. elim c [ true ↦ l | false ↦ least_from p (suc l) fuel ] in after b)
    (same l)
    ∙ ap (λ (x : ℕ). let after : Bool → ℕ = λ c. elim c [ true ↦ l | false ↦ x ] in after (q l))
    (least_from-same p q (suc l) fuel same)
