use Rattle.std.proofs.Common.{arith, refl, ◌≡◌, ◌∙◌, ◌<◌, ◌&&◌, ℕ, Bool, true, false, cond, Some, None, Result, Ok, Err, nat_lt, lt-ltb, ltb-true}
use Rattle.{std.{proofs.lemmas.Str.Parse.parse_plain, specs.Result.{OkIff, result_ok}}, command_line.proofs.Numerals.numerals}
use Rattle.command_line.proofs.options.numbers.read_number.Goals as goal

-- a value if three tests hold, and otherwise none
by_tests : {E : Type 0} (a : Bool) (n m k : ℕ) (r : Result ℕ E) → OkIff r ((a ≡ true) × (0 < n) × (m < k)) m
    → result_ok r ≡ cond (a && (nat_lt 0 n && nat_lt m k)) (Some m) None
by_tests a n m k (Ok x) h = rw (h.0.0, lt-ltb 0 n h.0.1, lt-ltb m k h.0.2, h.1) refl
by_tests false n m k (Err e) h = refl
by_tests true n m k (Err e) h = go (nat_lt 0 n) (nat_lt m k) refl refl
  where
    go : (p q : Bool) → nat_lt 0 n ≡ p → nat_lt m k ≡ q → None ≡ cond (p && q) (Some m) None
    go false q x y = refl
    go true false x y = refl
    go true true x y = absurd (h (refl, ltb-true 0 n x, ltb-true m k y))

pub returns : goal.returns
returns c =
    let plain = parse_plain numerals 64 c.args.text.now _ c.parse.ensures.value.0 (λ e. let b = c.if-starts_with.ensures.byte (omega arith) (omega arith) (λ w o h. h) in cc (rw e at b)) in
    c.ok.ensures.value ∙ by_tests _ _ _ _ _ plain
