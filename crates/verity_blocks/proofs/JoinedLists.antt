-- Lists that are joined.
use Rattle.std.proofs.{Common.{◌≡◌, ℕ, zero, suc, ◌+◌, ◌*◌, ◌<◌, ◌≤◌, List, length, arith, ◌∙◌, ap, ◌++◌, refl, length-append}, lemmas.List.take_at}
use Rattle.std.{proofs.Math.Seq.drop-append-add, specs.{Fork.slice_chunk, List.{flat_map, range_with_len}}}

-- some pieces
pub length-pieces : (f : ℕ → List ℕ) (size from n : ℕ) → ((m : ℕ) → from ≤ m → m < from + n → length (f m) ≡ size)
    → length (flat_map f (range_with_len from n)) ≡ n * size
length-pieces f size from zero each = let none : 0 ≡ 0 * size = omega arith in none
length-pieces f size from (suc n) each =
    let rest = length-pieces f size (from + 1) n (λ m a b. each m (omega (arith, a)) (omega (arith, b))) in
    length-append (f from) (flat_map f (range_with_len (from + 1) n))
    ∙ omega (arith, rest, each from (omega arith) (omega arith))

-- one piece
pub piece : (f : ℕ → List ℕ) (size from n l : ℕ) → l < n → ((m : ℕ) → from ≤ m → m < from + n → length (f m) ≡ size)
    → slice_chunk (flat_map f (range_with_len from n)) size l ≡ f (from + l)
piece f size from zero l below each = absurd (omega arith)
piece f size from (suc n) zero below each =
    let start : 0 * size ≡ 0 = omega arith in
    let same : from ≡ from + 0 = omega arith in
    rw start (take_at (f from) _ size (each from (omega arith) (omega arith)) ∙ ap f same)
piece f size from (suc n) (suc l) below each =
    let past : suc l * size ≡ length (f from) + l * size = omega (arith, each from (omega arith) (omega arith)) in
    let same : from + 1 + l ≡ from + suc l = omega arith in
    rw (past, drop-append-add (f from)) (piece f size (from + 1) n l (omega arith)
    (λ m a b. each m (omega (arith, a)) (omega (arith, b))) ∙ ap f same)

-- the same lists for each number, the same joined
pub flat_map-same : (f g : ℕ → List ℕ) (from count : ℕ)
    → ((k : ℕ) → from ≤ k → k < from + count → f k ≡ g k)
    → flat_map f (range_with_len from count) ≡ flat_map g (range_with_len from count)
flat_map-same f g from zero same = refl
flat_map-same f g from (suc count) same =
    ap (λ (xs : List ℕ). xs ++ flat_map f (range_with_len (from + 1) count)) (same from (omega arith) (omega arith))
    ∙ ap (λ (xs : List ℕ). g from ++ xs) (flat_map-same f g (from + 1) count
    (λ k least most. same k (omega (arith, least)) (omega (arith, most))))
