-- Words that are put together one by one.
use Rattle.std.proofs.Common.{◌≡◌, ◌∙◌, ap, ap₂, refl, sym, ℕ, zero, suc, ◌+◌, add-one, List, [], ◌∷◌, ◌++◌, map, take, Some, None}
use Rattle.std.{proofs.lemmas.List.map-append, specs.Prelude.slice_get}

-- a list that has no element of this index is taken whole
pub take-whole : {X : Type 0} (xs : List X) (i : ℕ) → slice_get xs i ≡ None → take i xs ≡ xs
take-whole [] zero none = refl
take-whole [] (suc i) none = refl
take-whole (x ∷ xs) zero none = absurd cc
take-whole (x ∷ xs) (suc i) none = ap (λ rest. x ∷ rest) (take-whole xs i none)

take-more : {X : Type 0} (xs : List X) (i : ℕ) (x : X) → slice_get xs i ≡ Some x
    → take (suc i) xs ≡ take i xs ++ x ∷ []
take-more [] i x is = absurd cc
take-more (y ∷ ys) zero x is = let same : y ≡ x = cc in ap (λ z. z ∷ []) same
take-more (y ∷ ys) (suc i) x is = ap (λ rest. y ∷ rest) (take-more ys i x is)

-- one more element, whose value is that of the next index
pub map-push-take : {X : Type 0} (f : X → List ℕ) (xs more : List X) (x : X) (words : List (List ℕ)) (i : ℕ) (word : List ℕ)
    → map f xs ≡ take i words → slice_get words i ≡ Some word → f x ≡ word → more ≡ xs ++ x ∷ []
    → map f more ≡ take (i + 1) words
map-push-take f xs more x words i word so_far is same pushed =
    let next : take (i + 1) words ≡ take i words ++ word ∷ [] = rw add-one (take-more words i word is) in
    ap (map f) pushed ∙ map-append f xs (x ∷ [])
    ∙ ap₂ (λ (prefix : List (List ℕ)) (last : List ℕ). prefix ++ last ∷ []) so_far same ∙ sym next
