-- Lane by lane: what an operator on vectors of n lanes does to lane j, and the words of a lane.
use Rattle.std.proofs.Common.{◌≡◌, ℕ, zero, suc, ◌+◌, ◌-◌, ◌<◌, ◌≤◌, List, [], ◌∷◌, ◌++◌, length, slice_index, get_or, take, set, map, refl, ap, sym}
use Rattle.std.{proofs.{Common.{◌∙◌, arith}, lemmas.Simd.{get_or-zip2, length-zip2, get_or-replicate}}, specs.Prelude.replicate}
use Rattle.std.proofs.lemmas.List.{get_or-map, get_or-set_same, get_or-set_other, length-replicate, map-set, take_all, take_more}
use Rattle.sha_lanes.specs.Lanes.{HasLanes, lane}
use Rattle.std.{proofs.{lemmas.List.take_more_set, Math.ListN.{length-map, length-set, get_or-map as get_or-map'}}, specs.Simd.Lanes.zip2}

-- a vector, by its own lanes
pub own_lanes : {n : ℕ} {x : List ℕ} → length x ≡ n → HasLanes n x (λ j. slice_index x j)
own_lanes l = record { long = l; value = λ j lt. refl }

-- an operator on two vectors
pub zip_lanes : {n : ℕ} {f g : ℕ → ℕ} {x y : List ℕ} (o : ℕ → ℕ → ℕ) → HasLanes n x f → HasLanes n y g → HasLanes n (zip2 o x y) (λ j. o (f j) (g j))
zip_lanes {n} {f} {g} {x} {y} o p q = record {
  long = length-zip2 o x y (p.long ∙ sym q.long) ∙ p.long;
  value = λ j lt.
      let jx : j < length x = omega (arith, p.long) in
      let jy : j < length y = omega (arith, q.long) in
      get_or-zip2 o x y j 0 0 0 jx jy ∙ (ap (λ u. o u (slice_index y j)) (p.value j lt) ∙ ap (o (f j)) (q.value j lt));
}

-- an operator on one vector
pub map_lanes : {n : ℕ} {f : ℕ → ℕ} {x : List ℕ} (o : ℕ → ℕ) → HasLanes n x f → HasLanes n (map o x) (λ j. o (f j))
map_lanes {n} {f} {x} o p = record {
  long = length-map x o ∙ p.long;
  value = λ j lt.
      let jx : j < length x = omega (arith, p.long) in
      get_or-map o x j 0 0 jx ∙ ap o (p.value j lt);
}

-- one word in every lane
pub splat_lanes : (n k : ℕ) → HasLanes n (replicate n k) (λ j. k)
splat_lanes n k = record { long = length-replicate n k; value = λ j lt. get_or-replicate n j k 0 lt }

-- the same lanes in another form
pub as_lanes : {n : ℕ} {f g : ℕ → ℕ} {x : List ℕ} → HasLanes n x f → ((j : ℕ) → f j ≡ g j) → HasLanes n x g
as_lanes p e = record { long = p.long; value = λ j lt. p.value j lt ∙ e j }

-- a word of a lane is the lane of a vector
pub word_of_lane : (w : List (List ℕ)) (j t : ℕ) → slice_index (get_or w t []) j ≡ slice_index (lane w j) t
word_of_lane w j t = sym (get_or-map' (λ x. slice_index x j) w t [])

-- a vector stored at t
pub lane_store : (w : List (List ℕ)) (x : List ℕ) (j t : ℕ) → t < length w
    → take (t + 1) (lane (set w t x) j) ≡ take t (lane w j) ++ slice_index x j ∷ []
lane_store w x j t lt =
    let lt' : t < length (lane w j) = omega (arith, length-map w (λ y. slice_index y j)) in
    ap (take (t + 1)) (map-set (λ y. slice_index y j) w t x) ∙ take_more_set (lane w j) t (slice_index x j) lt'

-- a word of a lane copied to its place, and the lane once all are copied
pub word_copied : (w : List (List ℕ)) (x : List ℕ) (j t : ℕ) → length x ≡ length w → t < length w → take t x ≡ take t (lane w j)
    → take (t + 1) (set x t (slice_index (get_or w t []) j)) ≡ take (t + 1) (lane w j)
word_copied w x j t long lt same =
    let lt' : t < length (lane w j) = omega (arith, length-map w (λ y. slice_index y j)) in
    take_more_set x t _ (omega arith)
    ∙ (ap (λ z. z ++ slice_index (get_or w t []) j ∷ []) same
    ∙ (ap (λ z. take t (lane w j) ++ z ∷ []) (word_of_lane w j t) ∙ sym (take_more (lane w j) t 0 lt')))

pub lane_copied : (w : List (List ℕ)) (x : List ℕ) (j t : ℕ) → length x ≡ length w → length w ≤ t → take t x ≡ take t (lane w j) → x ≡ lane w j
lane_copied w x j t long end same =
    sym (take_all t x (omega arith))
    ∙ (same ∙ take_all t (lane w j) (omega (arith, length-map w (λ y. slice_index y j))))

-- the lane of eight vectors
pub lane_of_eight : (v : List (List ℕ)) (j : ℕ) → length v ≡ 8
    → lane v j ≡ slice_index (get_or v 0 []) j ∷ slice_index (get_or v 1 []) j ∷ slice_index (get_or v 2 []) j
    ∷ slice_index (get_or v 3 []) j ∷ slice_index (get_or v 4 []) j ∷ slice_index (get_or v 5 []) j
    ∷ slice_index (get_or v 6 []) j ∷ slice_index (get_or v 7 []) j ∷ []
lane_of_eight (a ∷ b ∷ c ∷ d ∷ e ∷ f ∷ g ∷ h ∷ []) j l = refl
lane_of_eight v j l = absurd (omega arith)

-- eight words
pub eight_words : (v : List ℕ) → length v ≡ 8
    → v ≡ slice_index v 0 ∷ slice_index v 1 ∷ slice_index v 2 ∷ slice_index v 3
    ∷ slice_index v 4 ∷ slice_index v 5 ∷ slice_index v 6 ∷ slice_index v 7 ∷ []
eight_words (a ∷ b ∷ c ∷ d ∷ e ∷ f ∷ g ∷ h ∷ []) l = refl
eight_words v l = absurd (omega arith)

-- equal heads and equal tails
pub cons_eq : {a b : ℕ} {s t : List ℕ} → a ≡ b → s ≡ t → a ∷ s ≡ b ∷ t
cons_eq {a} {b} {s} {t} e f = ap (λ z. z ∷ s) e ∙ ap (λ z. b ∷ z) f

-- a fact of each of eight lanes, from the fact of each
pub eight_cases : (P : ℕ → Type 0) → P 0 → P 1 → P 2 → P 3 → P 4 → P 5 → P 6 → P 7 → (j : ℕ) → j < 8 → P j
eight_cases P a b c d e f g h zero lt = a
eight_cases P a b c d e f g h (suc zero) lt = b
eight_cases P a b c d e f g h (suc (suc zero)) lt = c
eight_cases P a b c d e f g h (suc (suc (suc zero))) lt = d
eight_cases P a b c d e f g h (suc (suc (suc (suc zero)))) lt = e
eight_cases P a b c d e f g h (suc (suc (suc (suc (suc zero))))) lt = f
eight_cases P a b c d e f g h (suc (suc (suc (suc (suc (suc zero)))))) lt = g
eight_cases P a b c d e f g h (suc (suc (suc (suc (suc (suc (suc zero))))))) lt = h
eight_cases P a b c d e f g h (suc (suc (suc (suc (suc (suc (suc (suc j)))))))) lt = absurd (omega arith)

-- and of each of the first n lanes
pub first_cases : {n : ℕ} (P : ℕ → Type 0) → n ≤ 8 → (0 < n → P 0) → (1 < n → P 1) → (2 < n → P 2) → (3 < n → P 3)
    → (4 < n → P 4) → (5 < n → P 5) → (6 < n → P 6) → (7 < n → P 7) → (j : ℕ) → j < n → P j
first_cases {n} P most a b c d e f g h j lt = eight_cases (λ i. i < n → P i) a b c d e f g h j (omega arith) lt

-- and of each of four lanes
pub four_cases : (P : ℕ → Type 0) → P 0 → P 1 → P 2 → P 3 → (j : ℕ) → j < 4 → P j
four_cases P a b c d zero lt = a
four_cases P a b c d (suc zero) lt = b
four_cases P a b c d (suc (suc zero)) lt = c
four_cases P a b c d (suc (suc (suc zero))) lt = d
four_cases P a b c d (suc (suc (suc (suc j)))) lt = absurd (omega arith)

-- a vector stored at t: the word of its place, and those of the places before it
pub lane_at : (w : List (List ℕ)) (x : List ℕ) (j t : ℕ) → t < length w → slice_index (lane (set w t x) j) t ≡ slice_index x j
lane_at w x j t lt = sym (word_of_lane (set w t x) j t) ∙ ap (λ z. slice_index z j) (get_or-set_same w t x [] lt)

pub lane_kept : (w : List (List ℕ)) (x : List ℕ) (j i t : ℕ) → i < t → slice_index (lane (set w t x) j) i ≡ slice_index (lane w j) i
lane_kept w x j i t lt =
    sym (word_of_lane (set w t x) j i)
    ∙ (ap (λ z. slice_index z j) (get_or-set_other w t i x [] (λ e. absurd (omega arith))) ∙ word_of_lane w j i)

-- a word before t is kept, where its place is written in two ways
pub word_kept : (w : List (List ℕ)) (x : List ℕ) (j t p q : ℕ) → p ≡ q → q < t
    → slice_index (get_or w p []) j ≡ slice_index (get_or (set w t x) q []) j
word_kept w x j t p q same before =
    ap (λ i. slice_index (get_or w i []) j) same
    ∙ ap (λ z. slice_index z j) (sym (get_or-set_other w t q x [] (λ e. absurd (omega arith))))

-- two vectors stored, one after the other, are the two before u
pub two_stored : (w : List (List ℕ)) (x y : List ℕ) (t u : ℕ) → t + 1 < length w → u ≡ t + 2
    → (x ≡ get_or (set (set w t x) (t + 1) y) (u - 2) []) × (y ≡ get_or (set (set w t x) (t + 1) y) (u - 1) [])
two_stored w x y t u lt next =
    let first : u - 2 ≡ t = omega arith in
    let second : u - 1 ≡ t + 1 = omega arith in
    let below : t + 1 < length (set w t x) = omega (arith, length-set w t x) in (
      sym (ap (λ i. get_or (set (set w t x) (t + 1) y) i []) first
          ∙ (get_or-set_other (set w t x) (t + 1) t y [] (λ e. absurd (omega arith)) ∙ get_or-set_same w t x [] (omega arith))),
      sym (ap (λ i. get_or (set (set w t x) (t + 1) y) i []) second ∙ get_or-set_same (set w t x) (t + 1) y [] below),
    )
