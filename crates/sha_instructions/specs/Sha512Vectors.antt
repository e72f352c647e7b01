-- SHA-512 in vectors of two words, by the definitions of `sha2`.
use Rattle.std.specs.Prelude.{◌≡◌, ℕ, ◌+◌, List, [], ◌∷◌, slice_index}
use Rattle.sha_instructions.specs.declared.sha_512.{Variables.Variables, Working.Working}
use Rattle.sha2.specs.Sha512 as S512

-- two words of a list, from word t on
abbrev pub two : List ℕ → ℕ → List ℕ
two w t = slice_index w t ∷ slice_index w (t + 1) ∷ []

-- two words of a block, from byte i on
abbrev pub two_at : List ℕ → ℕ → List ℕ
two_at b i = S512.word_at b i ∷ S512.word_at b (i + 8) ∷ []

-- lane by lane, the sum
abbrev pub add : List ℕ → List ℕ → List ℕ
add x y = S512.add64 (slice_index x 0) (slice_index y 0) ∷ S512.add64 (slice_index x 1) (slice_index y 1) ∷ []

-- the last lane of x, and the first of y
abbrev pub between : List ℕ → List ℕ → List ℕ
between x y = slice_index x 1 ∷ slice_index y 0 ∷ []

-- T 1 of two rounds, that of the second first: w has G and H with word and constant of the second and of the first round,
-- x has F and G, and y has D and E
abbrev pub first_sums : List ℕ → List ℕ → List ℕ → List ℕ
first_sums w x y =
    let t = S512.add64 (S512.add64 (S512.ch (slice_index y 1) (slice_index x 0) (slice_index x 1)) (S512.big_sigma1 (slice_index y 1))) (slice_index w 1) in
    let e = S512.add64 t (slice_index y 0) in
    S512.add64 (S512.add64 (S512.ch e (slice_index y 1) (slice_index x 0)) (S512.big_sigma1 e)) (slice_index w 0) ∷ t ∷ []

-- A and B after two rounds: w has T 1 of both, x has C and D, and y has A and B before them
abbrev pub second_sums : List ℕ → List ℕ → List ℕ → List ℕ
second_sums w x y =
    let a = S512.add64 (S512.add64 (S512.maj (slice_index x 0) (slice_index y 1) (slice_index y 0)) (S512.big_sigma0 (slice_index y 0))) (slice_index w 1) in
    S512.add64 (S512.add64 (S512.maj a (slice_index y 0) (slice_index y 1)) (S512.big_sigma0 a)) (slice_index w 0) ∷ a ∷ []

-- the sum of each lane of x and σ 0 of the word after it: y has the one after the last
abbrev pub add_sigma0 : List ℕ → List ℕ → List ℕ
add_sigma0 x y =
    S512.add64 (slice_index x 0) (S512.small_sigma0 (slice_index x 1))
    ∷ S512.add64 (slice_index x 1) (S512.small_sigma0 (slice_index y 0)) ∷ []

-- the sum of each lane of x, σ 1 of that of y, and that of z
abbrev pub add_sigma1 : List ℕ → List ℕ → List ℕ → List ℕ
add_sigma1 x y z =
    S512.add64 (S512.add64 (slice_index x 0) (S512.small_sigma1 (slice_index y 0))) (slice_index z 0)
    ∷ S512.add64 (S512.add64 (slice_index x 1) (S512.small_sigma1 (slice_index y 1))) (slice_index z 1) ∷ []

-- the vectors have the working variables s, or the words of a hash value
abbrev pub Has : Variables → List ℕ → Type 0
Has v s = (v.ab ≡ two s 0) × (v.cd ≡ two s 2) × (v.ef ≡ two s 4) × (v.gh ≡ two s 6)

-- the working variables are those before round t, from s on with the words w, and the words those from t on
abbrev pub IsAt : Working → List ℕ → List ℕ → ℕ → Type 0
IsAt x s w t = Has x.v (S512.rounds s w t) × (x.w0 ≡ two w t) × (x.w1 ≡ two w (t + 2)) × (x.w2 ≡ two w (t + 4)) × (x.w3 ≡ two w (t + 6))
    × (x.w4 ≡ two w (t + 8)) × (x.w5 ≡ two w (t + 10)) × (x.w6 ≡ two w (t + 12)) × (x.w7 ≡ two w (t + 14))
