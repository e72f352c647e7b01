-- SHA-256 in vectors of four words, by the definitions of `sha2`.
use Rattle.std.specs.Prelude.{◌≡◌, ℕ, ◌+◌, Bool, true, false, List, [], ◌∷◌, slice_index}
use Rattle.sha_instructions.specs.{Vectors.{first_four, four}, declared.sha_256.{Variables.Variables, Working.Working}}
use Rattle.sha2.specs.Sha256 as S256

-- the working variables, or the words of a hash value, in two vectors: for x86
abbrev pub abef : List ℕ → List ℕ
abef v = slice_index v 5 ∷ slice_index v 4 ∷ slice_index v 1 ∷ slice_index v 0 ∷ []

abbrev pub cdgh : List ℕ → List ℕ
cdgh v = slice_index v 7 ∷ slice_index v 6 ∷ slice_index v 3 ∷ slice_index v 2 ∷ []

-- and back
abbrev pub from_abef : List ℕ → List ℕ → List ℕ
from_abef x y =
    slice_index x 3 ∷ slice_index x 2 ∷ slice_index y 3 ∷ slice_index y 2
    ∷ slice_index x 1 ∷ slice_index x 0 ∷ slice_index y 1 ∷ slice_index y 0 ∷ []

-- the same for ARM, beside the first four
abbrev pub efgh : List ℕ → List ℕ
efgh v = slice_index v 4 ∷ slice_index v 5 ∷ slice_index v 6 ∷ slice_index v 7 ∷ []

abbrev pub from_abcd : List ℕ → List ℕ → List ℕ
from_abcd x y =
    slice_index x 0 ∷ slice_index x 1 ∷ slice_index x 2 ∷ slice_index x 3
    ∷ slice_index y 0 ∷ slice_index y 1 ∷ slice_index y 2 ∷ slice_index y 3 ∷ []

-- the two vectors, on ARM and on x86
abbrev pub first_half : Bool → List ℕ → List ℕ
first_half true = first_four
first_half false = abef

abbrev pub second_half : Bool → List ℕ → List ℕ
second_half true = efgh
second_half false = cdgh

-- the sum of each lane of x and σ 0 of the lane after it; y has the one after the last
abbrev pub add_sigma0 : List ℕ → List ℕ → List ℕ
add_sigma0 x y =
    S256.add32 (slice_index x 0) (S256.small_sigma0 (slice_index x 1))
    ∷ S256.add32 (slice_index x 1) (S256.small_sigma0 (slice_index x 2))
    ∷ S256.add32 (slice_index x 2) (S256.small_sigma0 (slice_index x 3))
    ∷ S256.add32 (slice_index x 3) (S256.small_sigma0 (slice_index y 0)) ∷ []

-- the sum of each lane of x and σ 1 of the word two before it, in the result; the last two lanes of y are the two words
-- before lane 0
abbrev pub add_sigma1 : List ℕ → List ℕ → List ℕ
add_sigma1 x y =
    let w0 = S256.add32 (slice_index x 0) (S256.small_sigma1 (slice_index y 2)) in
    let w1 = S256.add32 (slice_index x 1) (S256.small_sigma1 (slice_index y 3)) in
    w0 ∷ w1 ∷ S256.add32 (slice_index x 2) (S256.small_sigma1 w0) ∷ S256.add32 (slice_index x 3) (S256.small_sigma1 w1) ∷ []

-- two rounds, with the words w and the constants k
abbrev pub two_rounds : List ℕ → List ℕ → List ℕ → List ℕ
two_rounds v k w = S256.round (S256.round v (slice_index k 0) (slice_index w 0)) (slice_index k 1) (slice_index w 1)

-- and four
abbrev pub four_rounds : List ℕ → List ℕ → List ℕ → List ℕ
four_rounds v k w =
    S256.round (S256.round (two_rounds v k w) (slice_index k 2) (slice_index w 2)) (slice_index k 3) (slice_index w 3)

-- the first two lanes of x, or all four, are the sums of those of w and k
abbrev pub AreTwoSums : List ℕ → List ℕ → List ℕ → Type 0
AreTwoSums x k w = (slice_index x 0 ≡ S256.add32 (slice_index w 0) (slice_index k 0))
    × (slice_index x 1 ≡ S256.add32 (slice_index w 1) (slice_index k 1))

abbrev pub AreFourSums : List ℕ → List ℕ → List ℕ → Type 0
AreFourSums x k w = AreTwoSums x k w
    × (slice_index x 2 ≡ S256.add32 (slice_index w 2) (slice_index k 2))
    × (slice_index x 3 ≡ S256.add32 (slice_index w 3) (slice_index k 3))

-- the two vectors have the working variables s
abbrev pub Has : Bool → Variables → List ℕ → Type 0
Has for_arm v s = (v.first ≡ first_half for_arm s) × (v.second ≡ second_half for_arm s)

-- the working variables are those before round t, from s on with the words w, and the words those from t on
abbrev pub IsAt : Bool → Working → List ℕ → List ℕ → ℕ → Type 0
IsAt for_arm x s w t = Has for_arm x.v (S256.rounds s w t) × (x.w0 ≡ four w t) × (x.w1 ≡ four w (t + 4)) × (x.w2 ≡ four w (t + 8)) × (x.w3 ≡ four w (t + 12))
