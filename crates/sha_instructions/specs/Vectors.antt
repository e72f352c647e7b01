-- What vectors of four words have: lane 0 is the first of a list.
use Rattle.std.specs.Prelude.{ℕ, ◌+◌, List, [], ◌∷◌, bit_xor, slice_index}
use Rattle.sha2.specs.Sha256 as S256

-- four words of a list, from word t on
abbrev pub four : List ℕ → ℕ → List ℕ
four w t = slice_index w t ∷ slice_index w (t + 1) ∷ slice_index w (t + 2) ∷ slice_index w (t + 3) ∷ []

-- the first four words of a list
abbrev pub first_four : List ℕ → List ℕ
first_four v = slice_index v 0 ∷ slice_index v 1 ∷ slice_index v 2 ∷ slice_index v 3 ∷ []

-- the first four words, the last of them first
abbrev pub backwards : List ℕ → List ℕ
backwards v = slice_index v 3 ∷ slice_index v 2 ∷ slice_index v 1 ∷ slice_index v 0 ∷ []

-- four words of a block, from byte i on
abbrev pub four_at : List ℕ → ℕ → List ℕ
four_at b i = S256.word_at b i ∷ S256.word_at b (i + 4) ∷ S256.word_at b (i + 8) ∷ S256.word_at b (i + 12) ∷ []

-- lane by lane, the sum
abbrev pub add : List ℕ → List ℕ → List ℕ
add x y =
    S256.add32 (slice_index x 0) (slice_index y 0) ∷ S256.add32 (slice_index x 1) (slice_index y 1)
    ∷ S256.add32 (slice_index x 2) (slice_index y 2) ∷ S256.add32 (slice_index x 3) (slice_index y 3) ∷ []

-- lane by lane, the exclusive or
abbrev pub xor : List ℕ → List ℕ → List ℕ
xor x y =
    bit_xor (slice_index x 0) (slice_index y 0) ∷ bit_xor (slice_index x 1) (slice_index y 1)
    ∷ bit_xor (slice_index x 2) (slice_index y 2) ∷ bit_xor (slice_index x 3) (slice_index y 3) ∷ []

-- three lanes of x from the second on, and the first of y
abbrev pub moved : List ℕ → List ℕ → List ℕ
moved x y = slice_index x 1 ∷ slice_index x 2 ∷ slice_index x 3 ∷ slice_index y 0 ∷ []
