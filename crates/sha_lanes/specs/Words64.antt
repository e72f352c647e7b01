-- For the private functions; not needed to read a public contract.
-- SHA-384 and SHA-512 in four lanes, by the definitions of `sha2`.
use Rattle.std.specs.Prelude.{◌≡◌, ℕ, ◌<◌, ◌+◌, ◌/◌, List, take, drop, slice_index}
use Rattle.{sha2.specs.Sha512.{rounds, round_constants, first_words, padded_message, add64}, sha_lanes.specs.Lanes.lane}

-- in each lane, the working variables v come from those of u by n rounds, from round t on, with the words w
abbrev pub RoundsFrom : List (List ℕ) → ℕ → ℕ → List (List ℕ) → List (List ℕ) → Type 0
RoundsFrom w t n u v = (j : ℕ) → j < 4 → (s : List ℕ)
    → lane u j ≡ rounds s (lane w j) t → lane v j ≡ rounds s (lane w j) (t + n)

-- in lane j, the vectors w begin with the sixteen words of block b
abbrev pub BeginsSchedule : List (List ℕ) → ℕ → List ℕ → Type 0
BeginsSchedule w j b = take 16 (lane w j) ≡ first_words b 16

-- how many blocks a message of n bytes fills with its padding (5.1.2)
abbrev pub block_count : ℕ → ℕ
block_count n = (n + 16) / 128 + 1

-- the 128 bytes from byte `at` on of message m with its padding
abbrev pub padded_row : List ℕ → ℕ → List ℕ
padded_row m at = take 128 (drop at (padded_message m))

-- lane j of kw has the words w, to each of which the constant of its round was added
abbrev pub AddsConstants : List (List ℕ) → ℕ → List ℕ → Type 0
AddsConstants kw j w = (t : ℕ) → t < 80 → slice_index (lane kw j) t ≡ add64 (slice_index w t) (slice_index round_constants t)
