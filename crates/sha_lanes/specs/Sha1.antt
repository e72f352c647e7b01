-- For the private functions; not needed to read a public contract.
-- SHA-1 in eight lanes, by the definitions of `sha1`.
use Rattle.std.specs.Prelude.{◌≡◌, ℕ, ◌<◌, ◌+◌, ◌/◌, List, length, slice_index}
use Rattle.sha1.specs.Sha1.{rounds, round_constant, add32, hash_after, padded_message}
use Rattle.sha_lanes.specs.{Lanes.lane, declared.sha_1.functions.Kind.{Kind, TheVariants.{First, Second, Third, Fourth}}}

-- the first of the twenty rounds of a kind
abbrev pub first_round : Kind → ℕ
first_round First = 0
first_round Second = 20
first_round Third = 40
first_round Fourth = 60

-- in each lane, the working variables v come from those of u by n rounds, from round t on, with the words w
abbrev pub RoundsFrom : List (List ℕ) → ℕ → ℕ → List (List ℕ) → List (List ℕ) → Type 0
RoundsFrom w t n u v = (j : ℕ) → j < 8 → (s : List ℕ)
    → lane u j ≡ rounds s (lane w j) t → lane v j ≡ rounds s (lane w j) (t + n)

-- lane j of kw has the words w, to each of which the constant of its round was added
abbrev pub AddsConstants : List (List ℕ) → ℕ → List ℕ → Type 0
AddsConstants kw j w = (t : ℕ) → t < 80 → slice_index (lane kw j) t ≡ add32 (slice_index w t) (round_constant t)

-- the hash value of a message
abbrev pub final_hash : List ℕ → List ℕ
final_hash m = hash_after (padded_message m) (length (padded_message m) / 64)
