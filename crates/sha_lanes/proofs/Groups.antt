-- What is left of a piece of a message, and consecutive blocks in it. Nothing here depends on the size of words.
use Rattle.std.proofs.Common.{◌≡◌, ℕ, ◌+◌, ◌-◌, ◌*◌, ◌<◌, ◌≤◌, List, ◌++◌, length, slice_index, take, drop, refl, ap, sym, ◌∙◌, arith}
use Rattle.std.proofs.lemmas.List.{get_or-drop, get_or-take, get_or_append_left, length-drop}
use Rattle.sha_lanes.{specs.Lanes.HoldsFrom, proofs.Pieces.{same_block, length-pieces, byte_of_piece}}

-- ---- blocks

-- a block of such bytes is the block of the message at that place
pub block_of_group : (size j : ℕ) (bytes p : List ℕ) (at : ℕ) → HoldsFrom bytes p at → at + j * size + size ≤ length p
    → j * size + size ≤ length bytes → take size (drop (j * size) bytes) ≡ take size (drop (at + j * size) p)
block_of_group size j bytes p at holds room inside =
    same_block size bytes p (j * size) (at + j * size) inside room
    (λ i below. holds (j * size + i) (omega arith) ∙ ap (slice_index p) (omega arith))

-- what they hold of a message, they hold of the message with its padding
pub holds_padded : (bytes m pad : List ℕ) (at : ℕ) → HoldsFrom bytes m at → at + length bytes ≤ length m
    → HoldsFrom bytes (m ++ pad) at
holds_padded bytes m pad at holds room i lt =
    holds i lt ∙ sym (get_or_append_left m pad 0 (at + i) (omega arith))

-- and the first of them hold it too
pub first_hold : (n : ℕ) (bytes m : List ℕ) (at : ℕ) → HoldsFrom bytes m at → n ≤ length bytes → length (take n bytes) ≡ n
    → HoldsFrom (take n bytes) m at
first_hold n bytes m at holds room long i lt =
    get_or-take n bytes i 0 (omega arith) ∙ holds i (omega arith)

-- ---- what is left of a piece

-- at least `size` bytes, from byte `at` of the message m on
abbrev pub IsRest : ℕ → List ℕ → ℕ → List ℕ → Type 0
IsRest size m at bytes = (size ≤ length bytes) × (at + length bytes ≤ length m) × HoldsFrom bytes m at

-- they may be left of one of the pieces of a message
pub rest_of_piece : (size : ℕ) (before piece after : List ℕ) (from at : ℕ) (bytes : List ℕ) → length before ≡ from
    → (from ≤ at) × (at + size ≤ from + length piece) × (bytes ≡ drop (at - from) piece)
    → IsRest size (before ++ piece ++ after) at bytes
rest_of_piece size before piece after from at bytes is found =
    let first = at - from in
    let long : length bytes ≡ length piece - first = ap length found.2 ∙ length-drop first piece in
    let ends : at + length bytes ≤ length (before ++ piece ++ after) =
    omega (arith, found, length-pieces before piece after (length piece) refl) in
    let holds = λ (i : ℕ) (lt : i < length bytes).
    ap (λ z. slice_index z i) found.2
    ∙ (get_or-drop first piece i 0
    ∙ (ap (slice_index piece) (omega (arith, found))
    ∙ sym (byte_of_piece before piece after from (at + i) is (omega (arith, found)) (omega (arith, found))))) in
    (omega (arith, found), ends, holds)
