-- The padded message (5.1.1), row by row.
use Rattle.std.proofs.Common.{◌≡◌, ℕ, ◌+◌, ◌-◌, ◌*◌, ◌/◌, ◌%◌, ◌^◌, ◌≤◌, List, [], ◌∷◌, ◌++◌, length, take, drop, ap, sym, ◌∙◌, arith, ◌⊎◌}
use Rattle.std.{proofs.lemmas.List.{append_assoc, length-append, length-replicate, length-take-le}, specs.{Prelude.replicate, Int.{w64, to_be_bytes}}}
use Rattle.sha_lanes.specs.{Lanes.{message_of, HoldsFrom}, Words32.{block_count, padded_row}}
use Rattle.sha_lanes.proofs.Pieces.{row_whole, block_of_part, same_outside, length-part, length-pieces}
use Rattle.sha2.specs.Sha256 as S256

-- how many zeros follow the byte that begins with the bit 1
abbrev pub zero_count : ℕ → ℕ
zero_count n = (119 - n % 64) % 64

-- the bytes before the length
abbrev pub before_length : List ℕ → List ℕ
before_length m = (m ++ 0x80 ∷ []) ++ replicate (zero_count (length m)) 0

zeros_end : (n : ℕ) → n + 1 + zero_count n + 8 ≡ 64 * block_count n
zeros_end n = omega arith

pub length-before_length : (m : List ℕ) → length (before_length m) + 8 ≡ 64 * block_count (length m)
length-before_length m =
    omega (
      arith,
      length-append (m ++ 0x80 ∷ []) (replicate (zero_count (length m)) 0),
      length-append m (0x80 ∷ []),
      length-replicate {A = ℕ} (zero_count (length m)) 0,
      zeros_end (length m),
    )

pub padded_is : (m : List ℕ) → before_length m ++ to_be_bytes w64 (length m * 8 % 2 ^ 64) ≡ S256.padded_message m
padded_is m =
    append_assoc (m ++ 0x80 ∷ []) (replicate (zero_count (length m)) 0) (to_be_bytes w64 (length m * 8 % 2 ^ 64))
    ∙ append_assoc m (0x80 ∷ []) (replicate (zero_count (length m)) 0 ++ to_be_bytes w64 (length m * 8 % 2 ^ 64))

pub length-padded_message : (m : List ℕ) → length (S256.padded_message m) ≡ 64 * block_count (length m)
length-padded_message m =
    ap length (sym (padded_is m))
    ∙ (length-append (before_length m) (to_be_bytes w64 (length m * 8 % 2 ^ 64)) ∙ length-before_length m)

-- a whole row
pub row_filled : (r m : List ℕ) (at n : ℕ) → length m ≡ n → length r ≡ 64 → at + 64 ≤ 64 * block_count n
    → HoldsFrom r (S256.padded_message m) at → r ≡ padded_row m at
row_filled r m at n is long room =
    row_whole 64 r (S256.padded_message m) at long (omega (arith, length-padded_message m, ap block_count is))

-- a block inside part j
pub padded_part : (before parts : List ℕ) (len : ℕ) (after : List ℕ) (j at : ℕ) → j * len + len ≤ length parts
    → length before ≤ at → at + 64 ≤ length before + len
    → take 64 (drop (j * len + (at - length before)) parts) ≡ padded_row (message_of before parts len after j) at
padded_part before parts len after j at within le room =
    block_of_part 64 before parts len after (S256.padding (length (message_of before parts len after j))) j at within le room

-- a block with no byte of the parts
pub padded_outside : (before parts : List ℕ) (len : ℕ) (after : List ℕ) (j at : ℕ) → j * len + len ≤ length parts
    → at + 64 ≤ 64 * block_count (length before + len + length after)
    → (at + 64 ≤ length before) ⊎ (length before + len ≤ at)
    → padded_row (before ++ take len parts ++ after) at ≡ padded_row (message_of before parts len after j) at
padded_outside before parts len after j at within room place =
    let first = take len parts in
    let part = take len (drop (j * len) parts) in
    let width : length first ≡ len = length-take-le len parts (omega arith) in
    let width' : length part ≡ len = length-part parts len (j * len) within in
    let n = length before + len + length after in
    let n1 : length (before ++ first ++ after) ≡ n = length-pieces before first after len width in
    let n2 : length (before ++ part ++ after) ≡ n = length-pieces before part after len width' in
    let pad = S256.padding (length (before ++ first ++ after)) in
    let whole : S256.padded_message (before ++ first ++ after) ≡ before ++ first ++ (after ++ pad) = append_assoc (before ++ first) after pad in
    let whole' : before ++ part ++ (after ++ pad) ≡ S256.padded_message (before ++ part ++ after) =
    sym (append_assoc (before ++ part) after pad) ∙ ap (λ z. before ++ part ++ after ++ S256.padding z) (n1 ∙ sym n2) in
    let inside : at + 64 ≤ length (before ++ first ++ (after ++ pad)) =
    omega (arith, ap length whole, length-padded_message (before ++ first ++ after), ap block_count n1) in
    ap (λ z. take 64 (drop at z)) whole
    ∙ (same_outside 64 before first part (after ++ pad) len at width width' inside place
    ∙ ap (λ z. take 64 (drop at z)) whole')

-- the number of blocks of the padded message
pub blocks_of : (m : List ℕ) (k n : ℕ) → length m ≡ n → k ≡ block_count n → k ≡ length (S256.padded_message m) / 64
blocks_of m k n is count = omega (arith, length-padded_message m, ap block_count is)
