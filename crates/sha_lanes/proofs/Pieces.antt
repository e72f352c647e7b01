-- Rows of the bytes of a message, and the parts of which it is made. Nothing here depends on the size of words.
use Rattle.std.proofs.Common.{◌≡◌, ℕ, ◌+◌, ◌-◌, ◌*◌, ◌<◌, ◌≤◌, List, [], ◌++◌, length, slice_index, take, drop, refl, ap, sym, ◌∙◌, arith, ◌⊎◌, inl}
use Rattle.std.{proofs.{Common.inr, lemmas.{Bool.cases_lt, Simd.get_or-replicate, Grind.same_number_lists}}, specs.{Prelude.replicate, List.between}}
use Rattle.std.proofs.lemmas.{Slice.{between-put_mid, between_is, between_to_end, take-put_mid_below}, List.{get_or_past, length-take-le}}
use Rattle.std.proofs.lemmas.List.{length-append, length-replicate, length-drop, get_or-append_right, get_or-drop, get_or-take, get_or_append_left}
use Rattle.{std.proofs.Math.Nat.mul-le-mul_right, sha_lanes.specs.Lanes.{message_of, HoldsFrom}}
use borrow.Rule.Slice.PartMut.{put_mid}

-- ---- a row that is filled piece by piece

-- a row of zeros holds no byte of a message yet
pub empty_row : (n at : ℕ) → HoldsFrom (replicate n 0) [] at
empty_row n at i lt =
    get_or-replicate n i 0 0 (omega (arith, length-replicate {A = ℕ} n 0)) ∙ sym (get_or_past [] (at + i) 0 (omega arith))

-- and zeros may follow what a row holds
pub zeros_more : (r m : List ℕ) (at k : ℕ) → HoldsFrom r m at → HoldsFrom r (m ++ replicate k 0) at
zeros_more r m at k holds i lt = elim (cases_lt (at + i) (length m)) [
  | inl before ↦ holds i lt ∙ sym (get_or_append_left m (replicate k 0) 0 (at + i) before)
  | inr after ↦
      let zero_at : slice_index (replicate k 0) (at + i - length m) ≡ 0 =
      elim (cases_lt (at + i - length m) k) [
        | inl inside ↦ get_or-replicate k (at + i - length m) 0 0 inside
        | inr past ↦ get_or_past (replicate k 0) (at + i - length m) 0 (omega (arith, length-replicate {A = ℕ} k 0))
      ] in
      holds i lt ∙ (get_or_past m (at + i) 0 after
      ∙ sym (get_or-append_right m (replicate k 0) (length m) (at + i) 0 refl after ∙ zero_at))
]

-- a byte that is not the piece's
pub unchanged : (r m piece : List ℕ) (at i : ℕ) → HoldsFrom r m at → i < length r
    → (at + i < length m) ⊎ (length m + length piece ≤ at + i)
    → slice_index r i ≡ slice_index (m ++ piece) (at + i)
unchanged r m piece at i holds lt place = elim place [
  | inl before ↦ holds i lt ∙ sym (get_or_append_left m piece 0 (at + i) before)
  | inr after ↦
      let past : length (m ++ piece) ≤ at + i = omega (arith, length-append m piece) in
      holds i lt ∙ (get_or_past m (at + i) 0 (omega arith) ∙ sym (get_or_past (m ++ piece) (at + i) 0 past))
]

-- a byte of the piece
pub written : (r m piece : List ℕ) (at first last i : ℕ) → at ≤ first → length m ≤ first → last ≤ at + length r → last ≤ length m + length piece
    → first ≤ at + i → at + i < last
    → slice_index (put_mid (first - at) (last - at - (first - at)) r (between (first - length m) (last - length m) piece)) i
    ≡ slice_index (m ++ piece) (at + i)
written r m piece at first last i fa fm la lm ge lt =
    let a = first - at in
    let s = first - length m in
    let k = last - length m - s in
    let ys = take k (drop s piece) in
    let rest = drop (last - at - a) (drop a r) in
    let long : length (take a r) ≡ a = length-take-le a r (omega arith) in
    let size : length ys ≡ k = length-take-le k (drop s piece) (omega (arith, length-drop s piece)) in
    let le : a ≤ i = omega arith in
    let inside : i - a < length ys = omega arith in
    let short : i - a < k = omega arith in
    let past : length m ≤ at + i = omega arith in
    get_or-append_right (take a r) (ys ++ rest) a i 0 long le
    ∙ (get_or_append_left ys rest 0 (i - a) inside
    ∙ (get_or-take k (drop s piece) (i - a) 0 short
    ∙ (get_or-drop s piece (i - a) 0
    ∙ (ap (slice_index piece) (omega arith)
    ∙ sym (get_or-append_right m piece (length m) (at + i) 0 refl past)))))

-- a byte before those written, and one after them
pub kept_before : (a k : ℕ) (r ys : List ℕ) (i : ℕ) → a ≤ length r → i < a → slice_index (put_mid a k r ys) i ≡ slice_index r i
kept_before a k r ys i le lt =
    let long : length (take a r) ≡ a = length-take-le a r le in
    let below : i < length (take a r) = omega arith in
    get_or_append_left (take a r) (ys ++ drop k (drop a r)) 0 i below ∙ get_or-take a r i 0 lt

pub kept_after : (a k : ℕ) (r ys : List ℕ) (i : ℕ) → a ≤ length r → length ys ≡ k → a + k ≤ i → slice_index (put_mid a k r ys) i ≡ slice_index r i
kept_after a k r ys i le size ge =
    let long : length (take a r) ≡ a = length-take-le a r le in
    let past : a ≤ i = omega arith in
    let after : k ≤ i - a = omega arith in
    get_or-append_right (take a r) (ys ++ drop k (drop a r)) a i 0 long past
    ∙ (get_or-append_right ys (drop k (drop a r)) k (i - a) 0 size after
    ∙ (get_or-drop k (drop a r) (i - a - k) 0
    ∙ (get_or-drop a r (k + (i - a - k)) 0
    ∙ ap (slice_index r) (omega arith))))

-- the row after a piece, of which the bytes from `first` to `last` lie in it
pub piece_put : (r m piece : List ℕ) (at first last : ℕ) → HoldsFrom r m at
    → at ≤ first → length m ≤ first → last ≤ at + length r → last ≤ length m + length piece → first < last
    → ((p : ℕ) → at ≤ p → length m ≤ p → first ≤ p)
    → ((p : ℕ) → p < at + length r → p < length m + length piece → p < last)
    → {ys : List ℕ} → ys ≡ between (first - length m) (last - length m) piece
    → (i : ℕ) → i < length r
    → slice_index (put_mid (first - at) (last - at - (first - at)) r ys) i ≡ slice_index (m ++ piece) (at + i)
piece_put r m piece at first last holds fa fm la lm some begins ends {ys} is i lt =
    let a = first - at in
    let k = last - at - a in
    let room : a ≤ length r = omega arith in
    let size : length ys ≡ k =
    ap length is
    ∙ (length-take-le (last - length m - (first - length m)) (drop (first - length m) piece) (omega (arith, length-drop (first - length m) piece))
    ∙ omega arith) in
    elim (cases_lt (at + i) first) [
      | inl before ↦
          let outside : (at + i < length m) ⊎ (length m + length piece ≤ at + i) =
          elim (cases_lt (at + i) (length m)) [
            | inl below ↦ inl below
            | inr past ↦
                let le : first ≤ at + i = begins (at + i) (omega arith) past in
                absurd (omega arith)
          ] in
          kept_before a k r ys i room (omega arith) ∙ unchanged r m piece at i holds lt outside
      | inr past ↦ elim (cases_lt (at + i) last) [
        | inl inside ↦ ap (λ z. slice_index (put_mid a k r z) i) is ∙ written r m piece at first last i fa fm la lm past inside
        | inr after ↦
            let outside : (at + i < length m) ⊎ (length m + length piece ≤ at + i) =
            elim (cases_lt (at + i) (length m + length piece)) [
              | inl below ↦
                  let lower : at + i < last = ends (at + i) (omega arith) below in
                  absurd (omega arith)
              | inr beyond ↦ inr beyond
            ] in
            kept_after a k r ys i room size (omega arith) ∙ unchanged r m piece at i holds lt outside
      ]
    ]

-- two blocks of the same bytes
pub same_block : (n : ℕ) (x y : List ℕ) (o p : ℕ) → o + n ≤ length x → p + n ≤ length y
    → ((i : ℕ) → i < n → slice_index x (o + i) ≡ slice_index y (p + i))
    → take n (drop o x) ≡ take n (drop p y)
same_block n x y o p roomx roomy same =
    let lx : length (take n (drop o x)) ≡ n = length-take-le n (drop o x) (omega (arith, length-drop o x)) in
    let ly : length (take n (drop p y)) ≡ n = length-take-le n (drop p y) (omega (arith, length-drop p y)) in
    same_number_lists (take n (drop o x)) (take n (drop p y)) (lx ∙ sym ly)
    (λ i lt. let below : i < n = omega arith in
    get_or-take n (drop o x) i 0 below ∙ (get_or-drop o x i 0
    ∙ (same i below ∙ (sym (get_or-drop p y i 0) ∙ sym (get_or-take n (drop p y) i 0 below)))))

-- a whole row
pub row_whole : (n : ℕ) (r p : List ℕ) (at : ℕ) → length r ≡ n → at + n ≤ length p → HoldsFrom r p at → r ≡ take n (drop at p)
row_whole n r p at long room holds =
    let lp : length (take n (drop at p)) ≡ n = length-take-le n (drop at p) (omega (arith, length-drop at p)) in
    same_number_lists r (take n (drop at p)) (long ∙ sym lp)
    (λ i lt. let below : i < n = omega arith in
    holds i lt ∙ (sym (get_or-drop at p i 0) ∙ sym (get_or-take n (drop at p) i 0 below)))

-- ---- rows in a table

-- the row just written, and a row before it
pub row_written : (n j : ℕ) (xs ys : List ℕ) (k : ℕ) → j * n ≤ length xs → length ys ≡ n → take n (drop (j * n) (put_mid (j * n) k xs ys)) ≡ ys
row_written n j xs ys k room size =
    let width : n ≡ j * n + n - j * n = omega arith in
    ap (λ z. take z (drop (j * n) (put_mid (j * n) k xs ys))) width
    ∙ between-put_mid (j * n) k xs ys (j * n + n) room (size ∙ width)

pub row_kept : (n i j : ℕ) (xs ys : List ℕ) (k : ℕ) → i < j → j * n ≤ length xs → take n (drop (i * n) (put_mid (j * n) k xs ys)) ≡ take n (drop (i * n) xs)
row_kept n i j xs ys k lt room =
    let ends : (i + 1) * n ≤ j * n = mul-le-mul_right n (omega arith) in
    let width : n ≡ i * n + n - i * n = omega arith in
    let below : i * n + n ≤ j * n = omega arith in
    ap (λ z. take z (drop (i * n) (put_mid (j * n) k xs ys))) width
    ∙ (between_is (put_mid (j * n) k xs ys) (i * n) (i * n + n)
    ∙ (ap (drop (i * n)) (take-put_mid_below (j * n) k xs ys (i * n + n) below room)
    ∙ (sym (between_is xs (i * n) (i * n + n)) ∙ ap (λ z. take z (drop (i * n) xs)) (sym width))))

-- ---- the parts

-- part j of n ends within them
pub part_below : (n j len : ℕ) → j < n → j * len + len ≤ n * len
part_below n j len lt =
    let ends : (j + 1) * len ≤ n * len = mul-le-mul_right len (omega arith) in
    omega arith

pub length-part : (parts : List ℕ) (len at : ℕ) → at + len ≤ length parts → length (take len (drop at parts)) ≡ len
length-part parts len at room = length-take-le len (drop at parts) (omega (arith, length-drop at parts))

pub length-pieces : (before part after : List ℕ) (len : ℕ) → length part ≡ len → length (before ++ part ++ after) ≡ length before + len + length after
length-pieces before part after len is =
    omega (arith, length-append (before ++ part) after, length-append before part, is)

pub length-message_of : (before parts : List ℕ) (len : ℕ) (after : List ℕ) (j : ℕ) → j * len + len ≤ length parts
    → length (message_of before parts len after j) ≡ length before + len + length after
length-message_of before parts len after j room =
    length-pieces before (take len (drop (j * len) parts)) after len (length-part parts len (j * len) room)

-- ---- the blocks of messages, each followed by some padding

-- a byte of a piece in the middle
pub byte_of_piece : (before part after : List ℕ) (from p : ℕ) → length before ≡ from → from ≤ p → p < from + length part
    → slice_index (before ++ part ++ after) p ≡ slice_index part (p - from)
byte_of_piece before part after from p is le lt =
    let inside : p < length (before ++ part) = omega (arith, length-append before part) in
    get_or_append_left (before ++ part) after 0 p inside ∙ get_or-append_right before part from p 0 is le

-- and where padding follows the pieces
byte_of_middle : (before part after pad : List ℕ) (p : ℕ) → length before ≤ p → p < length before + length part
    → slice_index ((before ++ part ++ after) ++ pad) p ≡ slice_index part (p - length before)
byte_of_middle before part after pad p le lt =
    let early : p < length (before ++ part ++ after) = omega (arith, length-pieces before part after (length part) refl) in
    get_or_append_left (before ++ part ++ after) pad 0 p early ∙ byte_of_piece before part after (length before) p refl le lt

-- a block that lies inside part j
pub block_of_part : (size : ℕ) (before parts : List ℕ) (len : ℕ) (after pad : List ℕ) (j at : ℕ) → j * len + len ≤ length parts
    → length before ≤ at → at + size ≤ length before + len
    → take size (drop (j * len + (at - length before)) parts) ≡ take size (drop at (message_of before parts len after j ++ pad))
block_of_part size before parts len after pad j at within le room =
    let part = take len (drop (j * len) parts) in
    let width : length part ≡ len = length-part parts len (j * len) within in
    let whole : at + size ≤ length (message_of before parts len after j ++ pad) =
    omega (arith, length-append (message_of before parts len after j) pad, length-message_of before parts len after j within) in
    same_block size parts (message_of before parts len after j ++ pad) (j * len + (at - length before)) at (omega arith) whole
    (λ i below.
    let short : at + i - length before < len = omega arith in
    sym (byte_of_middle before part after pad (at + i) (omega arith) (omega arith)
    ∙ (get_or-take len (drop (j * len) parts) (at + i - length before) 0 short
    ∙ (get_or-drop (j * len) parts (at + i - length before) 0
    ∙ ap (slice_index parts) (omega arith)))))

-- a byte before the middle, and one after it
byte_before : (before part rest : List ℕ) (p : ℕ) → p < length before → slice_index (before ++ part ++ rest) p ≡ slice_index before p
byte_before before part rest p lt =
    let inside : p < length (before ++ part) = omega (arith, length-append before part) in
    get_or_append_left (before ++ part) rest 0 p inside ∙ get_or_append_left before part 0 p lt

byte_after : (before part rest : List ℕ) (p : ℕ) → length before + length part ≤ p
    → slice_index (before ++ part ++ rest) p ≡ slice_index rest (p - (length before + length part))
byte_after before part rest p le =
    get_or-append_right (before ++ part) rest (length before + length part) p 0 (length-append before part) le

-- a block with no byte of the parts is the same in each message
pub same_outside : (size : ℕ) (before a b rest : List ℕ) (len at : ℕ) → length a ≡ len → length b ≡ len
    → at + size ≤ length (before ++ a ++ rest) → (at + size ≤ length before) ⊎ (length before + len ≤ at)
    → take size (drop at (before ++ a ++ rest)) ≡ take size (drop at (before ++ b ++ rest))
same_outside size before a b rest len at la lb room place =
    let room' : at + size ≤ length (before ++ b ++ rest) =
    omega (arith, length-pieces before a rest len la, length-pieces before b rest len lb) in
    same_block size (before ++ a ++ rest) (before ++ b ++ rest) at at room room'
    (λ i below. elim place [
      | inl early ↦ byte_before before a rest (at + i) (omega arith) ∙ sym (byte_before before b rest (at + i) (omega arith))
      | inr late ↦ byte_after before a rest (at + i) (omega arith)
          ∙ (ap (λ z. slice_index rest (at + i - (length before + z))) (la ∙ sym lb)
          ∙ sym (byte_after before b rest (at + i) (omega arith)))
    ])

-- ---- the parts after the first ones

pub length_of_rest : (parts : List ℕ) (from : ℕ) → from ≤ length parts → length (between from (length parts) parts) ≡ length parts - from
length_of_rest parts from le =
    let all : length parts ≤ length parts = omega arith in
    ap length (between_to_end parts from (length parts) all) ∙ length-drop from parts

pub part_of_rest : (parts : List ℕ) (len from at j : ℕ) → at ≡ from + j * len → at + len ≤ length parts
    → take len (drop (j * len) (between from (length parts) parts)) ≡ take len (drop at parts)
part_of_rest parts len from at j is room =
    let le : length parts ≤ length parts = omega arith in
    let rest_room : j * len + len ≤ length (drop from parts) = omega (arith, length-drop from parts) in
    ap (λ z. take len (drop (j * len) z)) (between_to_end parts from (length parts) le)
    ∙ same_block len (drop from parts) parts (j * len) at rest_room room
    (λ i below. get_or-drop from parts (j * len + i) 0 ∙ ap (slice_index parts) (omega arith))
