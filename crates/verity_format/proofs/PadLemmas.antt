-- Superblocks that agree outside the pads are read the same.
use Rattle.std.proofs.Common.{◌≡◌, ◌≢◌, ◌↔◌, ℕ, zero, suc, ◌+◌, ◌-◌, ◌*◌, ◌<◌, ◌≤◌, Bool, true, false, List, length, take, drop, get_or, Some, None}
use Rattle.std.proofs.{Common.{cond, nat_le, nat_lt, arith, refl, ap, sym, ◌∙◌, length-drop}, lemmas.Bool.{le-leb, Decides.nat_tests}}
use Rattle.std.proofs.lemmas.List.{ext_get_or, get_or-drop, get_or-take, length-take, length-take-le, take_all, Folds.length-prefix_len}
use Rattle.std.{proofs.lemmas.List.Sums.{fails_before_first, passes_at_first, position_or_len_is}, specs.Prelude.{◌==◌, not, unwrap_or}}
use Rattle.{std.specs.List.position_or_len, byteorder.specs.Endian.little_from, verity_plan.proofs.LimitLemmas.salt_most}
use Rattle.verity_format.specs.{Pads.{AgreeOutsidePads, SameBetween}, Superblocks.{field, number_at, until_zero, SuperblockFields, IsSuperblock}}
use Rattle.verity_format.specs.CheckedSuperblocks.{superblock_fault}

-- the same bytes are the same number
little_from-same : (i n : ℕ) (xs ys : List ℕ)
    → ((k : ℕ) → i ≤ k → k < i + n → get_or xs k 0 ≡ get_or ys k 0) → little_from i n xs ≡ little_from i n ys
little_from-same i zero xs ys same = refl
little_from-same i (suc n) xs ys same =
    let first : get_or xs i 0 ≡ get_or ys i 0 = same i (omega arith) (omega arith) in
    let rest : little_from (suc i) n xs ≡ little_from (suc i) n ys =
    little_from-same (suc i) n xs ys (λ k from to. same k (omega (arith, from)) (omega (arith, to))) in
    ap (λ (x : ℕ). x + 256 * little_from (suc i) n xs) first ∙ ap (λ (x : ℕ). get_or ys i 0 + 256 * x) rest

number_at-same : (at n : ℕ) (s t : List ℕ) → SameBetween at (at + n) s t → number_at at n s ≡ number_at at n t
unfolding number_at
number_at-same at n s t same =
    little_from-same 0 n (drop at s) (drop at t) (λ k _ below.
    get_or-drop at s k 0 ∙ same (at + k) (omega arith) (omega (arith, below)) ∙ sym (get_or-drop at t k 0))

-- and the same field
field-same : (at n : ℕ) (s t : List ℕ) → at + n ≤ length s → at + n ≤ length t → SameBetween at (at + n) s t
    → field at n s ≡ field at n t
field-same at n s t of_s of_t same =
    let long : length (take n (drop at s)) ≡ n =
    length-take-le n (drop at s) (omega (arith, length-drop at s, of_s)) in
    let other : length (take n (drop at t)) ≡ n =
    length-take-le n (drop at t) (omega (arith, length-drop at t, of_t)) in
    ext_get_or 0 (take n (drop at s)) (take n (drop at t)) (long ∙ sym other) (λ k low.
    let below : k < n = omega (arith, low, long) in
    get_or-take n (drop at s) k 0 below ∙ get_or-drop at s k 0
    ∙ same (at + k) (omega arith) (omega (arith, below))
    ∙ sym (get_or-take n (drop at t) k 0 below ∙ get_or-drop at t k 0))

-- a byte is a zero
abbrev is_zero : ℕ → Bool
is_zero byte = byte == 0

-- the first zero is within the text, or at its end
position_or_len-most : (xs : List ℕ) → position_or_len is_zero xs ≤ length xs
position_or_len-most xs =
    omega (arith, length-prefix_len (λ (x : ℕ). not (is_zero x)) xs, length-take (position_or_len is_zero xs) xs)

-- what stands before the first zero
until_zero-take : (xs : List ℕ) → until_zero xs ≡ take (position_or_len is_zero xs) xs
until_zero-take xs = by_test (nat_lt (position_or_len is_zero xs) (length xs)) refl
  where
    by_test : (found : Bool) → nat_lt (position_or_len is_zero xs) (length xs) ≡ found
        → take (unwrap_or (cond found (Some (position_or_len is_zero xs)) None) (length xs)) xs
        ≡ take (position_or_len is_zero xs) xs
    by_test true test = refl
    by_test false test =
        let past : length xs ≤ position_or_len is_zero xs = grind (arith, nat_tests, test) in
        take_all (length xs) xs (omega arith) ∙ sym (take_all (position_or_len is_zero xs) xs past)

-- texts that are the same up to the first zero are the same before it
until_zero-same : (xs ys : List ℕ) → length xs ≡ length ys
    → ((i : ℕ) → i < length xs → ((k : ℕ) → k < i → get_or xs k 0 ≢ 0) → get_or xs i 0 ≡ get_or ys i 0)
    → until_zero xs ≡ until_zero ys
until_zero-same xs ys long same =
    let p = position_or_len is_zero xs in
    let most : p ≤ length xs = position_or_len-most xs in
    let each : (i : ℕ) → i ≤ p → i < length xs → get_or xs i 0 ≡ get_or ys i 0 =
    λ i within below. same i below (λ k low.
    let some : is_zero (get_or xs k 0) ≡ false = fails_before_first is_zero xs k 0 (omega (arith, low, within)) in
    grind (arith, nat_tests, some)) in
    let other : position_or_len is_zero ys ≡ p =
    position_or_len_is is_zero ys p 0 (omega (arith, most, long))
    (λ k low. ap is_zero (sym (each k (omega (arith, low)) (omega (arith, low, most))))
    ∙ fails_before_first is_zero xs k 0 low)
    (λ below.
    let inside : p < length xs = omega (arith, below, long) in
    ap is_zero (sym (each p (omega arith) inside)) ∙ passes_at_first is_zero xs 0 inside) in
    let of_x : length (take p xs) ≡ p = length-take-le p xs most in
    let of_y : length (take p ys) ≡ p = length-take-le p ys (omega (arith, most, long)) in
    until_zero-take xs
    ∙ ext_get_or 0 (take p xs) (take p ys) (of_x ∙ sym of_y) (λ k low.
    let below : k < p = omega (arith, low, of_x) in
    get_or-take p xs k 0 below ∙ each k (omega (arith, below)) (omega (arith, below, most))
    ∙ sym (get_or-take p ys k 0 below))
    ∙ ap (λ (n : ℕ). take n ys) (sym other) ∙ sym (until_zero-take ys)

-- what is read of two superblocks is the same
record ReadsSame (s t : List ℕ) : Type 0 where
  whole : 512 ≤ length s
  other_whole : 512 ≤ length t
  signed : take 8 s ≡ take 8 t
  version : number_at 8 4 s ≡ number_at 8 4 t
  hash_type : number_at 12 4 s ≡ number_at 12 4 t
  uuid : field 16 16 s ≡ field 16 16 t
  name : until_zero (field 32 32 s) ≡ until_zero (field 32 32 t)
  data_block : number_at 64 4 s ≡ number_at 64 4 t
  hash_block : number_at 68 4 s ≡ number_at 68 4 t
  blocks : number_at 72 8 s ≡ number_at 72 8 t
  salt_size : number_at 80 2 s ≡ number_at 80 2 t
  salt : (n : ℕ) → n ≤ 256 → number_at 80 2 s ≡ n → field 88 n s ≡ field 88 n t

-- the used bytes of the names
name-same : (s t : List ℕ) → AgreeOutsidePads s t → until_zero (field 32 32 s) ≡ until_zero (field 32 32 t)
name-same s t h = by_field 32 refl
  where
    by_field : (at : ℕ) → at ≡ 32 → until_zero (field at 32 s) ≡ until_zero (field at 32 t)
    by_field at e =
        let xs = take 32 (drop at s) in
        let ys = take 32 (drop at t) in
        let of_x : length xs ≡ 32 = length-take-le 32 (drop at s) (omega (arith, length-drop at s, h.whole, e)) in
        let of_y : length ys ≡ 32 = length-take-le 32 (drop at t) (omega (arith, length-drop at t, h.other_whole, e)) in
        until_zero-same xs ys (of_x ∙ sym of_y) (λ i low some.
        let below : i < 32 = omega (arith, low, of_x) in
        get_or-take 32 (drop at s) i 0 below ∙ get_or-drop at s i 0
        ∙ h.name (at + i) (omega (arith, e)) (omega (arith, below, e)) (λ k from to zero.
        let less : k - at < i = omega (arith, from, to, e) in
        let back : at + (k - at) ≡ k = omega (arith, from, e) in
        some (k - at) less
        (get_or-take 32 (drop at s) (k - at) 0 (omega (arith, less, below)) ∙ get_or-drop at s (k - at) 0
        ∙ ap (λ (n : ℕ). get_or s n 0) back ∙ zero))
        ∙ sym (get_or-take 32 (drop at t) i 0 below ∙ get_or-drop at t i 0))

-- superblocks that agree outside the pads are read the same
reads-same : (s t : List ℕ) → AgreeOutsidePads s t → ReadsSame s t
reads-same s t h = record {
  whole = h.whole;
  other_whole = h.other_whole;
  signed = field-same 0 8 s t (omega (arith, h.whole)) (omega (arith, h.other_whole))
      (λ i from to. h.before_name i (omega arith) (omega (arith, to)));
  version = number_at-same 8 4 s t (λ i from to. h.before_name i (omega arith) (omega (arith, to)));
  hash_type = number_at-same 12 4 s t (λ i from to. h.before_name i (omega arith) (omega (arith, to)));
  uuid = field-same 16 16 s t (omega (arith, h.whole)) (omega (arith, h.other_whole))
      (λ i from to. h.before_name i (omega arith) (omega (arith, to)));
  name = name-same s t h;
  data_block = number_at-same 64 4 s t (λ i from to. h.after_name i (omega (arith, from)) (omega (arith, to)));
  hash_block = number_at-same 68 4 s t (λ i from to. h.after_name i (omega (arith, from)) (omega (arith, to)));
  blocks = number_at-same 72 8 s t (λ i from to. h.after_name i (omega (arith, from)) (omega (arith, to)));
  salt_size = number_at-same 80 2 s t (λ i from to. h.after_name i (omega (arith, from)) (omega (arith, to)));
  salt = λ n most size. field-same 88 n s t (omega (arith, h.whole, most)) (omega (arith, h.other_whole, most))
      (λ i from to. h.salt i (omega (arith, from)) (omega (arith, to, size, most)));
}

-- the other way round
turned : (s t : List ℕ) → ReadsSame s t → ReadsSame t s
turned s t r = record {
  whole = r.other_whole;
  other_whole = r.whole;
  signed = sym r.signed;
  version = sym r.version;
  hash_type = sym r.hash_type;
  uuid = sym r.uuid;
  name = sym r.name;
  data_block = sym r.data_block;
  hash_block = sym r.hash_block;
  blocks = sym r.blocks;
  salt_size = sym r.salt_size;
  salt = λ n most size. sym (r.salt n most (r.salt_size ∙ size));
}

-- what the one says, the other says
said-same : (s t : List ℕ) (v : SuperblockFields) → ReadsSame s t → IsSuperblock s v → IsSuperblock t v
said-same s t v r a =
    let short : length v.tree.salt ≤ 256 = omega (arith, salt_most v.tree.rule, a.valid.tree.salt_most) in
    record {
      long = r.other_whole;
      signed = sym r.signed ∙ a.signed;
      version = sym r.version ∙ a.version;
      hash_type = sym r.hash_type ∙ a.hash_type;
      uuid = sym r.uuid ∙ a.uuid;
      algorithm = sym r.name ∙ a.algorithm;
      data_block = sym r.data_block ∙ a.data_block;
      hash_block = sym r.hash_block ∙ a.hash_block;
      salt_size = sym r.salt_size ∙ a.salt_size;
      salt = sym (r.salt (length v.tree.salt) short a.salt_size) ∙ a.salt;
      blocks = sym r.blocks ∙ a.blocks;
      valid = a.valid;
    }

pub pads-said : (s t : List ℕ) (v : SuperblockFields) → AgreeOutsidePads s t → IsSuperblock s v ↔ IsSuperblock t v
pads-said s t v h =
    let r = reads-same s t h in
    (said-same s t v r, said-same t s v (turned s t r))

-- the first test that fails is the same
pub pads-fault : (s t : List ℕ) → AgreeOutsidePads s t → superblock_fault s ≡ superblock_fault t
pads-fault s t h =
    let r = reads-same s t h in
    let long : nat_le 512 (length s) ≡ true = le-leb 512 (length s) r.whole in
    let other : nat_le 512 (length t) ≡ true = le-leb 512 (length t) r.other_whole in
    rw (
      long,
      other,
      r.signed,
      r.version,
      r.hash_type,
      r.name,
      r.data_block,
      r.hash_block,
      r.blocks,
      r.salt_size,
    ) refl
