-- A block that is written field by field.
use Rattle.std.proofs.Common.{◌≡◌, ℕ, ◌+◌, ◌-◌, ◌≤◌, List, ◌++◌, length, take, drop, replicate, arith, sym, ap, ◌∙◌, append_assoc, length-append}
use Rattle.{std.proofs.Math.Seq.take-add, verity_hash.specs.Hashing.{with_zeros, IsPadded}}
use Rattle.std.proofs.lemmas.List.{take_at, drop-replicate, drop_at, length-replicate, length-take-le, replicate-append-replicate, take-replicate}
use borrow.Rule.Slice.PartMut.{put_mid}

-- there are as many bytes of fields as were appended
front_long : (n at : ℕ) (block : List ℕ) → IsPadded n block at → length (take at block) ≡ at
front_long n at block held = length-take-le at block (omega (arith, held.whole, held.most))

-- bytes that fit after the fields fit after their offset
pub room_after : (n at count : ℕ) (block fields : List ℕ) → IsPadded n block at → take at block ≡ fields
    → length fields + count ≤ n
    → at + count ≤ n
room_after n at count block fields held same room = omega (arith, front_long n at block held, ap length same, room)

-- zeros stand after the fields
zeros_after : (n at : ℕ) (block : List ℕ) → IsPadded n block at → drop at block ≡ replicate (n - at) 0
zeros_after n at block held =
    let long = front_long n at block held in
    ap (drop at) held.zeros ∙ drop_at (take at block) (replicate (n - length (take at block)) 0) at long
    ∙ ap (λ m. replicate (n - m) 0) long

-- the block, with bytes appended to its fields
put_mid-with_zeros : (n at k : ℕ) (block xs : List ℕ) → IsPadded n block at → k ≡ length xs
    → put_mid at k block xs ≡ with_zeros n (take at block ++ xs)
put_mid-with_zeros n at k block xs held same =
    let front = take at block in
    let long = front_long n at block held in
    let less : n - at - k ≡ n - length (front ++ xs) = omega (arith, length-append front xs, long) in
    let zeros : drop k (drop at block) ≡ replicate (n - length (front ++ xs)) 0 =
    ap (drop k) (zeros_after n at block held) ∙ drop-replicate k (n - at) 0 ∙ ap (λ m. replicate m 0) less in
    ap (λ (r : List ℕ). front ++ (xs ++ r)) zeros ∙ sym (append_assoc front xs (replicate (n - length (front ++ xs)) 0))

-- the fields are what stood there and the bytes
pub take-put_mid : (n at k end : ℕ) (block xs : List ℕ) → IsPadded n block at → end ≡ at + length xs → k ≡ length xs
    → take end (put_mid at k block xs) ≡ take at block ++ xs
take-put_mid n at k end block xs held ends same =
    let long = front_long n at block held in
    ap (take end) (put_mid-with_zeros n at k block xs held same)
    ∙ take_at (take at block ++ xs) (replicate (n - length (take at block ++ xs)) 0) end
    (omega (arith, length-append (take at block) xs, long))

-- a field writer may hold a block of some first bytes and then zeros
held_from : (n end : ℕ) (block front : List ℕ) → block ≡ with_zeros n front → take end block ≡ front → length front ≤ n
    → end ≤ n → IsPadded n block end
held_from n end block front whole taken short most = record {
  whole = ap length whole
      ∙ omega (
        arith,
        length-append front (replicate (n - length front) 0),
        length-replicate {A = ℕ} (n - length front) 0,
      );
  most = most;
  zeros = whole ∙ ap (with_zeros n) (sym taken);
}

-- the rest of the block is still zeros
pub IsPadded-put_mid : (n at k end : ℕ) (block xs : List ℕ) → IsPadded n block at → end ≡ at + length xs → k ≡ length xs
    → end ≤ n
    → IsPadded n (put_mid at k block xs) end
IsPadded-put_mid n at k end block xs held ends same room =
    let long = front_long n at block held in
    held_from n end (put_mid at k block xs) (take at block ++ xs) (put_mid-with_zeros n at k block xs held same)
    (take-put_mid n at k end block xs held ends same) (omega (arith, length-append (take at block) xs, long)) room

-- the zeros to be appended stand there already
pub take-zeros : (n at count : ℕ) (block : List ℕ) → IsPadded n block at → at + count ≤ n
    → take (at + count) block ≡ take at block ++ replicate count 0
take-zeros n at count block held room =
    let less : count ≤ n - at = omega arith in
    let zeros : take count (drop at block) ≡ replicate count 0 =
    ap (take count) (zeros_after n at block held) ∙ take-replicate count (n - at) 0 less in
    take-add at count block ∙ ap (λ (r : List ℕ). take at block ++ r) zeros

pub IsPadded-zeros : (n at count : ℕ) (block : List ℕ) → IsPadded n block at → at + count ≤ n
    → IsPadded n block (at + count)
IsPadded-zeros n at count block held room =
    let front = take at block in
    let added = replicate count 0 in
    let rest = n - length (front ++ added) in
    let long = front_long n at block held in
    let size : length (front ++ added) ≡ at + count =
    omega (arith, length-append front added, length-replicate {A = ℕ} count 0, long) in
    let all : count + rest ≡ n - length front = omega (arith, size, long) in
    let same : added ++ replicate rest 0 ≡ replicate (n - length front) 0 =
    replicate-append-replicate count rest 0 ∙ ap (λ m. replicate m 0) all in
    held_from n (at + count) block (front ++ added)
    (held.zeros ∙ ap (λ (r : List ℕ). front ++ r) (sym same) ∙ sym (append_assoc front added (replicate rest 0)))
    (take-zeros n at count block held room) (omega (arith, size)) room
