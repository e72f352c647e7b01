-- An open block as digests come to it.
use Rattle.std.proofs.Common.{◌≡◌, ℕ, suc, ◌+◌, ◌-◌, ◌*◌, ◌/◌, ◌%◌, ◌<◌, ◌≤◌, ◌⊎◌, List, [], ◌∷◌, ◌++◌, get_or, take, drop, length, map, replicate}
use Rattle.std.{proofs.Common.{arith, sym, ◌∙◌, ap, inl, inr, length-append, length-drop, append_assoc}, specs.{Int.div_ceil, List.flat_map}}
use Rattle.std.{proofs.{lemmas.{Nat.{div-add-mod', mod_below}, Grind.flat_map-append}, Math.Seq.drop-append-add}, specs.Fork.slice_chunk}
use Rattle.std.proofs.lemmas.List.{length-map, length-take-le, get_or-map, get_or-drop, take-map, drop-map, take_at, drop-replicate, length-replicate}
use Rattle.std.proofs.lemmas.List.{replicate-append-replicate, take_all, flat_map_more, take-append-drop, take-take, take_more}
use Rattle.{verity_hash.{specs.Hashing.with_zeros, proofs.HashLemmas.length-salted_hash}, verity_blocks.proofs.Levels.CutBlocks.get_or-pack}
use Rattle.verity_plan.proofs.{CountLemmas.mul_le, FanLemmas.fan-some, FitLemmas.digest-slot}
use Rattle.verity_plan.specs.Settings.{TreeSettingsFields, hash, fan, slot, slot_width, digest_len}
use Rattle.verity_blocks.specs.{Levels.{hash_block_of, blocks_up}, Steps.OpenBlocks.{digests_under, open_block}}

pub length-hash : (s : TreeSettingsFields) (x : List ℕ) → length (hash s x) ≡ digest_len s
unfolding hash
length-hash s x = length-salted_hash s.algorithm s.rule s.salt x

-- a hash by the settings that a plan names
pub hash-by : (digest block : List ℕ) (s t : TreeSettingsFields) → s ≡ t → digest ≡ hash s block → digest ≡ hash t block
hash-by digest block s t same is = is ∙ ap (λ (r : TreeSettingsFields). hash r block) same

-- the slots of some digests
pub length-slots : (s : TreeSettingsFields) (xs : List (List ℕ)) → digest_len s ≤ slot_width s
    → length (flat_map (slot s) (map (hash s) xs)) ≡ length xs * slot_width s
length-slots s [] fits = let e : 0 ≡ 0 * slot_width s = omega arith in e
length-slots s (x ∷ xs) fits =
    omega (
      arith,
      length-append (slot s (hash s x)) (flat_map (slot s) (map (hash s) xs)),
      length-append (hash s x) (replicate (slot_width s - length (hash s x)) 0),
      length-replicate {A = ℕ} (slot_width s - length (hash s x)) 0,
      length-hash s x,
      length-slots s xs fits,
    )

-- a digest put after the slots of a block is in its slot
block-more : (k w at : ℕ) (slots digest : List ℕ) → length slots ≡ at → length digest ≤ w → at + w ≤ k
    → take at (with_zeros k slots) ++ digest ++ drop (at + length digest) (with_zeros k slots)
    ≡ with_zeros k (slots ++ with_zeros w digest)
block-more k w at slots digest len fits room =
    let d = length digest in
    let zeros : List ℕ = replicate (k - length slots) 0 in
    let left = k - length (slots ++ with_zeros w digest) in
    let e : at + d ≡ length slots + d = omega (arith, len) in
    let split : k - length slots - d ≡ (w - d) + left =
    omega (
      arith,
      length-append slots (with_zeros w digest),
      length-append digest (replicate (w - d) 0),
      length-replicate {A = ℕ} (w - d) 0,
      len,
    ) in
    let front = take_at slots zeros at len in
    let back = drop-append-add slots zeros d ∙ drop-replicate {X = ℕ} d (k - length slots) 0 in
    let both = replicate-append-replicate {A = ℕ} (w - d) left 0 in
    let first = append_assoc (slots ++ digest) (replicate (w - d) 0) (replicate left 0) in
    let second = append_assoc slots digest (replicate (w - d) 0) in
    cc

-- the slots of an open block
length-open : (s : TreeSettingsFields) (xs : List (List ℕ)) (q : ℕ) → q < length xs
    → length (flat_map (slot s) (take (q % fan s) (drop (q / fan s * fan s) (map (hash s) xs)))) ≡ q % fan s * slot_width s
length-open s xs q below =
    let at = q / fan s * fan s in
    let k = q % fan s in
    ap (λ (ys : List (List ℕ)). length (flat_map (slot s) ys))
    (ap (take k) (drop-map (hash s) at xs) ∙ take-map (hash s) k (drop at xs))
    ∙ length-slots s (take k (drop at xs)) (digest-slot s)
    ∙ ap (λ (n : ℕ). n * slot_width s)
    (length-take-le k (drop at xs) (omega (arith, length-drop at xs, div-add-mod' q (fan s), below)))

-- a hash block cleared from a slot on holds the digests before it
pub open-cleared : (s : TreeSettingsFields) (xs : List (List ℕ)) (q n : ℕ) → q < length xs → q % fan s ≤ n
    → take (q % fan s * slot_width s) (hash_block_of s (take n (drop (q / fan s * fan s) (map (hash s) xs))))
    ++ replicate (s.hash_block - q % fan s * slot_width s) 0
    ≡ open_block s (map (hash s) xs) q
open-cleared s xs q n below within =
    let k = q % fan s in
    let rest = drop (q / fan s * fan s) (map (hash s) xs) in
    let first = flat_map (slot s) (take k rest) in
    let more = flat_map (slot s) (drop k (take n rest)) in
    let len = length-open s xs q below in
    let zeros : List ℕ = replicate (s.hash_block - length (first ++ more)) 0 in
    let parts = take-append-drop k (take n rest) in
    let start = take-take k n rest within in
    let both = flat_map-append (slot s) (take k rest) (drop k (take n rest)) in
    let joined = append_assoc first more zeros in
    let front = take_at first (more ++ zeros) (k * slot_width s) len in
    cc

-- one more digest of an open block
pub open-push : (s : TreeSettingsFields) (xs : List (List ℕ)) (q : ℕ) (digest : List ℕ)
    → fan s * slot_width s ≤ s.hash_block → q < length xs → digest ≡ hash s (get_or xs q [])
    → take (q % fan s * slot_width s) (open_block s (map (hash s) xs) q) ++ digest
    ++ drop (q % fan s * slot_width s + length digest) (open_block s (map (hash s) xs) q)
    ≡ hash_block_of s (take (q % fan s + 1) (drop (q / fan s * fan s) (map (hash s) xs)))
open-push s xs q digest room below same =
    let f = fan s in
    let w = slot_width s in
    let digests = map (hash s) xs in
    let rest = drop (q / f * f) digests in
    let split : q / f * f + q % f ≡ q = div-add-mod' q f in
    let here : q % f < length rest = omega (arith, length-drop (q / f * f) digests, length-map xs (hash s), split, below) in
    let slots = flat_map (slot s) (take (q % f) rest) in
    let inside : q % f * w + w ≤ s.hash_block =
    omega (arith, mul_le (q % f + 1) f w (omega (arith, mod_below q f (fan-some s))), room) in
    let size : length digest ≤ w = omega (arith, ap length same, length-hash s (get_or xs q []), digest-slot s) in
    let read = get_or-drop (q / f * f) digests (q % f) [] in
    let hashed = get_or-map (hash s) xs q [] [] below in
    let next = take_more rest (q % f) [] here in
    let joined = flat_map_more (slot s) [] (take (q % f) rest) digest in
    let put = block-more s.hash_block w (q % f * w) slots digest (length-open s xs q below) size inside in
    cc

-- a block that is full, or the last, is the block of its run
pub open-close : (s : TreeSettingsFields) (xs : List (List ℕ)) (q : ℕ) → (q % fan s + 1 ≡ fan s) ⊎ (q + 1 ≡ length xs)
    → hash_block_of s (take (q % fan s + 1) (drop (q / fan s * fan s) xs))
    ≡ hash_block_of s (slice_chunk xs (fan s) (q / fan s))
open-close s xs q ends =
    let f = fan s in
    let rest = drop (q / f * f) xs in
    elim ends [
      | inl full ↦ ap (λ (n : ℕ). hash_block_of s (take n rest)) full
      | inr last ↦
          let left : length rest ≡ q % f + 1 = omega (arith, length-drop (q / f * f) xs, last, div-add-mod' q f) in
          ap (hash_block_of s) (take_all (q % f + 1) rest (omega (arith, left))
          ∙ sym (take_all f rest (omega (arith, left, mod_below q f (fan-some s)))))
    ]

-- the block of a run stands one level up
pub block-up : (s : TreeSettingsFields) (blocks : List (List ℕ)) (m j : ℕ)
    → j < div_ceil (length (blocks_up s blocks m)) (fan s)
    → get_or (blocks_up s blocks (m + 1)) j [] ≡ hash_block_of s (slice_chunk (digests_under s blocks m) (fan s) j)
unfolding blocks_up
block-up s blocks m j below =
    let e : m + 1 ≡ suc m = omega arith in
    ap (λ (k : ℕ). get_or (blocks_up s blocks k) j []) e
    ∙ get_or-pack s (digests_under s blocks m) j
    (omega (arith, below, ap (λ (n : ℕ). div_ceil n (fan s)) (length-map (blocks_up s blocks m) (hash s))))
