-- A digest that comes to the open block of its level, and a hash block that has closed and still stands there.
use Rattle.std.proofs.Common.{◌≡◌, ℕ, zero, suc, ◌+◌, ◌-◌, ◌*◌, ◌/◌, ◌%◌, ◌^◌, ◌<◌, ◌≤◌, ◌⊎◌, Bool, true, false, List, ◌++◌, take, length, replicate}
use Rattle.std.proofs.{Common.{arith, sym, ◌∙◌, ap, subst, inl, inr, refl, drop, length-drop}, lemmas.Nat.{div-add-mod', mod_below}}
use Rattle.{std.proofs.lemmas.List.{append-nil, drop_all, length-replicate, length-take-le}, verity_plan.proofs.FanLemmas.fan-some}
use Rattle.std.proofs.Math.Nat.{div-eq_of_eq-mul_left, mul-mod_left, one-le-pow, pow-suc, pow-zero}
use Rattle.verity_blocks.specs.{Levels.blocks_up, Steps.OpenBlocks.{Adds, HasClosed}, TreeOnDevice.tree_block}
use Rattle.verity_blocks.specs.Steps.OpenBlocks.{HasOpenBlocks, IsAsking, IsCarrying, IsReached, carry_state, digests_under, level_digest, open_block}
use Rattle.verity_blocks.proofs.OpenBlocks.{OpenBlock.open-cleared, Reached.{IsReached-full, next-slot, quotient-reached, quotient-stays}}
use Rattle.verity_blocks.proofs.OpenBlocks.DigestsInTurn.{HasOpenBlocks-written, IsWritten, IsWritten-range, level_digest-below, range_at}
use Rattle.verity_blocks.proofs.OpenBlocks.DigestsInTurn.{hash_block_of-none, level_digest-next, open_block_with-put, quotient-same, slots-order}
use Rattle.verity_blocks.proofs.OpenBlocks.DigestsInTurn.{length-range, range-is_run, with_digest, with_range, open_block_with}
use Rattle.verity_plan.{specs.{Plans.level_count, Settings.{TreeSettingsFields, hash, fan, slot_width}}, proofs.CountLemmas.IsLevelCount-level_count}
use borrow.Rule.Slice.PartMut.{put_mid}

-- a power above 1 has an exponent
some-exponent : (f k : ℕ) → 1 < f ^ k → 0 < k
some-exponent f zero more = omega (arith, pow-zero f)
some-exponent f (suc k) more = omega arith

-- above two data blocks or more there is a level
pub some-level : (f n : ℕ) → 2 ≤ f → 1 < n → 0 < level_count f n
some-level f n two more =
    some-exponent f (level_count f n) (omega (arith, (IsLevelCount-level_count f n two).enough, more))

-- after the last place below a block comes the first below the next one
next-first : (f i m : ℕ) → 0 < f → IsReached f i (m + 1) → (i + 1) / f ^ m % f ≡ 0
next-first f i m some h =
    let k = i / f ^ (m + 1) + 1 in
    let e : m + 1 ≡ suc m = omega arith in
    let power : f ^ (m + 1) ≡ f ^ m * f = ap (λ (n : ℕ). f ^ n) e ∙ pow-suc f m in
    let whole : i + 1 ≡ k * f * f ^ m = omega (arith, h.whole, ap (λ (n : ℕ). k * n) power) in
    ap (λ (x : ℕ). x % f) (div-eq_of_eq-mul_left (one-le-pow m f some) whole) ∙ mul-mod_left k f

-- a data block that fills a block of level 0 is the last below it
full-first : (f i : ℕ) → IsReached f i 1 → i % f + 1 ≡ f
full-first f i h =
    let one : f ^ 1 ≡ f = omega (arith, pow-suc f 0, ap (λ (n : ℕ). n * f) (pow-zero f)) in
    let e : (i / f ^ 1 + 1) * f ^ 1 ≡ (i / f + 1) * f = ap (λ (n : ℕ). (i / n + 1) * n) one in
    omega (arith, h.whole, e, div-add-mod' i f)

-- a level's open block with the digest that comes to it is written: it has closed, or it has room for more
Adds-written : (s : TreeSettingsFields) (blocks : List (List ℕ)) (i m levels : ℕ) (closed : Bool)
    (store after digest : List ℕ) → i < length blocks → m < levels → IsCarrying s blocks (carry_state i m levels) store digest
    → IsWritten s.hash_block m store (open_block_with s (digests_under s blocks m) (i / fan s ^ m)) after
    → (closed ≡ true → (i / fan s ^ m % fan s + 1 ≡ fan s) ⊎ (i + 1 ≡ length blocks))
    → (closed ≡ false → (i / fan s ^ m % fan s + 1 < fan s) × (i + 1 < length blocks))
    → Adds closed s blocks i m levels after
Adds-written s blocks i m levels true store after digest below inside h written ends room = record {
  reached = λ more. elim (ends refl) [
    | inl full ↦ IsReached-full (fan s) i m (fan-some s) (h.reached more) full
    | inr last ↦ absurd (omega (arith, more, last))
  ];
  stands = written.own ∙ sym (level_digest-next s blocks i m below (ends refl));
  above = λ l low high. written.others l (inr (omega (arith, low))) ∙ h.above l (omega (arith, low)) high;
  below = λ more l low high. written.others l (inl high) ∙ h.below more l low high;
}
Adds-written s blocks i m levels false store after digest below inside h written ends room =
    let f = fan s in
    let free = room refl in
    let reached = h.reached free.1 in
    let next = quotient-reached f i m (fan-some s) reached in
    let slots = next-slot f (i / f ^ m) free.0 in
    let stands : open_block_with s (digests_under s blocks m) (i / f ^ m)
    ≡ open_block s (digests_under s blocks m) ((i + 1) / f ^ m) = cc in (
      free.1,
      HasOpenBlocks-written s blocks levels (i + 1) written stands (λ l high apart. elim apart [
        | inl before ↦ h.below free.1 l (omega arith) before
        | inr past ↦ h.above l (omega (arith, past)) high
            ∙ ap (open_block s (digests_under s blocks l)) (sym (quotient-stays f i m l (fan-some s) reached free.0 past))
      ]),
    )

-- a digest is put into its slot of a level's open block: with the last slot or the last data block the block closes
pub Adds-put : (s : TreeSettingsFields) (blocks : List (List ℕ)) (i m levels index f w n : ℕ) (closed : Bool)
    (store block digest : List ℕ) → f ≡ fan s → w ≡ slot_width s → n ≡ s.hash_block → fan s * slot_width s ≤ s.hash_block
    → i < length blocks → m < levels → m * s.hash_block + s.hash_block ≤ length store → index ≡ i / fan s ^ m
    → length block ≡ length (range_at store m n) → block ≡ with_digest (range_at store m n) (index % f * w) digest
    → (closed ≡ true → (f ≤ index % f + 1) ⊎ (i + 1 ≡ length blocks))
    → (closed ≡ false → (index % f + 1 < f) × (i + 1 < length blocks))
    → IsCarrying s blocks (carry_state i m levels) store digest → Adds closed s blocks i m levels (with_range store m n block)
Adds-put s blocks i m levels index f w n closed store block digest ef ew en fits below inside room place len put ends more h =
    let slot : index % f ≡ i / fan s ^ m % fan s = cc in
    let low : i / fan s ^ m % fan s < fan s = mod_below (i / fan s ^ m) (fan s) (fan-some s) in
    let is = open_block_with-put s blocks i m levels index f w n store block digest ef ew en fits below inside place h.above
    h.digest_is put in
    Adds-written s blocks i m levels closed store (with_range store m n block) digest below inside h
    (subst (λ (xs : List ℕ). IsWritten s.hash_block m store xs (with_range store m n block)) is
    (IsWritten-range s.hash_block m n store block en room (len ∙ length-range s.hash_block m n store en room)))
    (λ yes. elim (ends yes) [
      | inl full ↦ inl (omega (arith, slot, low, ef, full))
      | inr last ↦ inr last
    ])
    (λ no. (omega (arith, slot, ef, (more no).0), (more no).1))

-- a block that closed gives its digest one level up, and leaves zeros
pub IsCarrying-up : (s : TreeSettingsFields) (blocks : List (List ℕ)) (i m levels n : ℕ) (store zeros digest : List ℕ)
    → n ≡ s.hash_block → m * s.hash_block + s.hash_block ≤ length store → zeros ≡ replicate (length (range_at store m n)) 0
    → digest ≡ hash s (range_at store m n) → HasClosed s blocks i m levels store
    → IsCarrying s blocks (carry_state i (m + 1) levels) (with_range store m n zeros) digest
IsCarrying-up s blocks i m levels n store zeros digest en room none is h =
    let f = fan s in
    let size = s.hash_block in
    let digests = digests_under s blocks m in
    let all : zeros ≡ replicate size 0 = none ∙ ap (λ (k : ℕ). replicate k 0) (length-range size m n store en room) in
    let written = IsWritten-range size m n store zeros en room (ap length all ∙ length-replicate size 0) in
    record {
      reached = h.reached;
      above = λ l low high. written.others l (inr (omega (arith, low))) ∙ h.above l low high;
      below = λ more.
          let q = (i + 1) / f ^ m in
          let empty : q % f ≡ 0 = next-first f i m (fan-some s) (h.reached more) in
          let none = hash_block_of-none s (q / f * f) digests in
          let cleared : zeros ≡ open_block s digests q = cc in
          HasOpenBlocks-written s blocks (m + 1) (i + 1) written cleared
          (λ l high apart. h.below more l (omega arith) (omega arith));
      digest_is = is ∙ ap (hash s) (range-is_run size m n store en ∙ h.stands);
    }

-- a digest that fills no block of level 0 leaves the open blocks of one data block more
pub HasOpenBlocks-added : (s : TreeSettingsFields) (blocks : List (List ℕ)) (i levels : ℕ) (closed : Bool) (opened : List ℕ)
    → i + 1 < length blocks → (i % fan s + 1 ≡ fan s → ⊥)
    → Adds closed s blocks i 0 levels opened → HasOpenBlocks s blocks 0 levels (i + 1) opened
HasOpenBlocks-added s blocks i levels true opened more apart h = absurd (apart (full-first (fan s) i (h.reached more)))
HasOpenBlocks-added s blocks i levels false opened more apart h = h.1

-- with the last data block's digest a level's open block is its last hash block
pub block-with_last : (s : TreeSettingsFields) (blocks : List (List ℕ)) (i m levels index f w n : ℕ)
    (store block digest : List ℕ) → f ≡ fan s → w ≡ slot_width s → n ≡ s.hash_block → fan s * slot_width s ≤ s.hash_block
    → i + 1 ≡ length blocks → m < levels → index ≡ i / fan s ^ m → HasOpenBlocks s blocks m levels i store
    → digest ≡ level_digest s blocks i m → block ≡ with_digest (range_at store m n) (index % f * w) digest
    → block ≡ tree_block s blocks m (i / fan s ^ (m + 1))
block-with_last s blocks i m levels index f w n store block digest ef ew en fits last inside place above is put =
    let below : i < length blocks = omega (arith, last) in
    open_block_with-put s blocks i m levels index f w n store block digest ef ew en fits below inside place above is put
    ∙ sym (level_digest-next s blocks i m below (inr last))

-- with the last data block's digest a level's block closes, and its digest comes one level up; the digests before another
-- data block stay
pub IsAsking-up : (s : TreeSettingsFields) (blocks : List (List ℕ)) (first i m levels index start f w n : ℕ)
    (store block after digest above : List ℕ) → f ≡ fan s → w ≡ slot_width s → n ≡ s.hash_block
    → fan s * slot_width s ≤ s.hash_block → i + 1 ≡ length blocks → first ≤ i → first / fan s ≡ i / fan s → m < levels
    → m * s.hash_block + s.hash_block ≤ length store → index ≡ i / fan s ^ m → start ≡ first / fan s ^ m
    → block ≡ with_digest (range_at store m n) (index % f * w) digest → above ≡ hash s block
    → after ≡ take (start % f * w) block ++ replicate (length (range_at store m n) - start % f * w) 0
    → length after ≡ length (range_at store m n) → IsAsking s blocks first (carry_state i m levels) store digest
    → IsAsking s blocks first (carry_state i (m + 1) levels) (with_range store m n after) above
IsAsking-up s blocks first i m levels index start f w n store block after digest above ef ew en fits last order same inside
    room place begins put above_is is long h =
    let below : i < length blocks = omega (arith, last) in
    let q = first / fan s ^ m in
    let digests = digests_under s blocks m in
    let count = i / fan s ^ m % fan s + 1 in
    let size = length-range s.hash_block m n store en room in
    let closes = open_block_with-put s blocks i m levels index f w n store block digest ef ew en fits below inside place h.above
    h.digest_is put in
    let within : q % fan s ≤ count = omega (arith, slots-order (fan s) first i m (fan-some s) order same) in
    let run = quotient-same (fan s) first i m same in
    let clear = open-cleared s (blocks_up s blocks m) q count
    (level_digest-below s blocks first m (fan-some s) (omega (arith, order, below))) within in
    let cleared : after ≡ open_block s digests q = cc in
    let written = IsWritten-range s.hash_block m n store after en room (long ∙ size) in
    record {
      below = HasOpenBlocks-written s blocks (m + 1) first written cleared
          (λ l high apart. h.below l (omega arith) (omega arith));
      above = λ l low high. written.others l (inr (omega (arith, low))) ∙ h.above l (omega (arith, low)) high;
      digest_is = above_is ∙ ap (hash s) (closes ∙ sym (level_digest-next s blocks i m below (inr last)));
    }

-- a block that is filled with zeros from a byte on
pub cleared-is : (at len : ℕ) (block zeros : List ℕ) → length block ≡ len
    → zeros ≡ replicate (length (take (length block - at) (drop at block))) 0
    → put_mid at (length block - at) block zeros ≡ take at block ++ replicate (len - at) 0
cleared-is at len block zeros long is =
    let k = length block - at in
    let rest = length-take-le k (drop at block) (omega (arith, length-drop at block)) in
    let none = drop_all k (drop at block) (omega (arith, length-drop at block)) in
    let end = append-nil zeros in
    cc
