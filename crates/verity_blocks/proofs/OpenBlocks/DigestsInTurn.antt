-- A digest that comes to the open block of its level, how the block is written among the others, and the open blocks
-- before any digest has come.
use Rattle.std.proofs.Common.{◌≡◌, ℕ, ◌+◌, ◌-◌, ◌*◌, ◌/◌, ◌%◌, ◌^◌, ◌<◌, ◌≤◌, ◌⊎◌, List, [], length-drop, ◌++◌, get_or, take, drop, length, replicate}
use Rattle.std.proofs.{Common.{arith, sym, ◌∙◌, ap, subst, inl, inr}, lemmas.{Bool.cases_lt, Nat.{div-add-mod', le-div, mod_below}}}
use Rattle.std.{proofs.lemmas.List.{length-map, length-take-le, drop-replicate, take-replicate}, specs.{Fork.slice_chunk, Int.div_ceil}}
use Rattle.{std.proofs.lemmas.Slice.{take-put_mid_below, drop-put_mid, between-put_mid}, verity_blocks.specs.Levels.{hash_block_of, blocks_up, root}}
use Rattle.std.proofs.Math.Nat.{div-div-eq-div-mul, div-eq_of_lt, div-mul-le_self, one-le-pow, pow-zero, zero-div, zero-mod}
use Rattle.verity_plan.{specs.{Settings.{TreeSettingsFields, hash, fan, slot_width, digest_len}, Plans.level_count}, proofs.FanLemmas.fan-some}
use Rattle.verity_plan.proofs.{CountLemmas.{IsLevelCount-level_count, mul_le}, FitLemmas.digest-slot, IndexLemmas.{quotient-next, quotient-below}}
use Rattle.verity_blocks.specs.Steps.OpenBlocks.{digests_under, open_block, HasOpenBlocks, level_digest, IsCarrying, carry_state}
use Rattle.verity_blocks.proofs.{Levels.LevelCounts.{length-blocks_up, height-level_count}, OpenBlocks.Reached.{div_ceil-last, IsReached-zero}}
use Rattle.verity_blocks.proofs.{OpenBlocks.OpenBlock.{open-push, open-close, block-up}, Levels.CutBlocks.run-of_front}
use borrow.Rule.Slice.PartMut.{put_mid}

-- an open block once digest q has come too
abbrev pub open_block_with : TreeSettingsFields → List (List ℕ) → ℕ → List ℕ
open_block_with s digests q = hash_block_of s (take (q % fan s + 1) (drop (q / fan s * fan s) digests))

-- the range of a level in a store with n bytes for each, as the code cuts it out
abbrev pub range_at : List ℕ → ℕ → ℕ → List ℕ
range_at store m n = take (m * n + n - m * n) (drop (m * n) store)

-- the store with other bytes in this range
abbrev pub with_range : List ℕ → ℕ → ℕ → List ℕ → List ℕ
with_range store m n bytes = put_mid (m * n) (m * n + n - m * n) store bytes

-- a block with a digest at a place
abbrev pub with_digest : List ℕ → ℕ → List ℕ → List ℕ
with_digest block at digest = take at block ++ digest ++ drop (at + length digest) block

-- a write to one run leaves the others
pub chunk-other : (xs ys : List ℕ) (size m l a k : ℕ) → a ≡ m * size → k ≡ size → length ys ≡ size
    → m * size + size ≤ length xs → (l < m) ⊎ (m < l)
    → slice_chunk (put_mid a k xs ys) size l ≡ slice_chunk xs size l
chunk-other xs ys size m l a k place wide len room apart =
    elim apart [
      | inl below ↦
          let le : l + 1 ≤ m = omega arith in
          let before : l * size + size ≤ a = omega (arith, place, mul_le (l + 1) m size le) in
          run-of_front (put_mid a k xs ys) xs size l
          (take-put_mid_below a k xs ys (l * size + size) before (omega (arith, place, room)))
      | inr above ↦
          let le : m + 1 ≤ l = omega arith in
          let after : a + k ≤ l * size = omega (arith, place, wide, mul_le (m + 1) l size le) in
          ap (take size) (drop-put_mid a k xs ys (l * size) after (omega (arith, place, room)) (len ∙ sym wide))
    ]

pub chunk-same : (xs ys : List ℕ) (size m a k : ℕ) → a ≡ m * size → length ys ≡ size → m * size + size ≤ length xs
    → slice_chunk (put_mid a k xs ys) size m ≡ ys
chunk-same xs ys size m a k place len room =
    let wide : m * size + size - a ≡ size = omega (arith, place) in
    let own = between-put_mid a k xs ys (m * size + size) (omega (arith, place, room)) (omega (arith, place, len)) in
    cc

-- the range of a level is its run
pub range-is_run : (size m n : ℕ) (store : List ℕ) → n ≡ size → range_at store m n ≡ slice_chunk store size m
range-is_run size m n store is = let wide : m * n + n - m * n ≡ size = omega (arith, is) in cc

pub length-range : (size m n : ℕ) (store : List ℕ) → n ≡ size → m * size + size ≤ length store
    → length (range_at store m n) ≡ size
length-range size m n store is room =
    ap length (range-is_run size m n store is)
    ∙ length-take-le size (drop (m * size) store) (omega (arith, length-drop (m * size) store, room))

-- a block is written into a run of a store: the other runs are as before
pub record IsWritten (size m : ℕ) (store block after : List ℕ) : Type 0 where
  pub own : slice_chunk after size m ≡ block
  pub others : (l : ℕ) → (l < m) ⊎ (m < l) → slice_chunk after size l ≡ slice_chunk store size l

pub IsWritten-range : (size m n : ℕ) (store block : List ℕ) → n ≡ size → m * size + size ≤ length store
    → length block ≡ size
    → IsWritten size m store block (with_range store m n block)
IsWritten-range size m n store block is room len =
    let from : m * n ≡ m * size = ap (λ (k : ℕ). m * k) is in
    record {
      own = chunk-same store block size m (m * n) _ from len room;
      others = λ l apart. chunk-other store block size m l (m * n) _ from (omega (arith, is)) len room apart;
    }

-- the open blocks once one of them is written
pub HasOpenBlocks-written : (s : TreeSettingsFields) (blocks : List (List ℕ)) (levels j : ℕ)
    {m : ℕ} {store block after : List ℕ} → IsWritten s.hash_block m store block after
    → block ≡ open_block s (digests_under s blocks m) (j / fan s ^ m)
    → ((l : ℕ) → l < levels → (l < m) ⊎ (m < l)
    → slice_chunk store s.hash_block l ≡ open_block s (digests_under s blocks l) (j / fan s ^ l))
    → HasOpenBlocks s blocks 0 levels j after
HasOpenBlocks-written s blocks levels j {m = m} {after = after} written is rest = λ l low high. elim (cases_lt l m) [
  | inl before ↦ written.others l (inl before) ∙ rest l high (inl before)
  | inr most ↦ elim (cases_lt m l) [
    | inl past ↦ written.others l (inr past) ∙ rest l high (inr past)
    | inr least ↦
        let same : m ≡ l = omega (arith, most, least) in
        subst (λ (x : ℕ). slice_chunk after s.hash_block x ≡ open_block s (digests_under s blocks x) (j / fan s ^ x)) same
        (written.own ∙ is)
  ]
]

-- the index of a digest that comes is in its level
pub level_digest-below : (s : TreeSettingsFields) (blocks : List (List ℕ)) (i m : ℕ) → 0 < fan s → i < length blocks
    → i / fan s ^ m < length (blocks_up s blocks m)
level_digest-below s blocks i m some below =
    omega (
      arith,
      quotient-below i (length blocks) (fan s ^ m) (one-le-pow m (fan s) some) below,
      length-blocks_up s blocks m some,
    )

-- the block that closes gives the digest one level up
pub level_digest-next : (s : TreeSettingsFields) (blocks : List (List ℕ)) (i m : ℕ) → i < length blocks
    → (i / fan s ^ m % fan s + 1 ≡ fan s) ⊎ (i + 1 ≡ length blocks)
    → get_or (blocks_up s blocks (m + 1)) (i / fan s ^ (m + 1)) [] ≡ open_block_with s (digests_under s blocks m)
    (i / fan s ^ m)
level_digest-next s blocks i m below ends =
    let f = fan s in
    let some = fan-some s in
    let q = i / f ^ m in
    let level = blocks_up s blocks m in
    let closes : (q % f + 1 ≡ f) ⊎ (q + 1 ≡ length (digests_under s blocks m)) = elim ends [
      | inl full ↦ inl full
      | inr last ↦ inr (sym (div_ceil-last i (f ^ m) (one-le-pow m f some)) ∙ ap (λ (n : ℕ). div_ceil n (f ^ m)) last
          ∙ sym (length-map level (hash s) ∙ length-blocks_up s blocks m some))
    ] in
    ap (λ (n : ℕ). get_or (blocks_up s blocks (m + 1)) n []) (quotient-next f i m)
    ∙ block-up s blocks m (q / f) (quotient-below q (length level) f some (level_digest-below s blocks i m some below))
    ∙ sym (open-close s (digests_under s blocks m) q closes)

-- an open block with no slot is all zeros
pub hash_block_of-none : (s : TreeSettingsFields) (n : ℕ) (digests : List (List ℕ))
    → hash_block_of s (take 0 (drop n digests)) ≡ replicate s.hash_block 0
hash_block_of-none s n digests =
    ap (λ (k : ℕ). replicate k 0) (let e : s.hash_block - 0 ≡ s.hash_block = omega arith in e)

-- a store of zeros has the open blocks to which no digest has come
pub HasOpenBlocks-zeros : (s : TreeSettingsFields) (blocks : List (List ℕ)) (levels len : ℕ) (store : List ℕ)
    → 0 < fan s
    → store ≡ replicate len 0
    → levels * s.hash_block ≤ len → HasOpenBlocks s blocks 0 levels 0 store
HasOpenBlocks-zeros s blocks levels len store some zeros room = λ l from to.
    let f = fan s in
    let size = s.hash_block in
    let step : l + 1 ≤ levels = omega (arith, to) in
    let fits : size ≤ len - l * size = omega (arith, room, mul_le (l + 1) levels size step) in
    let run = drop-replicate {X = ℕ} (l * size) len 0 in
    let front = take-replicate {X = ℕ} size (len - l * size) 0 fits in
    let none = hash_block_of-none s (0 / f * f) (digests_under s blocks l) in
    let place = zero-div (f ^ l) in
    let start = zero-mod f in
    cc

-- past all levels only the last data block comes, and its digest is the root
pub level_digest-root : (s : TreeSettingsFields) (blocks : List (List ℕ)) (i levels : ℕ) (store digest : List ℕ)
    → 2 ≤ fan s
    → i < length blocks
    → levels ≡ level_count (fan s) (length blocks) → IsCarrying s blocks (carry_state i levels levels) store digest
    → (i + 1 ≡ length blocks) × (digest ≡ root s blocks)
unfolding root
level_digest-root s blocks i levels store digest two below count h =
    let f = fan s in
    let some : 0 < f = omega arith in
    let most : length blocks ≤ f ^ levels =
    omega (arith, (IsLevelCount-level_count f (length blocks) two).enough, ap (λ (n : ℕ). f ^ n) count) in
    let zero_place : i / f ^ levels ≡ 0 = div-eq_of_lt (omega (arith, most, below)) in
    let last : i + 1 ≡ length blocks = elim (cases_lt (i + 1) (length blocks)) [
      | inl more ↦
          let whole = (h.reached more).whole in
          absurd (omega (arith, whole, ap (λ (n : ℕ). (n + 1) * f ^ levels) zero_place, most))
      | inr past ↦ omega (arith, past, below)
    ] in (
      last,
      (let top = height-level_count s blocks some in let is = h.digest_is in cc),
    )

-- a slot is within its block
pub slot-room : (s : TreeSettingsFields) (q f w len m n : ℕ) (store : List ℕ) → f ≡ fan s → w ≡ slot_width s
    → n ≡ s.hash_block → len ≡ digest_len s → fan s * slot_width s ≤ s.hash_block
    → m * s.hash_block + s.hash_block ≤ length store → q % f * w + len ≤ length (range_at store m n)
slot-room s q f w len m n store ef ew en el fits room =
    let at : q % f * w ≡ q % fan s * slot_width s = cc in
    let low : q % fan s + 1 ≤ fan s = omega (arith, mod_below q (fan s) (fan-some s)) in
    let area = mul_le (q % fan s + 1) (fan s) (slot_width s) low in
    omega (arith, at, area, fits, el, digest-slot s, length-range s.hash_block m n store en room)

-- a digest put into its slot of a level's open block, once it has come there
pub open_block_with-put : (s : TreeSettingsFields) (blocks : List (List ℕ)) (i m levels index f w n : ℕ)
    (store block digest : List ℕ) → f ≡ fan s → w ≡ slot_width s → n ≡ s.hash_block → fan s * slot_width s ≤ s.hash_block
    → i < length blocks → m < levels → index ≡ i / fan s ^ m → HasOpenBlocks s blocks m levels i store
    → digest ≡ level_digest s blocks i m → block ≡ with_digest (range_at store m n) (index % f * w) digest
    → block ≡ open_block_with s (digests_under s blocks m) (i / fan s ^ m)
open_block_with-put s blocks i m levels index f w n store block digest ef ew en fits below inside place stands digest_is put =
    let stood = range-is_run s.hash_block m n store en ∙ stands m (omega arith) inside in
    let here = level_digest-below s blocks i m (fan-some s) below in
    let pushed = open-push s (blocks_up s blocks m) (i / fan s ^ m) digest fits here digest_is in
    cc

-- the loop over the levels begins
pub IsCarrying-first : (s : TreeSettingsFields) (blocks : List (List ℕ)) (i levels : ℕ) (store digest : List ℕ)
    → digest ≡ level_digest s blocks i 0
    → HasOpenBlocks s blocks 0 levels i store → IsCarrying s blocks (carry_state i 0 levels) store digest
IsCarrying-first s blocks i levels store digest is stands = record {
  reached = λ _. IsReached-zero (fan s) i;
  above = stands;
  below = λ _ l from to. absurd (omega (arith, to));
  digest_is = is;
}

-- at level 0 the index is the data block's
pub index-first : (i f : ℕ) → i ≡ i / f ^ 0
index-first i f = omega (arith, ap (λ (n : ℕ). i / n) (pow-zero f))

-- data blocks below one hash block of level 0 are below one of each level
pub quotient-same : (f i j m : ℕ) → i / f ≡ j / f → i / f ^ m / f ≡ j / f ^ m / f
quotient-same f i j m same =
    let turn : (x : ℕ) → x / f ^ m / f ≡ x / f / f ^ m = λ x.
    let e : f ^ m * f ≡ f * f ^ m = omega arith in
    div-div-eq-div-mul x (f ^ m) f ∙ ap (λ (n : ℕ). x / n) e ∙ sym (div-div-eq-div-mul x f (f ^ m)) in
    turn i ∙ ap (λ (n : ℕ). n / f ^ m) same ∙ sym (turn j)

-- of two slots of one hash block the one of the earlier data block is not the later
pub slots-order : (f i j m : ℕ) → 0 < f → i ≤ j → i / f ≡ j / f → i / f ^ m % f ≤ j / f ^ m % f
slots-order f i j m some order same =
    let w = f ^ m in
    let before : i / w ≤ j / w =
    le-div (i / w) j w (one-le-pow m f some) (omega (arith, div-mul-le_self i w, order)) in
    let run : i / w / f * f ≡ j / w / f * f = ap (λ (n : ℕ). n * f) (quotient-same f i j m same) in
    omega (arith, before, run, div-add-mod' (i / w) f, div-add-mod' (j / w) f)
