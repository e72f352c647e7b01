-- The first data blocks of what was fed are the first of all data, and so are the blocks that stand above them.
use Rattle.std.proofs.Common.{◌≡◌, ℕ, zero, suc, ◌+◌, ◌-◌, ◌*◌, ◌/◌, ◌%◌, ◌^◌, ◌<◌, ◌≤◌, List, [], ◌++◌, get_or, drop, take, length, replicate, map}
use Rattle.std.{proofs.{Common.{arith, sym, ◌∙◌, ap, subst, length-drop}, lemmas.Nat.div-add-mod'}, specs.{Int.div_ceil, List.range_with_len}}
use Rattle.std.proofs.lemmas.List.{length-map, length-take-le, get_or-take, take-map, append-nil, drop-take, ext_get_or, take-append-le, take-take}
use Rattle.std.{proofs.lemmas.List.FromFn.{fill_by_all, get_or-map-range_with_len, take-map-range_with_len}, specs.Fork.slice_chunk}
use Rattle.{std.proofs.Math.Nat.{pow-zero, pow-suc, one-le-pow, div-mul-le_self}, verity_hash.specs.Hashing.with_zeros}
use Rattle.verity_blocks.specs.Steps.{OpenBlocks.{HasOpenBlocks, digests_under, open_block}, Feeding.first_blocks}
use Rattle.verity_blocks.specs.Levels.{block_at, blocks_up, cut, data_blocks, hash_block_of, pack}
use Rattle.verity_blocks.proofs.Levels.{CutBlocks.{get_or-pack, length-cut, run-of_front}, LevelCounts.{length-blocks_up, length-pack}}
use Rattle.verity_plan.specs.{Plans.{IsPlan, PlanFields, block_count}, Settings.{IsValid, TreeSettingsFields, hash, fan}}
use Rattle.verity_plan.proofs.{CountLemmas.{div_ceil-le, div_ceil-most, mul_le}, FanLemmas.{fan-some, some_data}}

-- the hash blocks above whole groups of digests are those of these groups alone
pack-front : (s : TreeSettingsFields) (digests : List (List ℕ)) (k : ℕ) → 0 < fan s → k * fan s ≤ length digests
    → take k (pack s digests) ≡ pack s (take (k * fan s) digests)
unfolding pack
pack-front s digests k some within =
    let f = fan s in
    let front = take (k * f) digests in
    let size = length-take-le (k * f) digests within in
    let least = div_ceil-most (length front) f k some (omega (arith, size)) in
    let most = div_ceil-le (length front) f k some (omega (arith, size)) in
    let count : length (pack s front) ≡ k = omega (arith, length-pack s front, least, most) in
    take-map-range_with_len (λ j. hash_block_of s (slice_chunk digests f j)) 0 (div_ceil (length digests) f) k
    (div_ceil-most (length digests) f k some within)
    ∙ sym (fill_by_all (λ j. hash_block_of s (slice_chunk digests f j)) (pack s front) k [] count (λ j low.
    get_or-pack s front j (omega (arith, low, count, length-pack s front))
    ∙ ap (hash_block_of s)
    (run-of_front front digests f j (take-take (j * f + f) (k * f) digests (omega (arith, mul_le (j + 1) k f (omega (arith, low))))))))

-- the blocks of a level that stand above whole data blocks are those of these data blocks alone
pub blocks_up-front : (s : TreeSettingsFields) (xs : List (List ℕ)) (l k : ℕ) → 0 < fan s → k * fan s ^ l ≤ length xs
    → take k (blocks_up s xs l) ≡ blocks_up s (take (k * fan s ^ l) xs) l
unfolding blocks_up
blocks_up-front s xs zero k some within =
    let one : k ≡ k * fan s ^ 0 = omega (arith, ap (λ (n : ℕ). k * n) (pow-zero (fan s))) in
    ap (λ (n : ℕ). take n xs) one
blocks_up-front s xs (suc l) k some within =
    let f = fan s in
    let digests = digests_under s xs l in
    let area : k * f ^ suc l ≡ k * f * f ^ l = omega (arith, ap (λ (n : ℕ). k * n) (pow-suc f l)) in
    let fits : k * f * f ^ l ≤ length xs = omega (arith, area, within) in
    let many : k * f ≤ length digests =
    omega (
      arith,
      length-map (blocks_up s xs l) (hash s),
      length-blocks_up s xs l some,
      div_ceil-most (length xs) (f ^ l) (k * f) (one-le-pow l f some) fits,
    ) in
    pack-front s digests k some many
    ∙ ap (pack s) (take-map (hash s) (k * f) (blocks_up s xs l) ∙ ap (map (hash s)) (blocks_up-front s xs l (k * f) some fits))
    ∙ ap (λ (n : ℕ). blocks_up s (take n xs) (suc l)) (sym area)

-- an open block after the first data blocks is that above these alone
open-front : (s : TreeSettingsFields) (xs : List (List ℕ)) (n l : ℕ) → 0 < fan s → n ≤ length xs
    → open_block s (digests_under s (take n xs) l) (n / fan s ^ l) ≡ open_block s (digests_under s xs l) (n / fan s ^ l)
open-front s xs n l some most =
    let f = fan s in
    let q = n / f ^ l in
    let at = q / f * f in
    let within : q * f ^ l ≤ n = div-mul-le_self n (f ^ l) in
    let run = λ (ys : List (List ℕ)) (fits : q * f ^ l ≤ length ys).
    sym (drop-take at (q % f) (digests_under s ys l))
    ∙ ap (λ (m : ℕ). drop at (take m (digests_under s ys l))) (div-add-mod' q f)
    ∙ ap (drop at) (take-map (hash s) q (blocks_up s ys l) ∙ ap (map (hash s)) (blocks_up-front s ys l q some fits)) in
    ap (hash_block_of s)
    (run (take n xs) (omega (arith, within, length-take-le n xs most))
    ∙ ap (λ (ys : List (List ℕ)). drop at (digests_under s ys l)) (take-take (q * f ^ l) n xs within)
    ∙ sym (run xs (omega (arith, within, most))))

-- a whole block needs no zeros
with_zeros-whole : (size : ℕ) (bytes : List ℕ) → length bytes ≡ size → with_zeros size bytes ≡ bytes
with_zeros-whole size bytes whole =
    let none : size - length bytes ≡ 0 = omega (arith, whole) in
    ap (λ (n : ℕ). bytes ++ replicate n 0) none ∙ append-nil bytes

-- a data block that is whole
pub cut-block : (s : TreeSettingsFields) (n wanted k : ℕ) (bytes : List ℕ) → k < n
    → k * s.data_block + s.data_block ≤ wanted
    → k * s.data_block + s.data_block ≤ length bytes
    → get_or (cut s n wanted bytes) k [] ≡ slice_chunk bytes s.data_block k
unfolding cut
cut-block s n wanted k bytes below within enough =
    let size = s.data_block in
    let long : length (slice_chunk bytes size k) ≡ size =
    length-take-le size (drop (k * size) bytes) (omega (arith, length-drop (k * size) bytes, enough)) in
    get_or-map-range_with_len (block_at size (take wanted bytes)) 0 n k k [] below (omega arith)
    ∙ ap (with_zeros size)
    (run-of_front (take wanted bytes) bytes size k (take-take (k * size + size) wanted bytes within))
    ∙ with_zeros-whole size (slice_chunk bytes size k) long

-- a run in the front part of some bytes
pub chunk-front : (xs ys : List ℕ) (size k : ℕ) → k * size + size ≤ length xs
    → slice_chunk (xs ++ ys) size k ≡ slice_chunk xs size k
chunk-front xs ys size k within = run-of_front (xs ++ ys) xs size k (take-append-le (k * size + size) xs ys within)

-- the first n data blocks are the first of those of a plan
pub plan-front : (p : PlanFields) (n : ℕ) (fed : List ℕ) → IsValid p.settings
    → p.blocks ≡ block_count p.settings p.wanted
    → n * p.settings.data_block ≤ length fed → length fed ≤ p.wanted
    → (n ≤ length (data_blocks p fed)) × (first_blocks p.settings n fed ≡ take n (data_blocks p fed))
plan-front p n fed valid blocks_are enough most =
    let s = p.settings in
    let size = s.data_block in
    let few : n ≤ p.blocks =
    omega (arith, blocks_are, div_ceil-most p.wanted size n (some_data s valid) (omega (arith, enough, most))) in
    let many : n ≤ length (data_blocks p fed) = omega (arith, few, length-cut s p.blocks p.wanted fed) in
    let count : length (first_blocks s n fed) ≡ n = length-cut s n (n * size) fed in (
      many,
      ext_get_or [] _ _ (count ∙ sym (length-take-le n (data_blocks p fed) many)) (λ k low.
          let below : k < n = omega (arith, low, count) in
          let room : k * size + size ≤ n * size = omega (arith, mul_le (k + 1) n size (omega (arith, below))) in
          cut-block s n (n * size) k fed below room (omega (arith, room, enough))
          ∙ sym (get_or-take n (data_blocks p fed) k [] below
          ∙ cut-block s p.blocks p.wanted k fed (omega (arith, below, few)) (omega (arith, room, enough, most))
          (omega (arith, room, enough)))),
    )

-- the open blocks above the first n data blocks are those above the data blocks of a plan
pub open-same : (p : PlanFields) (n : ℕ) (fed : List ℕ) → IsValid p.settings
    → p.blocks ≡ block_count p.settings p.wanted
    → n * p.settings.data_block ≤ length fed → length fed ≤ p.wanted → (l : ℕ)
    → open_block p.settings (digests_under p.settings (first_blocks p.settings n fed) l) (n / fan p.settings ^ l)
    ≡ open_block p.settings (digests_under p.settings (data_blocks p fed) l) (n / fan p.settings ^ l)
open-same p n fed valid blocks_are enough most l =
    let s = p.settings in
    let front = plan-front p n fed valid blocks_are enough most in
    ap (λ (xs : List (List ℕ)). open_block s (digests_under s xs l) (n / fan s ^ l)) front.1
    ∙ open-front s (data_blocks p fed) n l (fan-some s) front.0

-- bytes that come after n data blocks leave these
pub first_blocks-more : (s : TreeSettingsFields) (n levels : ℕ) (fed more store : List ℕ) → 0 < fan s
    → n * s.data_block ≤ length fed
    → HasOpenBlocks s (first_blocks s n fed) 0 levels n store
    → HasOpenBlocks s (first_blocks s n (fed ++ more)) 0 levels n store
unfolding cut
first_blocks-more s n levels fed more store some enough h =
    subst (λ (bytes : List ℕ). HasOpenBlocks s (map (block_at s.data_block bytes) (range_with_len 0 n)) 0 levels n store)
    (sym (take-append-le (n * s.data_block) fed more enough)) h

-- the first n data blocks among those of a plan
pub first_blocks-plan : (p : PlanFields) (n levels : ℕ) (fed store : List ℕ) → IsPlan p
    → n * p.settings.data_block ≤ length fed → length fed ≤ p.wanted
    → HasOpenBlocks p.settings (first_blocks p.settings n fed) 0 levels n store
    → HasOpenBlocks p.settings (data_blocks p fed) 0 levels n store
first_blocks-plan p n levels fed store planned enough most h = λ l from to.
    h l from to ∙ open-same p n fed planned.valid planned.blocks_are enough most l

pub plan-first_blocks : (p : PlanFields) (n levels : ℕ) (fed store : List ℕ) → IsPlan p
    → n * p.settings.data_block ≤ length fed → length fed ≤ p.wanted
    → HasOpenBlocks p.settings (data_blocks p fed) 0 levels n store
    → HasOpenBlocks p.settings (first_blocks p.settings n fed) 0 levels n store
plan-first_blocks p n levels fed store planned enough most h = λ l from to.
    h l from to ∙ sym (open-same p n fed planned.valid planned.blocks_are enough most l)
