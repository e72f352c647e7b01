-- The levels above a part's data are parts of the levels of the whole tree.
use Rattle.std.proofs.Common.{◌≡◌, ℕ, zero, suc, ◌+◌, ◌-◌, ◌*◌, ◌^◌, ◌<◌, ◌≤◌, min, List, [], get_or, length, map, take, drop, arith, sym, ◌∙◌, ap}
use Rattle.std.proofs.{Common.{inl, inr, length-drop}, lemmas.{Bool.cases_lt, List.FromFn.get_or-map-range_with_len}, Math.Nat.{pow-suc, pow-zero}}
use Rattle.std.proofs.lemmas.List.{drop-drop, drop-map, ext_get_or, get_or-drop, get_or-take, length-take, take-map, take-take, take_all}
use Rattle.verity_plan.{specs.{Plans.{IsPlan, PlanFields}, Settings.{TreeSettingsFields, fan, hash}}, proofs.FanLemmas.fan-some}
use Rattle.{verity_plan.proofs.CountLemmas.{div_ceil-le, le-div_ceil, mul_le}, std.specs.{Fork.slice_chunk, Int.div_ceil}}
use Rattle.verity_blocks.{specs.Levels.{block_at, blocks_up, cut, data_blocks, hash_block_of, pack}, proofs.Levels.LevelCounts.length-pack}
use Rattle.{verity_blocks.proofs.Levels.CutBlocks.{get_or-pack, length-cut, run-of_front}, verity_hash.specs.Hashing.with_zeros}
use Rattle.verity_builders.specs.Parts.{HasPart, bytes_of_part, digest_of_part, blocks_in_part, plan_of_part}

-- a run of a run
chunk-in_chunk : {A : Type 0} (xs : List A) (count size part k : ℕ) → k < count
    → slice_chunk (slice_chunk xs (count * size) part) size k ≡ slice_chunk xs size (part * count + k)
chunk-in_chunk xs count size part k below =
    let start = part * (count * size) in
    let room : k * size + size ≤ count * size = omega (arith, mul_le (k + 1) count size (omega (arith, below))) in
    let at : start + k * size ≡ (part * count + k) * size = omega arith in
    run-of_front (take (count * size) (drop start xs)) (drop start xs) size k
    (take-take (k * size + size) (count * size) (drop start xs) room)
    ∙ ap (take size) (drop-drop (k * size) start xs ∙ ap (λ (n : ℕ). drop n xs) at)

-- how many groups of a size an aligned run has, if all have so many
groups-most : (n size count part all : ℕ) → n ≤ all * size
    → min (count * size) (n - part * (count * size)) ≤ min count (all - part * count) * size
groups-most n size count part all covers = elim (cases_lt count (all - part * count)) [
  | inl less ↦
      let is : min count (all - part * count) ≡ count = omega arith in
      rw is (omega arith)
  | inr more ↦ elim (cases_lt all (part * count)) [
    | inl short ↦ omega (arith, mul_le all (part * count) size (omega arith))
    | inr long ↦
        let rest = all - part * count in
        let is : min count rest ≡ rest = omega arith in
        let split : part * count + rest ≡ all = omega arith in
        rw is (omega (arith, ap (λ (m : ℕ). m * size) split, covers))
  ]
]

groups-least : (n size count part own : ℕ) → 0 < size → min (count * size) (n - part * (count * size)) ≤ own * size
    → own < count → n ≤ (part * count + own) * size
groups-least n size count part own some enough less =
    omega (arith, mul_le (own + 1) count size (omega arith))

capped : (own count all first : ℕ) → own ≤ min count (all - first) → (own < count → all ≤ first + own)
    → own ≡ min count (all - first)
capped own count all first most least = elim (cases_lt own count) [
  | inl less ↦ omega (arith, least less)
  | inr full ↦ omega arith
]

pub div_ceil-chunk : (n size count part : ℕ) → 0 < size
    → div_ceil (min (count * size) (n - part * (count * size))) size ≡ min count (div_ceil n size - part * count)
div_ceil-chunk n size count part some =
    let few = min (count * size) (n - part * (count * size)) in
    let all = div_ceil n size in
    let own = div_ceil few size in
    let most : own ≤ min count (all - part * count) =
    div_ceil-le few size (min count (all - part * count)) some
    (groups-most n size count part all (le-div_ceil n size all some (omega arith))) in
    let least : own < count → all ≤ part * count + own = λ less.
    div_ceil-le n size (part * count + own) some
    (groups-least n size count part own some (le-div_ceil few size own some (omega arith)) less) in
    capped own count all (part * count) most least

-- the hash blocks above an aligned run of digests are a run of those above all digests
pack-chunk : (s : TreeSettingsFields) (digests : List (List ℕ)) (count part : ℕ) → 0 < fan s
    → pack s (slice_chunk digests (count * fan s) part) ≡ slice_chunk (pack s digests) count part
pack-chunk s digests count part some =
    let f = fan s in
    let own = slice_chunk digests (count * f) part in
    let long : length own ≡ min (count * f) (length digests - part * (count * f)) =
    length-take (count * f) (drop (part * (count * f)) digests)
    ∙ ap (min (count * f)) (length-drop (part * (count * f)) digests) in
    let many : length (pack s own) ≡ min count (div_ceil (length digests) f - part * count) =
    length-pack s own ∙ ap (λ (n : ℕ). div_ceil n f) long ∙ div_ceil-chunk (length digests) f count part some in
    let same : length (slice_chunk (pack s digests) count part)
    ≡ min count (div_ceil (length digests) f - part * count) =
    length-take count (drop (part * count) (pack s digests))
    ∙ ap (min count) (length-drop (part * count) (pack s digests)
    ∙ ap (λ (n : ℕ). n - part * count) (length-pack s digests)) in
    ext_get_or [] (pack s own) (slice_chunk (pack s digests) count part) (many ∙ sym same) (λ k low.
    let inside : k < count = omega (arith, low, many) in
    let below : part * count + k < div_ceil (length digests) f = omega (arith, low, many) in
    get_or-pack s own k (omega (arith, low, length-pack s own))
    ∙ ap (hash_block_of s) (chunk-in_chunk digests count f part k inside)
    ∙ sym (get_or-take count (drop (part * count) (pack s digests)) k [] inside
    ∙ get_or-drop (part * count) (pack s digests) k []
    ∙ get_or-pack s digests (part * count + k) below))

-- a part's data blocks are a run of all data blocks
part-blocks : (p : PlanFields) (level part : ℕ) (bytes : List ℕ) → HasPart p level part
    → data_blocks (plan_of_part p level part) (bytes_of_part p level part bytes)
    ≡ slice_chunk (data_blocks p bytes) (blocks_in_part p level) part
unfolding cut
part-blocks p level part bytes has =
    let s = p.settings in
    let d = s.data_block in
    let size = blocks_in_part p level in
    let q = plan_of_part p level part in
    let covered = take p.wanted bytes in
    let own = bytes_of_part p level part bytes in
    let short : length own ≤ q.wanted =
    omega (
      arith,
      length-take (size * d) (drop (part * (size * d)) covered),
      length-drop (part * (size * d)) covered,
      length-take p.wanted bytes,
    ) in
    let many : length (data_blocks q own) ≡ q.blocks = length-cut s q.blocks q.wanted own in
    let all : length (data_blocks p bytes) ≡ p.blocks = length-cut s p.blocks p.wanted bytes in
    let same : length (slice_chunk (data_blocks p bytes) size part) ≡ q.blocks =
    length-take size (drop (part * size) (data_blocks p bytes))
    ∙ ap (min size) (length-drop (part * size) (data_blocks p bytes) ∙ ap (λ (n : ℕ). n - part * size) all) in
    ext_get_or [] (data_blocks q own) (slice_chunk (data_blocks p bytes) size part) (many ∙ sym same) (λ k low.
    let below : k < q.blocks = omega (arith, low, many) in
    let inside : k < size = omega (arith, below) in
    let within : part * size + k < p.blocks = omega (arith, below) in
    get_or-map-range_with_len (block_at d (take q.wanted own)) 0 q.blocks k k [] below (omega arith)
    ∙ ap (λ (xs : List ℕ). block_at d xs k) (take_all q.wanted own short)
    ∙ ap (with_zeros d) (chunk-in_chunk covered size d part k inside)
    ∙ sym (get_or-take size (drop (part * size) (data_blocks p bytes)) k [] inside
    ∙ get_or-drop (part * size) (data_blocks p bytes) k []
    ∙ get_or-map-range_with_len (block_at d covered) 0 p.blocks (part * size + k) (part * size + k) [] within
    (omega arith)))

-- the blocks that stand so many levels above a part's data are a run of those of the whole tree
pub part-level : (p : PlanFields) (level part l : ℕ) (bytes : List ℕ) → IsPlan p → HasPart p level part → l ≤ level
    → blocks_up p.settings (data_blocks (plan_of_part p level part) (bytes_of_part p level part bytes)) l
    ≡ slice_chunk (blocks_up p.settings (data_blocks p bytes) l) (fan p.settings ^ (level - l)) part
unfolding blocks_up
part-level p level part zero bytes planned has below =
    let all : level ≡ level - 0 = omega arith in
    part-blocks p level part bytes has
    ∙ ap (λ (n : ℕ). slice_chunk (data_blocks p bytes) (fan p.settings ^ n) part) all
part-level p level part (suc l) bytes planned has below =
    let s = p.settings in
    let f = fan s in
    let count = f ^ (level - suc l) in
    let blocks = blocks_up s (data_blocks p bytes) l in
    let next : suc (level - suc l) ≡ level - l = omega arith in
    let wide : f ^ (level - l) ≡ count * f = ap (λ (n : ℕ). f ^ n) (sym next) ∙ pow-suc f (level - suc l) in
    ap (λ (xs : List (List ℕ)). pack s (map (hash s) xs))
    (part-level p level part l bytes planned has (omega arith) ∙ ap (λ (n : ℕ). slice_chunk blocks n part) wide)
    ∙ ap (pack s) (sym (take-map (hash s) (count * f) (drop (part * (count * f)) blocks))
    ∙ ap (take (count * f)) (sym (drop-map (hash s) (part * (count * f)) blocks)))
    ∙ pack-chunk s (map (hash s) blocks) count part (fan-some s)

-- and each of them is one of the whole tree's
pub part-block : (p : PlanFields) (level part l k : ℕ) (bytes : List ℕ) → IsPlan p → HasPart p level part → l ≤ level
    → k < fan p.settings ^ (level - l)
    → get_or (blocks_up p.settings (data_blocks (plan_of_part p level part) (bytes_of_part p level part bytes)) l) k []
    ≡ get_or (blocks_up p.settings (data_blocks p bytes) l) (part * fan p.settings ^ (level - l) + k) []
part-block p level part l k bytes planned has below inside =
    let width = fan p.settings ^ (level - l) in
    let blocks = blocks_up p.settings (data_blocks p bytes) l in
    ap (λ (xs : List (List ℕ)). get_or xs k []) (part-level p level part l bytes planned has below)
    ∙ get_or-take width (drop (part * width) blocks) k [] inside
    ∙ get_or-drop (part * width) blocks k []

-- the digest of the one block that is left above a part's data is the part's in the whole tree
pub part-digest : (p : PlanFields) (level part : ℕ) (bytes : List ℕ) → IsPlan p → HasPart p level part
    → hash p.settings (get_or (blocks_up p.settings
    (data_blocks (plan_of_part p level part) (bytes_of_part p level part bytes)) level) 0 [])
    ≡ digest_of_part p level part bytes
part-digest p level part bytes planned has =
    let f = fan p.settings in
    let none : level - level ≡ 0 = omega arith in
    let one : f ^ (level - level) ≡ 1 = ap (λ (n : ℕ). f ^ n) none ∙ pow-zero f in
    let at : part * f ^ (level - level) + 0 ≡ part = rw one (omega arith) in
    let first : 0 < f ^ (level - level) = rw one (omega arith) in
    ap (hash p.settings) (part-block p level part level 0 bytes planned has (omega arith) first
    ∙ ap (λ (n : ℕ). get_or (blocks_up p.settings (data_blocks p bytes) level) n []) at)
