-- The true chain of a data block: each block's hash is the digest in its slot of the block above, and the last one's
-- the root.
use Rattle.std.proofs.Common.{◌≡◌, ℕ, zero, suc, ◌+◌, ◌*◌, ◌/◌, ◌%◌, ◌^◌, ◌<◌, ◌≤◌, List, [], ◌∷◌, ◌++◌, get_or, take, drop, length, map, arith, sym}
use Rattle.std.{proofs.{Common.{refl, ◌∙◌, ap, length-drop, append_assoc}, lemmas.Grind.common_steps}, specs.{Fork.slice_chunk, List.flat_map}}
use Rattle.std.proofs.lemmas.{List.{drop-map, length-take, take-map, take_at, FromFn.get_or-map-range_with_len}, Nat.{div-add-mod', mod_below}}
use Rattle.{std.proofs.Math.{Nat.{div-eq_of_lt, mul-le-mul_right}, Seq.drop-append-add}, verity_pass.specs.{Paths.true_chain, Verdicts.digest_in}}
use Rattle.verity_plan.{specs.{Plans.{IsPlan, PlanFields, level_count}, PlanCounts.level_count_of}, proofs.FanLemmas.{fan-some, fan-two}}
use Rattle.verity_plan.{specs.Settings.{TreeSettingsFields, digest_len, fan, hash, slot, slot_width}, proofs.FitLemmas.{digest-slot, fan-fits}}
use Rattle.verity_plan.proofs.{CountLemmas.IsLevelCount-level_count, IndexLemmas.{quotient-below, quotient-next}}
use Rattle.verity_blocks.proofs.Levels.{CutBlocks.{length-cut, length-with_zeros}, LevelCounts.height-level_count}
use Rattle.verity_blocks.proofs.OpenBlocks.{OpenBlock.{block-up, length-hash, length-slots}, DigestsInTurn.{index-first, level_digest-below}}
use Rattle.verity_blocks.specs.Levels.{block_at, cut, data_blocks, hash_block_of, blocks_up, root}

-- the true chain, by levels up
pub true_chain-blocks_up : (s : TreeSettingsFields) (blocks : List (List ℕ)) (i l : ℕ)
    → true_chain s blocks i l ≡ get_or (blocks_up s blocks l) (i / fan s ^ l) []
unfolding blocks_up
true_chain-blocks_up s blocks i zero = ap (λ (n : ℕ). get_or blocks n []) (index-first i (fan s))
true_chain-blocks_up s blocks i (suc l) =
    let e : l + 1 ≡ suc l = omega arith in ap (λ (k : ℕ). get_or (blocks_up s blocks k) (i / fan s ^ k) []) e

-- a digest is found in its slot, whatever comes after the slots
slot-at : (s : TreeSettingsFields) (xs : List (List ℕ)) (after : List ℕ) (t : ℕ) → t < length xs
    → take (digest_len s) (drop (t * slot_width s) (flat_map (slot s) (map (hash s) xs) ++ after)) ≡ hash s (get_or xs t [])
slot-at s [] after t below = absurd (omega arith)
slot-at s (x ∷ xs) after zero below =
    let start : 0 * slot_width s ≡ 0 = omega arith in
    rw start (simp append_assoc (take_at (hash s x) _ (digest_len s) (length-hash s x)))
slot-at s (x ∷ xs) after (suc t) below =
    let wide = length-with_zeros (slot_width s) (hash s x) (omega (arith, length-hash s x, digest-slot s)) in
    let next : suc t * slot_width s ≡ length (slot s (hash s x)) + t * slot_width s = omega (arith, wide) in
    let rest = flat_map (slot s) (map (hash s) xs) in
    rw (next, append_assoc (slot s (hash s x)) rest after, drop-append-add (slot s (hash s x)))
    (slot-at s xs after t (omega arith))

-- a hash block of the true chain holds the digests of the blocks that it stands above
true_chain-holds : (s : TreeSettingsFields) (blocks : List (List ℕ)) (i l : ℕ) → i < length blocks
    → true_chain s blocks i (suc l)
    ≡ hash_block_of s (map (hash s) (slice_chunk (blocks_up s blocks l) (fan s) (i / fan s ^ l / fan s)))
true_chain-holds s blocks i l below =
    let q = i / fan s ^ l in
    let xs = blocks_up s blocks l in
    let start = q / fan s * fan s in
    ap (λ (n : ℕ). get_or (blocks_up s blocks (l + 1)) n []) (quotient-next (fan s) i l)
    ∙ block-up s blocks l (q / fan s)
    (quotient-below q (length xs) (fan s) (fan-some s) (level_digest-below s blocks i l (fan-some s) below))
    ∙ ap (hash_block_of s)
    (ap (take (fan s)) (drop-map (hash s) start xs) ∙ take-map (hash s) (fan s) (drop start xs))

-- the true chain holds at each level
pub true_chain-up : (s : TreeSettingsFields) (blocks : List (List ℕ)) (i l : ℕ) → i < length blocks
    → hash s (true_chain s blocks i l) ≡ digest_in s (true_chain s blocks i (suc l)) (i / fan s ^ l % fan s)
true_chain-up s blocks i l below =
    let f = fan s in
    let q = i / f ^ l in
    let xs = blocks_up s blocks l in
    let here = level_digest-below s blocks i l (fan-some s) below in
    let split : q / f * f + q % f ≡ q = div-add-mod' q f in
    let low : q % f < f = mod_below q f (fan-some s) in
    let run = slice_chunk xs f (q / f) in
    let within : q % f < length run =
    omega (arith, length-take f (drop (q / f * f) xs), length-drop (q / f * f) xs, split, low, here) in
    let element : get_or run (q % f) [] ≡ get_or xs q [] = grind (arith, common_steps, split, low) in
    ap (hash s) (true_chain-blocks_up s blocks i l ∙ sym element)
    ∙ sym (ap (λ (ys : List ℕ). digest_in s ys (q % f)) (true_chain-holds s blocks i l below)
    ∙ slot-at s run _ (q % f) within)

-- and at the top
pub true_chain-root : (s : TreeSettingsFields) (blocks : List (List ℕ)) (i : ℕ) → 2 ≤ fan s → i < length blocks
    → hash s (true_chain s blocks i (level_count (fan s) (length blocks))) ≡ root s blocks
unfolding root
true_chain-root s blocks i two below =
    let levels = level_count (fan s) (length blocks) in
    let enough = (IsLevelCount-level_count (fan s) (length blocks) two).enough in
    let less : i < fan s ^ levels = omega (arith, enough, below) in
    rw (
      true_chain-blocks_up s blocks i levels,
      div-eq_of_lt less,
      height-level_count s blocks (omega (arith, two)),
    ) refl

-- a block of the tree on the way up has a hash block's length
pub length-true_chain : (s : TreeSettingsFields) (blocks : List (List ℕ)) (i l : ℕ) → digest_len s ≤ slot_width s
    → 0 < fan s
    → fan s * slot_width s ≤ s.hash_block
    → i < length blocks → length (true_chain s blocks i (suc l)) ≡ s.hash_block
length-true_chain s blocks i l fits some room below =
    let f = fan s in
    let q = i / f ^ l in
    let xs = blocks_up s blocks l in
    let run = slice_chunk xs f (q / f) in
    let few : length run ≤ f = omega (arith, length-take f (drop (q / f * f) xs)) in
    ap length (true_chain-holds s blocks i l below)
    ∙ length-with_zeros s.hash_block (flat_map (slot s) (map (hash s) run))
    (omega (arith, length-slots s run fits, mul-le-mul_right (slot_width s) few, room))

-- a data block has its length
pub length-data : (s : TreeSettingsFields) (n wanted : ℕ) (bytes : List ℕ) (i : ℕ) → i < n
    → length (get_or (cut s n wanted bytes) i []) ≡ s.data_block
unfolding cut
length-data s n wanted bytes i below =
    let all = take wanted bytes in
    ap length (get_or-map-range_with_len (block_at s.data_block all) 0 n i i [] below (omega arith))
    ∙ length-with_zeros s.data_block (slice_chunk all s.data_block i)
    (omega (arith, length-take s.data_block (drop (i * s.data_block) all)))

-- ---- of a plan's data blocks

-- the true chain holds at each level
pub true_chain-next : (p : PlanFields) (bytes : List ℕ) (i l : ℕ) → IsPlan p → i < p.blocks
    → hash p.settings (true_chain p.settings (data_blocks p bytes) i l)
    ≡ digest_in p.settings (true_chain p.settings (data_blocks p bytes) i (suc l)) (i / fan p.settings ^ l % fan p.settings)
true_chain-next p bytes i l planned below =
    true_chain-up p.settings (data_blocks p bytes) i l
    (omega (arith, below, length-cut p.settings p.blocks p.wanted bytes))

-- and at the top
pub true_chain-top : (p : PlanFields) (bytes : List ℕ) (i : ℕ) → IsPlan p → i < p.blocks
    → hash p.settings (true_chain p.settings (data_blocks p bytes) i (level_count_of p))
    ≡ root p.settings (data_blocks p bytes)
true_chain-top p bytes i planned below =
    let s = p.settings in
    let many = length-cut s p.blocks p.wanted bytes in
    ap (λ (n : ℕ). hash s (true_chain s (data_blocks p bytes) i (level_count (fan s) n))) (sym many)
    ∙ true_chain-root s (data_blocks p bytes) i (fan-two s planned.valid) (omega (arith, below, many))

-- each of its hash blocks has a hash block's length
pub length-true_block : (p : PlanFields) (bytes : List ℕ) (i l : ℕ) → IsPlan p → i < p.blocks
    → length (true_chain p.settings (data_blocks p bytes) i (suc l)) ≡ p.settings.hash_block
length-true_block p bytes i l planned below =
    length-true_chain p.settings (data_blocks p bytes) i l (digest-slot p.settings) (fan-some p.settings)
    (fan-fits p.settings planned.valid) (omega (arith, below, length-cut p.settings p.blocks p.wanted bytes))
