-- A block that has closed depends on the data before it alone.
use Rattle.std.proofs.Common.{◌≡◌, ℕ, zero, suc, ◌+◌, ◌*◌, ◌^◌, ◌<◌, ◌≤◌, min, List, [], get_or, length, map, arith, sym, ◌∙◌, ap, length-drop}
use Rattle.std.proofs.{lemmas.List.{length-map, length-take, get_or-map, ext_get_or, places}, Math.Nat.{pow-zero, pow-suc, one-le-pow}}
use Rattle.verity_blocks.specs.{ClosingOrder.{closed_after, times}, TreeOnDevice.tree_block, Levels.{hash_block_of, blocks_up}}
use Rattle.{verity_blocks.proofs.{Order.ClosesOnce.closed_time, Levels.{LevelCounts.length-blocks_up, CutBlocks.get_or-pack}}, std.specs.Int.div_ceil}
use Rattle.{verity_plan.{specs.Settings.{TreeSettingsFields, hash, fan}, proofs.CountLemmas.{div_ceil-div_ceil, mul_le}}, std.specs.Fork.slice_chunk}

-- two runs with the same elements are one
pub slice_chunk-same : (xs ys : List (List ℕ)) (size j : ℕ) → length xs ≡ length ys
    → ((k : ℕ) → k < j * size + size → k < length xs → get_or xs k [] ≡ get_or ys k [])
    → slice_chunk xs size j ≡ slice_chunk ys size j
slice_chunk-same xs ys size j same each =
    ext_get_or [] (slice_chunk xs size j) (slice_chunk ys size j) (simp (length-take, length-drop, same))
    (λ m h. grind (arith, places, each (j * size + m)))

-- a block depends on the data blocks before its closing time alone
pub blocks_up-prefix : (s : TreeSettingsFields) (xs ys : List (List ℕ)) (i l j : ℕ) → 0 < fan s → length xs ≡ length ys
    → ((k : ℕ) → k < i → get_or xs k [] ≡ get_or ys k []) → j < div_ceil (length xs) (fan s ^ l)
    → min ((j + 1) * fan s ^ l) (length xs) ≤ i → get_or (blocks_up s xs l) j [] ≡ get_or (blocks_up s ys l) j []
unfolding blocks_up
blocks_up-prefix s xs ys i zero j pos same each below time =
    let inside = simp pow-zero at below in
    let sooner = simp pow-zero at time in
    each j (omega (arith, inside, sooner))
blocks_up-prefix s xs ys i (suc l) j pos same each below time =
    let f = fan s in
    let width = f ^ l in
    let before = blocks_up s xs l in
    let after = blocks_up s ys l in
    let count : length (map (hash s) before) ≡ div_ceil (length xs) width = simp length-map (length-blocks_up s xs l pos) in
    let other : length (map (hash s) after) ≡ div_ceil (length xs) width =
    simp length-map (length-blocks_up s ys l pos ∙ ap (λ (n : ℕ). div_ceil n width) (sym same)) in
    let whole : div_ceil (length xs) (f ^ suc l) ≡ div_ceil (div_ceil (length xs) width) f =
    ap (div_ceil (length xs)) (pow-suc f l) ∙ sym (div_ceil-div_ceil (length xs) width f (one-le-pow l f pos) pos) in
    let here : j < div_ceil (div_ceil (length xs) width) f = rw (← whole) below in
    get_or-pack s (map (hash s) before) j (rw count here)
    ∙ ap (hash_block_of s)
    (slice_chunk-same (map (hash s) before) (map (hash s) after) f j (count ∙ sym other)
    (λ k low within.
    let inside : k < length before = omega (arith, within, length-map before (hash s)) in
    let beside : k < length after = omega (arith, within, count, other, length-map after (hash s)) in
    let sooner : min ((k + 1) * width) (length xs) ≤ i =
    omega (
      arith,
      time,
      mul_le (k + 1) ((j + 1) * f) width (omega (arith, low)),
      ap (λ (n : ℕ). (j + 1) * n) (pow-suc f l),
    ) in
    get_or-map (hash s) before k [] [] inside
    ∙ ap (hash s) (blocks_up-prefix s xs ys i l k pos same each (omega (arith, within, count)) sooner)
    ∙ sym (get_or-map (hash s) after k [] [] beside)))
    ∙ sym (get_or-pack s (map (hash s) after) j (rw other here))

-- what has closed after i data blocks depends on these alone
pub closed-prefix : (s : TreeSettingsFields) (xs ys : List (List ℕ)) (i l j : ℕ) → 0 < fan s → length xs ≡ length ys
    → i ≤ length xs
    → ((k : ℕ) → k < i → get_or xs k [] ≡ get_or ys k []) → 0 < times l j (closed_after (fan s) (length xs) i)
    → tree_block s xs l j ≡ tree_block s ys l j
closed-prefix s xs ys i l j pos same most each some =
    let block = closed_time (fan s) (length xs) l j i pos most some in
    blocks_up-prefix s xs ys i (l + 1) j pos same each block.0.index_below block.1
