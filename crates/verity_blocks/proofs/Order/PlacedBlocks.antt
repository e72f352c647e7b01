-- Bytes that are put on a device, and blocks of a tree at their places.
use Rattle.std.proofs.Common.{◌≡◌, ℕ, ◌+◌, ◌-◌, ◌*◌, ◌<◌, ◌≤◌, ◌⊎◌, List, length, take, drop, get_or, rules, arith, sym, ◌∙◌, ap, inl, inr}
use Rattle.std.{proofs.{Common.{length-append, length-drop, map, mul-le-mul_right, subst}, lemmas.Bool.cases_order}, specs.List.flat_map}
use Rattle.std.{proofs.lemmas.List.{length-replicate, length-take, places, same_lists, drop-map, take-map}, specs.Fork.slice_chunk}
use Rattle.{verity_io.specs.Writing.put, verity_blocks.proofs.{Levels.LevelCounts.groups-under, OpenBlocks.OpenBlock.{block-up, length-slots}}}
use Rattle.verity_plan.specs.{Plans.{IsTreeBlock, place, start_byte}, Settings.{TreeSettingsFields, fan, slot_width, hash, slot}}
use Rattle.verity_plan.proofs.{CountLemmas.mul_le, FanLemmas.fan-some, FitLemmas.digest-slot, PlaceLemmas.PlacesAreOnce-all}
use Rattle.verity_blocks.{specs.{TreeOnDevice.tree_block, Levels.{blocks_up, hash_block_of}}, proofs.Levels.CutBlocks.length-with_zeros}

pub length-put : (device : List ℕ) (at : ℕ) (bytes : List ℕ)
    → length (put device at bytes) ≡ at + length bytes + (length device - (at + length bytes))
length-put device at bytes = simp (length-append, length-take, length-replicate, length-drop) (omega arith)

-- bytes that are put stand there
pub put-here : (device : List ℕ) (at : ℕ) (bytes : List ℕ)
    → take (length bytes) (drop at (put device at bytes)) ≡ bytes
put-here device at bytes = same_lists _ _ (search (rules, places)) (λ k d h. grind (arith, places))

-- bytes beside them stay, or are zeros past the old end
pub put-byte : (device : List ℕ) (at : ℕ) (bytes : List ℕ) (i : ℕ) → (i < at) ⊎ (at + length bytes ≤ i)
    → get_or (put device at bytes) i 0 ≡ get_or device i 0
put-byte device at bytes i apart = search (rules, places)

-- and so does a range of them
pub put-beside : (device : List ℕ) (at : ℕ) (bytes : List ℕ) (a n : ℕ) → a + n ≤ length device
    → (a + n ≤ at) ⊎ (at + length bytes ≤ a) → take n (drop a (put device at bytes)) ≡ take n (drop a device)
put-beside device at bytes a n within apart = same_lists _ _ (search (rules, places)) (λ k d h. grind (arith, places))

-- bytes of a device that are as many as a range has are the whole range
pub range-within : (device bytes : List ℕ) (a n : ℕ) → 0 < n → length bytes ≡ n → take n (drop a device) ≡ bytes
    → a + n ≤ length device
range-within device bytes a n some long here =
    omega (arith, ap length here, length-take n (drop a device), length-drop a device, long, some)

-- blocks of the tree are one, or don't overlap
pub apart : (s : TreeSettingsFields) (n base l j m k : ℕ) → IsTreeBlock (fan s) n l j → IsTreeBlock (fan s) n m k
    → ((m ≡ l) × (k ≡ j)) ⊎ ((start_byte s n base l j + s.hash_block ≤ start_byte s n base m k)
    ⊎ (start_byte s n base m k + s.hash_block ≤ start_byte s n base l j))
apart s n base l j m k here there =
    let p = place (fan s) n base l j in
    let q = place (fan s) n base m k in
    elim (cases_order p q) [
      | inl same ↦ inl ((PlacesAreOnce-all (fan s) n base).once m k l j there here (sym same))
      | inr (inl less) ↦ inr (inl (omega (arith, mul_le (p + 1) q s.hash_block (omega (arith, less)))))
      | inr (inr more) ↦ inr (inr (omega (arith, mul_le (q + 1) p s.hash_block (omega (arith, more)))))
    ]

-- a block of the tree has a hash block's length
pub length-tree_block : (s : TreeSettingsFields) (blocks : List (List ℕ)) (l j : ℕ)
    → fan s * slot_width s ≤ s.hash_block
    → IsTreeBlock (fan s) (length blocks) l j → length (tree_block s blocks l j) ≡ s.hash_block
length-tree_block s blocks l j room here =
    let f = fan s in
    let xs = blocks_up s blocks l in
    let run = slice_chunk xs f j in
    let same = groups-under s blocks l (fan-some s) in
    let few : length run ≤ f = omega (arith, length-take f (drop (j * f) xs)) in
    ap length (block-up s blocks l j (subst (λ (n : ℕ). j < n) same here.index_below)
    ∙ ap (hash_block_of s) (ap (take f) (drop-map (hash s) (j * f) xs) ∙ take-map (hash s) f (drop (j * f) xs)))
    ∙ length-with_zeros s.hash_block (flat_map (slot s) (map (hash s) run))
    (omega (arith, length-slots s run (digest-slot s), mul-le-mul_right (slot_width s) few, room))
