-- A device on which the tree's blocks were put at their places holds the whole tree.
use Rattle.std.proofs.Common.{◌≡◌, ℕ, ◌+◌, ◌*◌, ◌<◌, ◌≤◌, ◌⊎◌, List, [], ◌∷◌, length, take, drop, arith, sym, subst, ◌∙◌, ap, refl, inl, inr}
use Rattle.{verity_io.specs.Writing.put, verity_blocks.specs.{TreeOnDevice.{HoldsTree, tree_block}, TreeWriting.{device_with, tree_on_device}}}
use Rattle.verity_blocks.{proofs.Levels.CutBlocks.length-cut, specs.{ClosingOrder.{BlockIndex, closed_after, times}, Levels.{data_blocks, root}}}
use Rattle.verity_blocks.proofs.Order.{TimesCounted.{times-cases, times-first, times-more}, ClosesOnce.ClosesOnce-all}
use Rattle.verity_blocks.proofs.Order.PlacedBlocks.{put-here, put-beside, range-within, apart, length-tree_block}
use Rattle.verity_plan.specs.{Plans.{IsPlan, IsTreeBlock, PlanFields, start_byte, start_byte_of}, Settings.{TreeSettingsFields, fan, slot_width}}
use Rattle.verity_plan.proofs.{CountLemmas.mul_le, FanLemmas.fan-some, FitLemmas.fan-fits, PlaceLemmas.PlacesAreOnce-all, PlanLemmas.some_hash}

-- a block that is put, or stands there already, stands there when all are put
stands : (s : TreeSettingsFields) (blocks : List (List ℕ)) (base l j : ℕ) → 0 < s.hash_block
    → fan s * slot_width s ≤ s.hash_block
    → IsTreeBlock (fan s) (length blocks) l j → (all : List BlockIndex) (device : List ℕ)
    → ((m k : ℕ) → 0 < times m k all → IsTreeBlock (fan s) (length blocks) m k)
    → (0 < times l j all)
    ⊎ (take s.hash_block (drop (start_byte s (length blocks) base l j) device) ≡ tree_block s blocks l j)
    → take s.hash_block (drop (start_byte s (length blocks) base l j) (device_with s blocks base all device))
    ≡ tree_block s blocks l j
unfolding device_with
stands s blocks base l j some room here [] device tree (inl put) = absurd (omega (arith, put))
stands s blocks base l j some room here [] device tree (inr there) = there
stands s blocks base l j some room here (next ∷ rest) device tree held =
    let n = length blocks in
    let bytes = tree_block s blocks next.level next.index in
    let at = start_byte s n base next.level next.index in
    let start = start_byte s n base l j in
    let own = tree next.level next.index (times-first next rest) in
    let long : length bytes ≡ s.hash_block = length-tree_block s blocks next.level next.index room own in
    let goes_on = stands s blocks base l j some room here rest (put device at bytes)
    (λ m k more. tree m k (omega (arith, more, times-more m k next rest))) in
    let placed = λ (same : (next.level ≡ l) × (next.index ≡ j)).
    goes_on (inr (rw (← same.0, ← same.1)
    (ap (λ (k : ℕ). take k (drop at (put device at bytes))) (sym long) ∙ put-here device at bytes))) in
    elim held [
      | inl once ↦ elim (times-cases l j next rest once) [ inl same ↦ placed same | inr more ↦ goes_on (inl more) ]
      | inr there ↦ elim (apart s n base l j next.level next.index here own) [
        | inl same ↦ placed same
        | inr beside ↦
            let within = range-within device (tree_block s blocks l j) start s.hash_block some
            (length-tree_block s blocks l j room here) there in
            goes_on (inr (put-beside device at bytes start s.hash_block within (rw long beside) ∙ there))
      ]
    ]

-- a device with the whole tree put on it holds it
pub put-holds : (p : PlanFields) (bytes device : List ℕ) → IsPlan p → p.wanted ≤ length bytes
    → HoldsTree p (tree_on_device p (data_blocks p bytes) device) bytes (root p.settings (data_blocks p bytes))
put-holds p bytes device planned enough =
    let s = p.settings in
    let blocks = data_blocks p bytes in
    let many : length blocks ≡ p.blocks = length-cut s p.blocks p.wanted bytes in
    let order = closed_after (fan s) p.blocks p.blocks in
    let once = ClosesOnce-all (fan s) p.blocks (fan-some s) in
    record {
      enough = enough;
      stands = λ l j here.
          subst (λ (n : ℕ). take s.hash_block
          (drop (start_byte s n p.base l j) (device_with s blocks p.base order device)) ≡ tree_block s blocks l j) many
          (stands s blocks p.base l j (some_hash p planned) (fan-fits s planned.valid) (rw many here) order device
          (λ m k some. rw many (once.only m k some)) (inl (omega (arith, once.once l j here))));
      root_is = refl;
    }

-- what is put before the hash area leaves the tree there
pub put-before : (p : PlanFields) (device bytes digest : List ℕ) (at : ℕ) (other : List ℕ) → IsPlan p
    → at + length other ≤ p.base * p.settings.hash_block
    → HoldsTree p device bytes digest → HoldsTree p (put device at other) bytes digest
put-before p device bytes digest at other planned before holds =
    let s = p.settings in
    let many = length-cut s p.blocks p.wanted bytes in
    record {
      enough = holds.enough;
      stands = λ l j here.
          let long = length-tree_block s (data_blocks p bytes) l j (fan-fits s planned.valid) (rw many here) in
          let start = start_byte_of p l j in
          let first : p.base * s.hash_block ≤ start =
          mul_le p.base _ s.hash_block ((PlacesAreOnce-all (fan s) p.blocks p.base).within l j here).0 in
          put-beside device at other start s.hash_block
          (range-within device _ start s.hash_block (some_hash p planned) long (holds.stands l j here))
          (inr (omega (arith, before, first)))
          ∙ holds.stands l j here;
      root_is = holds.root_is;
    }
