-- Bytes that come to the window, read or fed, and its data blocks, which come to the open blocks: none before the last
-- byte's closes a hash block.
use Rattle.std.proofs.Common.{◌≡◌, ◌≢◌, ℕ, zero, suc, ◌+◌, ◌-◌, ◌*◌, ◌/◌, ◌%◌, ◌<◌, ◌≤◌, List, [], ◌++◌, length, take, drop, replicate, arith, rules}
use Rattle.std.proofs.{Common.{sym, ◌∙◌, ap, refl, inl, inr, length-append, length-drop}, Math.Nat.{div-eq_of_lt-le, zero-div, zero-mul}}
use Rattle.std.proofs.{Math.Seq.drop-nil, lemmas.List.{append-nil, drop-append-le, drop-drop, drop_all, places, same_lists, take_all}}
use Rattle.{std.{proofs.lemmas.Nat.{div-add-mod', mod_below}, specs.Fork.slice_chunk}, verity_blocks.specs.declared.window.WindowPlace.WindowPlace}
use Rattle.verity_plan.{proofs.{FanLemmas.fan-some, CountLemmas.mul_le}, specs.{Plans.{IsPlan, PlanFields}, Settings.{TreeSettingsFields, fan, hash}}}
use Rattle.verity_blocks.specs.{ClosingOrder.{blocks_before, closed_after, closing_with}, Levels.{block_at, data_blocks}, Steps.Closing.EndsBlock}
use Rattle.verity_blocks.specs.{Steps.{Batches.HoldsDataBlocks, OpenBlocks.{HasOpenBlocks, level_digest}}, Windows.{window_blocks, window_length}}
use Rattle.verity_blocks.specs.Steps.Feeding.{HasCome, HasFed, HasWindow, IsSettled, after_windows, IsWindowPlace, first_blocks, windows_before}
use Rattle.verity_blocks.proofs.{Levels.{FirstBlocks.{first_blocks-more, first_blocks-plan}, CutBlocks.length-cut}, OpenBlocks.Reached.IsReached-zero}
use Rattle.verity_blocks.proofs.{OpenBlocks.DigestsInTurn.{HasOpenBlocks-zeros, index-first}, Windows.RowsOfWindow.{placed-in-window, window-batch}}
use Rattle.verity_blocks.proofs.{Order.ClosingInTurn.{closed_after-more, closes-none, closing-prefix}, Levels.DataBlocks.level_digest-data}
use borrow.Rule.Slice.PartMut.{put_mid}

-- a data block of the window
window-row : (p : PlanFields) (w r count : ℕ) (fed window digest : List ℕ)
    → w * window_blocks p.settings + r < p.blocks → length fed ≤ p.wanted
    → count ≡ length fed - w * window_length p.settings
    → take (length (after_windows p.settings w fed)) window ≡ after_windows p.settings w fed
    → digest ≡ hash p.settings (block_at p.settings.data_block (take count window) r)
    → digest ≡ level_digest p.settings (data_blocks p fed) (w * window_blocks p.settings + r) 0
window-row p w r count fed window digest below most many holds is =
    let s = p.settings in
    let d = s.data_block in
    let start = w * window_length s in
    let long : length (drop start fed) ≡ count = length-drop start fed ∙ sym many in
    let stood : take count window ≡ drop start fed = rw long at holds in
    let place : start + r * d ≡ (w * window_blocks s + r) * d = omega arith in
    level_digest-data s p.blocks p.wanted (w * window_blocks s + r) fed digest below
    (is ∙ rw (stood, drop-drop (r * d) start fed, place, take_all p.wanted fed most) refl)

-- where the last data block of the window ends
pub record EndsInWindow (s : TreeSettingsFields) (place : WindowPlace) : Type 0 where
  pub enough : place.bytes ≤ (place.rows + 1) * s.data_block
  pub room : (place.rows + 1) * s.data_block ≤ window_length s

pub window-end : (p : PlanFields) (count : ℕ) (place : WindowPlace) → IsPlan p → 0 < count → IsWindowPlace p count place
    → EndsInWindow p.settings place
window-end p count place planned some is =
    let s = p.settings in
    let d = s.data_block in
    let at = placed-in-window s count planned.valid some in
    let area = ap (λ (n : ℕ). n * d) is.rows_are in
    record {
      enough = omega (arith, is.bytes_are, at.end, area, at.start, ap (λ (n : ℕ). n * d) is.first_is);
      room = mul_le (place.rows + 1) (window_blocks s) d (omega (arith, is.first_is, is.rows_are, at.to));
    }

-- the rows of the window, filled with zeros up to that end
pub window-filled : (s : TreeSettingsFields) (place : WindowPlace) (end bytes : ℕ) (window zeros : List ℕ)
    → EndsInWindow s place → end ≡ (place.rows + 1) * s.data_block → bytes ≡ place.bytes
    → ((r : ℕ) → r ≤ place.rows → r * s.data_block < place.bytes) → length window ≡ window_length s
    → zeros ≡ replicate (length (take (end - bytes) (drop bytes window))) 0
    → (r : ℕ) → r ≤ place.rows
    → slice_chunk (take end (put_mid bytes (end - bytes) window zeros)) s.data_block r
    ≡ block_at s.data_block (take place.bytes window) r
window-filled s place end bytes window zeros at area here each wide are r low =
    let some = each r low in
    let last = mul_le (r + 1) (place.rows + 1) s.data_block (omega (arith, low)) in
    let enough : place.bytes ≤ end = omega (arith, area, at.enough) in
    let within : end ≤ length window = omega (arith, area, at.room, wide) in
    rw are (same_lists _ _ (search (rules, places)) (λ k d h. grind (arith, places)))

-- the data blocks of the window come to the open blocks, but the last
pub HasCome-window : (p : PlanFields) (levels : ℕ) (place : WindowPlace) (fed opened window rows after digest : List ℕ)
    → IsPlan p → 0 < length fed → length fed ≤ p.wanted → IsWindowPlace p (length fed) place
    → ((r : ℕ) → r ≤ place.rows
    → slice_chunk rows p.settings.data_block r ≡ block_at p.settings.data_block (take place.bytes window) r)
    → ((blocks : List (List ℕ)) → p.blocks ≡ length blocks
    → HoldsDataBlocks p.settings blocks place.first (place.rows + 1) rows
    → HasOpenBlocks p.settings blocks 0 levels place.first opened
    → HasOpenBlocks p.settings blocks 0 levels (place.first + (place.rows + 1) - 1) after
    × (digest ≡ level_digest p.settings blocks (place.first + (place.rows + 1) - 1) 0))
    → HasFed p.settings levels fed opened window → HasCome p levels fed after digest
HasCome-window p levels place fed opened window rows after digest planned some most is filled added h =
    let s = p.settings in
    let blocks = data_blocks p fed in
    let w = windows_before s (length fed) in
    let at = placed-in-window s (length fed) planned.valid some in
    let holds : HoldsDataBlocks s blocks place.first (place.rows + 1) rows = λ r low.
    rw is.first_is (window-row p w r place.bytes fed window (hash s (slice_chunk rows s.data_block r))
    (omega (arith, low, is.first_is, is.batch.below)) most is.bytes_are h.holds (ap (hash s) (filled r (omega (arith, low))))) in
    let before : HasOpenBlocks s blocks 0 levels place.first opened =
    rw is.first_is
    (first_blocks-plan p (w * window_blocks s) levels fed opened planned (omega (arith, at.start, at.before)) most h.stands) in
    let come = added blocks (sym (length-cut s p.blocks p.wanted fed)) holds before in
    let last : place.first + (place.rows + 1) - 1 ≡ blocks_before s (length fed) = omega (arith, is.rows_are) in
    record { stands = rw (← last) come.0; digest_is = rw (← last) come.1 }

-- a data block that isn't the last below a hash block closes none
closing-none : (f n k : ℕ) → 0 < f → k < n → ¬ EndsBlock f n k → closing_with f n k ≡ []
closing-none f n k some below stays =
    let apart : k + 1 ≢ n = λ last. stays (inr last) in
    let within : k % f + 1 ≢ f = λ full. stays (inl full) in
    let more : k + 1 < n = omega (arith, below, apart) in
    let room : k % f + 1 < f = omega (arith, within, mod_below k f some) in
    closing-prefix f n k 0 (omega arith) (λ l low. absurd (omega (arith, low)))
    (λ l high low. closes-none f n k 0 l some (IsReached-zero f k) (rw (← index-first k f) room) more high)

-- nor do several
pub closed_after-none : (f n i m : ℕ) → 0 < f → i + m ≤ n → ((k : ℕ) → i ≤ k → k < i + m → ¬ EndsBlock f n k)
    → closed_after f n (i + m) ≡ closed_after f n i
closed_after-none f n i zero some within stays = let e : i + 0 ≡ i = omega arith in ap (closed_after f n) e
closed_after-none f n i (suc m) some within stays =
    let e : i + suc m ≡ i + m + 1 = omega arith in
    let none = closing-none f n (i + m) some (omega (arith, within)) (stays (i + m) (omega arith) (omega arith)) in
    rw (e, closed_after-more, none, append-nil)
    (closed_after-none f n i m some (omega (arith, within)) (λ k from to. stays k from (omega (arith, to))))

-- nor do those before the last byte's in its window
pub closed_after-placed : (p : PlanFields) (count : ℕ) → IsPlan p → 0 < count
    → blocks_before p.settings count < p.blocks
    → closed_after (fan p.settings) p.blocks (blocks_before p.settings count)
    ≡ closed_after (fan p.settings) p.blocks (windows_before p.settings count * window_blocks p.settings)
closed_after-placed p count planned some below =
    let s = p.settings in
    let first = windows_before s count * window_blocks s in
    let rows = blocks_before s count - first in
    let place = placed-in-window s count planned.valid some in
    let split : blocks_before s count ≡ first + rows = omega (arith, place.from) in
    let batch = window-batch p count first rows planned some below refl (sym split) in
    ap (closed_after (fan s) p.blocks) split
    ∙ closed_after-none (fan s) p.blocks first rows (fan-some s) (omega (arith, split, below))
    (λ k from to. batch.none_closes k from (omega (arith, to)))

-- after windows that are full no bytes are in the window
pub HasWindow-full : (s : TreeSettingsFields) (levels windows : ℕ) (fed opened window : List ℕ)
    → length fed ≤ windows * window_length s
    → HasOpenBlocks s (first_blocks s (windows * window_blocks s) fed) 0 levels (windows * window_blocks s) opened
    → HasWindow s levels windows fed opened window
HasWindow-full s levels windows fed opened window full stands =
    record { stands = stands; holds = rw (drop_all (windows * window_length s) fed full) refl }

-- bytes that come to the window, of which there are `at`, up to its end at most: the last byte is in that window
pub windows_before-filled : (s : TreeSettingsFields) (count more : ℕ) → 0 < more
    → count % window_length s + more ≤ window_length s → windows_before s (count + more) ≡ count / window_length s
windows_before-filled s count more some within =
    let split = div-add-mod' count (window_length s) in
    div-eq_of_lt-le (window_length s) (omega (arith, split, some)) (omega (arith, split, within, some))

-- the window has them after those before
pub HasFed-filled : (s : TreeSettingsFields) (levels at : ℕ) (fed more opened before window : List ℕ)
    → at ≡ length fed % window_length s → 0 < length more → at + length more ≤ window_length s
    → take (at + length more) window ≡ take at before ++ more
    → IsSettled s levels fed opened before → HasFed s levels (fed ++ more) opened window
HasFed-filled s levels at fed more opened before window here some within filled settled =
    let wide = window_length s in
    let q = length fed / wide in
    let part = drop (q * wide) fed in
    let split : q * wide + length fed % wide ≡ length fed = div-add-mod' (length fed) wide in
    let last : windows_before s (length (fed ++ more)) ≡ q =
    rw length-append (windows_before-filled s (length fed) (length more) some (omega (arith, here, within))) in
    let rest : after_windows s q (fed ++ more) ≡ part ++ more = drop-append-le (q * wide) fed more (omega (arith, split)) in
    let many : length part ≡ at = omega (arith, length-drop (q * wide) fed, split, here) in
    let long : length (part ++ more) ≡ at + length more = omega (arith, length-append part more, many) in
    let stood : take at before ≡ part = rw many at settled.holds in
    rw last (record {
      stands = first_blocks-more s (q * window_blocks s) levels fed more opened (fan-some s) (omega (arith, split)) settled.stands;
      holds = rw (rest, long, filled, stood) refl;
    })

-- open blocks of zeros, to which nothing was fed
pub HasFed-zeros : (s : TreeSettingsFields) (levels len : ℕ) (opened window : List ℕ) → opened ≡ replicate len 0
    → levels * s.hash_block ≤ len → HasFed s levels [] opened window
HasFed-zeros s levels len opened window zeros room =
    let start : windows_before s 0 * window_blocks s ≡ 0 = simp (zero-div, zero-mul) in
    record {
      stands = rw start (HasOpenBlocks-zeros s (first_blocks s 0 []) levels len opened (fan-some s) zeros room);
      holds = rw drop-nil refl;
    }
