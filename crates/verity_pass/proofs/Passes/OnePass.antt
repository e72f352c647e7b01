-- The one pass over the data: windows are read, and the hash blocks that close are handed on.
use Rattle.std.proofs.Common.{List, [], ap, append_assoc, arith, drop, inl, inr, length, length-drop, refl, replicate, sym, take, ℕ, ◌*◌, ◌%◌, ◌++◌}
use Rattle.std.proofs.{Common.{◌+◌, ◌-◌, ◌/◌, ◌<◌, ◌^◌, ◌∙◌, ◌∷◌, ◌≡◌, ◌≤◌}, lemmas.List.Elements.{Contains-append_left, Contains-append_right}}
use Rattle.std.proofs.lemmas.{List.{append-nil, drop_all, length-take, length-take-le, take-take, take_all}, Nat.div-add-mod', Bool.cases_lt}
use Rattle.std.{proofs.Math.{Nat.{div-eq_of_lt-le, mul-div_cancel, pow-zero}, Seq.take-add}, specs.Fork.slice_chunk}
use Rattle.{std.specs.Prelude.{Bool, true, false, Some, None, if◌then◌else◌}, verity_hash.specs.Hashing.with_zeros}
use Rattle.verity_blocks.specs.{Levels.{cut, data_blocks, root}, Steps.Feeding.{EndsWindow, HasFed, IsHandingOut, TakesMore, windows_before}}
use Rattle.verity_blocks.specs.ClosingOrder.{BlockIndex, blocks_before, closed_after, handed_out, ComesNext, block_index, first_closing}
use Rattle.verity_blocks.specs.{Steps.{OpenBlocks.HasClosed, Closing.ClosesWith}, TreeOnDevice.tree_block, Windows.{window_blocks, window_length}}
use Rattle.verity_blocks.{specs.TreeWriting.device_with, proofs.{ClosingSteps.Climbing.blocks-most, Windows.LastByte.{last-below, whole-block}}}
use Rattle.verity_blocks.proofs.Windows.{BytesToWindow.{HasFed-filled, closed_after-placed, windows_before-filled}, RowsOfWindow.placed-in-window}
use Rattle.verity_blocks.proofs.OpenBlocks.{ClosingBlocks.closes-closed, DigestsInTurn.{IsCarrying-first, level_digest-root}}
use Rattle.verity_blocks.proofs.{Order.HandedOut.handed-out-stays, Levels.CutBlocks.length-cut}
use Rattle.verity_blocks.proofs.Order.ClosingInTurn.{closing-front, closed_after-more, closed_after-prefix, device_with-append, first_closing-more}
use Rattle.verity_plan.specs.{Plans.{IsPlan, PlanFields, start_byte}, PlanCounts.level_count_of, Settings.{IsValid, TreeSettingsFields, fan, hash}}
use Rattle.verity_plan.proofs.{FanLemmas.{fan-two, some_data}, CountLemmas.le-div_ceil, PlanLemmas.blocks-some}
use Rattle.verity_pass.{proofs.Passes.ReadBlocks.{HasRead-none, data-next}, specs.{Reading.{ReadsUpTo, bytes_of}, declared.pass.pass_fault.Stop.Stop}}
use Rattle.verity_pass.specs.declared.pass.pass_fault.BlockFault.{BlockFault, TheVariants.{Short, Failed}}
use Rattle.verity_io.specs.{Writing.put, Counting.{Counts, TheDevice, TheSource, is_call_of}, Reading.HasRead}
use borrow.Rule.Slice.PartMut.{put_mid}
use Rattle.verity_pass.specs.Steps.{DataBlocks.{StopsInBlock, side_of as block_side}, OnClosed.{stop_side, Effects}, OnePass.StopsFor}

-- the data blocks of a plan are those of the bytes that it wants
pub data_blocks-front : (p : PlanFields) (bytes : List ℕ) → data_blocks p (take p.wanted bytes) ≡ data_blocks p bytes
unfolding cut
data_blocks-front p bytes = rw (take-take p.wanted p.wanted bytes (omega arith)) refl

-- the part of the open blocks that is handed on
pub chunk-at : (size level at n : ℕ) (opened : List ℕ) → at ≡ level * size → n ≡ size
    → take n (take (length opened - at) (drop at opened)) ≡ slice_chunk opened size level
chunk-at size level at n opened place is =
    ap (take n) (take_all (length opened - at) (drop at opened) (omega (arith, length-drop at opened))) ∙ rw (place, is) refl

-- the hash block that closed last above the bytes that were read, and what was read of the source
pub record HandsOn (p : PlanFields) (n level block : ℕ) (bytes opened : List ℕ) : Type 0 where
  pub below : blocks_before p.settings n < p.blocks
  pub with_it : ClosesWith p (blocks_before p.settings n) level block
  pub stands : slice_chunk opened p.settings.hash_block level ≡ tree_block p.settings (data_blocks p bytes) level block
  pub order : handed_out p n (level + 1) ≡ handed_out p n level ++ block_index level block ∷ []
  pub read : bytes_of p (blocks_before p.settings n + 1) ≡ n

-- when a window or all ends with so many bytes, they are those of the data blocks up to the last one's
bytes_of-last : (p : PlanFields) (n : ℕ) → IsPlan p → EndsWindow p n → bytes_of p (blocks_before p.settings n + 1) ≡ n
bytes_of-last p n planned ends =
    let place = placed-in-window p.settings n planned.valid ends.some in
    elim ends.ends [
      | inl full ↦ omega (arith, whole-block p.settings n planned.valid ends.some full, ends.most)
      | inr all ↦ omega (arith, all, place.end)
    ]

pub hands-on : (p : PlanFields) (level block n : ℕ) (bytes opened : List ℕ) → IsPlan p → n ≤ length bytes
    → IsHandingOut p (level_count_of p) level (take n bytes) opened
    → block ≡ blocks_before p.settings n / fan p.settings ^ (level + 1) → HandsOn p n level block bytes opened
hands-on p level block n bytes opened planned enough h is =
    let s = p.settings in
    let levels = level_count_of p in
    let fed = take n bytes in
    let i = blocks_before s n in
    let more = take (p.wanted - n) (drop n bytes) in
    let long : length fed ≡ n = length-take-le n bytes enough in
    let ends : EndsWindow p n = rw long at h.ends in
    let closed : HasClosed s (data_blocks p fed) i level levels opened = rw long at h.closed in
    let below = last-below p n planned ends.some ends.most in
    let many : length (data_blocks p fed) ≡ p.blocks = length-cut s p.blocks p.wanted fed in
    let sum : n + (p.wanted - n) ≡ p.wanted = omega (arith, ends.most) in
    let all : fed ++ more ≡ take p.wanted bytes = sym (take-add n (p.wanted - n) bytes) ∙ ap (λ (k : ℕ). take k bytes) sum in
    let stays = handed-out-stays p levels level fed more opened planned h (omega (arith, ap length all, length-take p.wanted bytes)) in
    record {
      below = below;
      with_it = record {
        level_below = h.level_below;
        index_is = is;
        all = λ k low. rw many at (closes-closed s (data_blocks p fed) i level levels opened (omega (arith, below, many)) closed k low);
      };
      stands = closed.stands ∙ rw (long, all, data_blocks-front p bytes) at stays ∙ ap (tree_block s (data_blocks p bytes) level) (sym is);
      order = rw (is, first_closing-more (fan s) i level, append_assoc) refl;
      read = bytes_of-last p n planned ends;
    }

-- after whole windows comes a whole data block
pub whole-windows : (s : TreeSettingsFields) (n : ℕ) → IsValid s → n / window_length s * window_length s ≡ n
    → n / s.data_block * s.data_block ≡ n
whole-windows s n valid whole =
    let k = n / window_length s * window_blocks s in
    let e : n ≡ k * s.data_block = omega (arith, whole) in
    ap (λ (x : ℕ). x / s.data_block * s.data_block) e
    ∙ ap (λ (x : ℕ). x * s.data_block) (mul-div_cancel k (some_data s valid)) ∙ sym e

-- a source stops within one of the plan's data blocks
pub stopped-below : (p : PlanFields) (i : ℕ) (bytes : List ℕ) (why : BlockFault) (after : List ℕ)
    → StopsInBlock p i bytes why after → i < p.blocks
stopped-below p i bytes Short after h = h.below
stopped-below p i bytes Failed after h = h.below

-- no hash block closes in a window before the data block within which the source stops
pub stops-in-window : (p : PlanFields) (levels n closed block : ℕ) (fed opened window : List ℕ) → IsPlan p
    → length fed ≡ n
    → n / window_length p.settings * window_length p.settings ≡ n → TakesMore p levels fed closed opened window
    → block < p.blocks → n ≤ block * p.settings.data_block
    → block * p.settings.data_block < n + window_length p.settings
    → closed_after (fan p.settings) p.blocks block ≡ handed_out p n closed
stops-in-window p levels n closed block fed opened window planned many whole more below from to =
    let s = p.settings in
    let d = s.data_block in
    let wide = window_length s in
    let here : (block * d + 1 - 1) / d ≡ block =
    let e : block * d + 1 - 1 ≡ block * d = omega arith in
    ap (λ (x : ℕ). x / d) e ∙ mul-div_cancel block (some_data s planned.valid) in
    let same : (block * d + 1 - 1) / wide ≡ n / wide = div-eq_of_lt-le wide (omega (arith, whole, from)) (omega (arith, whole, to)) in
    let order : closed_after (fan s) p.blocks (n / wide * window_blocks s) ≡ handed_out p n closed = rw many at more.order in
    rw (here, same) at (closed_after-placed p (block * d + 1) planned (omega arith) (rw here below)) ∙ order

-- a window was read: the bytes in it were fed, and no hash block has closed with them
pub record FeedsWindow (p : PlanFields) (levels n closed count : ℕ) (bytes opened window : List ℕ) : Type 0 where
  pub stands : HasFed p.settings levels (take (n + count) bytes) opened window
  pub order : handed_out p (n + count) 0 ≡ handed_out p n closed

pub feeds-window : (p : PlanFields) (levels n closed count : ℕ) (bytes opened before window : List ℕ) → IsPlan p
    → n + count ≤ length bytes → 0 < count → count ≤ window_length p.settings → n + count ≤ p.wanted
    → n / window_length p.settings * window_length p.settings ≡ n
    → TakesMore p levels (take n bytes) closed opened before → take count window ≡ take count (drop n bytes)
    → FeedsWindow p levels n closed count bytes opened window
feeds-window p levels n closed count bytes opened before window planned enough some within most whole more read =
    let s = p.settings in
    let wide = window_length s in
    let fed = take n bytes in
    let next = take count (drop n bytes) in
    let long : length fed ≡ n = length-take-le n bytes (omega (arith, enough)) in
    let many : length next ≡ count = length-take-le count (drop n bytes) (omega (arith, length-drop n bytes, enough)) in
    let none : n % wide ≡ 0 = omega (arith, div-add-mod' n wide, whole) in
    let last : windows_before s (n + count) ≡ n / wide = windows_before-filled s n count some (omega (arith, none, within)) in
    let here : 0 + length next ≡ count = omega (arith, many) in
    let below = last-below p (n + count) planned (omega (arith, some)) most in
    let order : closed_after (fan s) p.blocks (n / wide * window_blocks s) ≡ handed_out p n closed = rw long at more.order in
    record {
      stands = rw (take-add n count bytes) (HasFed-filled s levels 0 fed next opened before window (sym (rw long none))
          (omega (arith, many, some)) (omega (arith, many, within)) (ap (λ (k : ℕ). take k window) here ∙ read) more.settled);
      order = append-nil _ ∙ (rw last at (closed_after-placed p (n + count) planned (omega (arith, some)) below)) ∙ order;
    }

-- the data blocks with which the block closes were read
pub reads-up-to : (p : PlanFields) (i l j : ℕ) (before after : List ℕ) → i < p.blocks
    → ClosesWith p i l j
    → HasRead (bytes_of p (i + 1)) before after → ReadsUpTo p l j before after
reads-up-to p i l j before after below with_it read =
    let f = fan p.settings in
    let front = closing-front f p.blocks i l with_it.level_below with_it.all in
    let here = block_index l (i / f ^ (l + 1)) in
    record {
      i = i;
      below = below;
      here = rw (with_it.index_is, front.1)
          (Contains-append_left (first_closing f i l ++ here ∷ []) front.0 here
          (Contains-append_right (first_closing f i l) (here ∷ []) here (0, omega arith, refl)));
      read = read;
    }

-- a pass stops at a hash block that closes with data block i
pub stops-for : {F : Type 0} (w : Effects F) (p : PlanFields) (bytes : List ℕ) (i : ℕ) (stop : Stop F) (before after : List ℕ)
    → i < p.blocks → ClosesWith p i stop.level stop.block → bytes_of p (i + 1) ≤ length bytes
    → w.stops p (data_blocks p bytes) (closed_after (fan p.settings) p.blocks i ++ first_closing (fan p.settings) i stop.level)
    stop before after
    → StopsFor w p bytes stop before after
stops-for w p bytes i stop before after below with_it enough is =
    let f = fan p.settings in
    let l = stop.level in
    let front = closing-front f p.blocks i l with_it.level_below with_it.all in
    record {
      i = i;
      below = below;
      enough = enough;
      done = closed_after f p.blocks i ++ first_closing f i l;
      next = record {
        rest = front.0;
        in_order = rw (closed_after-more f p.blocks i, front.1, with_it.index_is) (simp append_assoc);
      };
      stopped = is;
    }

-- the hash block at which a pass stops comes next after those that have closed
pub stops-next : {F : Type 0} (w : Effects F) (p : PlanFields) (bytes : List ℕ) (stop : Stop F) (before after : List ℕ)
    → (stops : StopsFor w p bytes stop before after)
    → ComesNext (closed_after (fan p.settings) p.blocks p.blocks) stops.done (block_index stop.level stop.block)
stops-next w p bytes stop before after stops =
    let f = fan p.settings in
    let rest = closed_after-prefix f p.blocks (stops.i + 1) (p.blocks - (stops.i + 1)) in
    let e : p.blocks ≡ stops.i + 1 + (p.blocks - (stops.i + 1)) = omega (arith, stops.below) in
    record {
      rest = stops.next.rest ++ rest.0;
      in_order = ap (closed_after f p.blocks) e ∙ rest.1 ∙ rw stops.next.in_order (simp append_assoc);
    }

-- a tree without levels has one data block, which has all bytes that are wanted
pub record HasOneBlock (p : PlanFields) : Type 0 where
  pub one : p.blocks ≡ 1
  pub within : p.wanted ≤ p.settings.data_block
  pub none_close : (i : ℕ) → i ≤ p.blocks → closed_after (fan p.settings) p.blocks i ≡ []

pub one-block : (p : PlanFields) → IsPlan p → level_count_of p ≡ 0 → HasOneBlock p
unfolding closed_after
one-block p planned none =
    let most : p.blocks ≤ 1 = rw (none, pow-zero (fan p.settings)) at (blocks-most p planned) in
    let one : p.blocks ≡ 1 = omega (arith, most, blocks-some p planned) in
    let few = le-div_ceil p.wanted p.settings.data_block 1 (some_data p.settings planned.valid) (omega (arith, most, planned.blocks_are)) in
    record {
      one = one;
      within = omega (arith, few);
      none_close = λ i within. elim (cases_lt i 1) [
        | inl first ↦ let e : i ≡ 0 = omega (arith, first) in rw e refl
        | inr last ↦ let e : i ≡ 0 + 1 = omega (arith, last, within, one) in rw (e, closed_after-more (fan p.settings) p.blocks 0, none) refl
      ];
    }

-- the bytes that were read, and zeros up to the block's end
pub block-filled : (n d : ℕ) (block zeros bytes : List ℕ) → n ≤ d → length block ≡ d → n ≤ length bytes
    → take n block ≡ take n bytes → zeros ≡ replicate (length (take (length block - n) (drop n block))) 0
    → put_mid n (length block - n) block zeros ≡ with_zeros d (take n bytes)
block-filled n d block zeros bytes fits long enough read are =
    let k = length block - n in
    let rest = length-take-le k (drop n block) (omega (arith, length-drop n block)) in
    let none = drop_all k (drop n block) (omega (arith, length-drop n block)) in
    let end = append-nil zeros in
    let many = length-take-le n bytes enough in
    cc

-- the digest of the one data block is the root hash
pub one-root : (p : PlanFields) (bytes after block : List ℕ) → IsPlan p → level_count_of p ≡ 0
    → HasRead p.wanted bytes after → block ≡ with_zeros p.settings.data_block (take p.wanted bytes)
    → hash p.settings block ≡ root p.settings (data_blocks p bytes)
one-root p bytes after block planned none read is =
    let s = p.settings in
    let blocks = data_blocks p bytes in
    let only = one-block p planned none in
    let many = length-cut s p.blocks p.wanted bytes in
    let below : 0 < p.blocks = omega (arith, only.one) in
    let digest = (data-next p planned 0 p.wanted bytes bytes after block below (omega (arith, only.within)) (HasRead-none p bytes)
    read.enough is read.rest).1 in
    (level_digest-root s blocks 0 0 [] (hash s block) (fan-two s planned.valid) (omega (arith, many, below))
    (sym (rw many none)) (IsCarrying-first s blocks 0 0 [] (hash s block) digest (λ l from to. absurd (omega (arith, from, to))))).1

-- a failure at a hash block is none of the source
of_device : (failed : Bool) (before after : ℕ) → after ≡ before
    → Counts (is_call_of TheSource (if failed then Some TheDevice else None)) before after
of_device true before after same = same
of_device false before after same = same

pub not-of_source : {F : Type 0} (failed : F → Bool) (stop : Stop F) (before after : ℕ) → after ≡ before
    → Counts (is_call_of TheSource (stop_side failed stop)) before after
not-of_source failed stop before after same = of_device (failed stop.why) before after same

-- a source that stops is no failure of the device
pub not-of_device : (why : BlockFault) (before after : ℕ) → after ≡ before
    → Counts (is_call_of TheDevice (block_side why)) before after
not-of_device Short before after same = same
not-of_device Failed before after same = same

-- one block more that is put at its place
pub one_more_written : (s : TreeSettingsFields) (blocks : List (List ℕ)) (base : ℕ) (ps : List BlockIndex)
    (at : BlockIndex) (device : List ℕ) → device_with s blocks base (ps ++ at ∷ []) device
    ≡ put (device_with s blocks base ps device) (start_byte s (length blocks) base at.level at.index)
    (tree_block s blocks at.level at.index)
unfolding device_with
one_more_written s blocks base ps at device = device_with-append s blocks base ps (at ∷ []) device
