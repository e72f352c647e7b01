-- The root hash is asked for when all data of a plan has come: the last data block's digest goes up through all levels.
use Rattle.std.proofs.Common.{◌≡◌, ℕ, ◌+◌, ◌-◌, ◌*◌, ◌/◌, ◌^◌, ◌<◌, ◌≤◌, List, length, length-drop, take, arith, refl, sym, ◌∙◌, ap, inl, inr, zero}
use Rattle.std.proofs.{Common.{suc, get_or, []}, lemmas.Bool.cases_lt, Math.Nat.{div-div-eq-div-mul, div-eq_of_lt, pow-le-pow_right, pow-suc}}
use Rattle.{std.specs.Fork.slice_chunk, verity_blocks.proofs.OpenBlocks.DigestsInTurn.quotient-same}
use Rattle.verity_plan.{specs.{Plans.{IsPlan, PlanFields}, PlanCounts.level_count_of, Settings.{fan, hash}}, proofs.FanLemmas.fan-some}
use Rattle.verity_blocks.specs.{ClosingOrder.blocks_before, Levels.{blocks_up, data_blocks, root}, Windows.{window_blocks, window_length}}
use Rattle.verity_blocks.specs.Steps.Feeding.{HasCome, HasFed, HasWindow, Stands, after_windows, last_window, windows_before}
use Rattle.verity_blocks.{specs.Steps.OpenBlocks.{IsAsking, carry_state, digests_under, level_digest, open_block}, proofs.Windows.LastByte.last-block}
use Rattle.verity_blocks.proofs.{ClosingSteps.Climbing.{blocks-most, handing-out}, Windows.RowsOfWindow.{placed-in-window, window-beside}}
use Rattle.verity_blocks.proofs.Levels.{FirstBlocks.plan-first_blocks, CutBlocks.length-cut, LevelCounts.height-level_count}

-- the last data block's digest comes to level 0
pub IsAsking-first : (p : PlanFields) (levels first last : ℕ) (fed opened digest : List ℕ) → IsPlan p
    → length fed ≡ p.wanted
    → last + 1 ≡ p.blocks → HasCome p levels fed opened digest
    → IsAsking p.settings (data_blocks p fed) first (carry_state last 0 levels) opened digest
IsAsking-first p levels first last fed opened digest planned all last_is h =
    let e : blocks_before p.settings (length fed) ≡ last =
    ap (blocks_before p.settings) all ∙ omega (arith, last-block p planned, last_is) in
    record {
      below = λ l from to. absurd (omega (arith, to));
      above = rw (← e) h.stands;
      digest_is = rw (← e) h.digest_is;
    }

-- above all levels there is one place
top-place : (p : PlanFields) (i l : ℕ) → IsPlan p → i < p.blocks → level_count_of p ≤ l → i / fan p.settings ^ l ≡ 0
top-place p i l planned below high =
    div-eq_of_lt (omega (arith, below, blocks-most p planned, pow-le-pow_right (fan-some p.settings) high))

-- what comes out of the top level is the root
pub root-above : (p : PlanFields) (last top : ℕ) (fed : List ℕ) → IsPlan p → last + 1 ≡ p.blocks
    → top ≡ level_count_of p
    → level_digest p.settings (data_blocks p fed) last top ≡ root p.settings (data_blocks p fed)
unfolding root
root-above p last top fed planned last_is top_is =
    rw (
      top-place p last top planned (omega (arith, last_is)) (omega (arith, top_is)),
      top_is,
      height-level_count p.settings (data_blocks p fed) (fan-some p.settings),
      length-cut p.settings p.blocks p.wanted fed,
    ) refl

-- and so is the digest of the one block that is left above all levels
pub left-root : (p : PlanFields) (levels : ℕ) (fed : List ℕ) → levels ≡ level_count_of p
    → hash p.settings (get_or (blocks_up p.settings (data_blocks p fed) levels) 0 []) ≡ root p.settings (data_blocks p fed)
unfolding root
left-root p levels fed is =
    rw (
      is,
      height-level_count p.settings (data_blocks p fed) (fan-some p.settings),
      length-cut p.settings p.blocks p.wanted fed,
    ) refl

-- the hash block of the top level that closed above the last byte is the one that is left
pub top-left : (p : PlanFields) (levels : ℕ) (fed opened window : List ℕ) → IsPlan p → level_count_of p ≤ levels
    → 0 < levels → length fed ≡ p.wanted → Stands p levels fed levels opened window
    → slice_chunk opened p.settings.hash_block (levels - 1) ≡ get_or (blocks_up p.settings (data_blocks p fed) levels) 0 []
top-left p levels fed opened window planned own some all h =
    let s = p.settings in
    let xs = data_blocks p fed in
    let i = blocks_before s (length fed) in
    let up : levels - 1 + 1 ≡ levels = omega (arith, some) in
    let last : i < p.blocks = omega (arith, last-block p planned, ap (blocks_before s) all) in
    (handing-out p levels levels fed opened window some h).closed.stands
    ∙ ap (λ (n : ℕ). get_or (blocks_up s xs n) (i / fan s ^ n) []) up
    ∙ ap (λ (n : ℕ). get_or (blocks_up s xs levels) n []) (top-place p i levels planned last own)

-- from a level above all, or above one that has closed, the last data block and the first of its window have one place
pub above-top : (p : PlanFields) (last l : ℕ) → IsPlan p → last + 1 ≡ p.blocks → level_count_of p ≤ l
    → last / fan p.settings ^ l ≡ last_window p / fan p.settings ^ l
above-top p last l planned last_is high =
    let before = (placed-in-window p.settings p.wanted planned.valid planned.some).from in
    top-place p last l planned (omega (arith, last_is)) high
    ∙ sym (top-place p (last_window p) l planned (omega (arith, before, last-block p planned)) high)

pub above-level : (p : PlanFields) (last level l : ℕ) → IsPlan p → last + 1 ≡ p.blocks → level + 1 ≤ l
    → last / fan p.settings ^ l ≡ last_window p / fan p.settings ^ l
above-level p last level zero planned last_is high = absurd (omega (arith, high))
above-level p last level (suc l) planned last_is high =
    let s = p.settings in
    let f = fan s in
    let same : blocks_before s p.wanted ≡ last = omega (arith, last_is, last-block p planned) in
    let power : f ^ suc l ≡ f ^ l * f = pow-suc f l in
    let up : (x : ℕ) → x / f ^ suc l ≡ x / f ^ l / f = λ x. ap (λ (n : ℕ). x / n) power ∙ sym (div-div-eq-div-mul x (f ^ l) f) in
    let beside : last / f ≡ last_window p / f =
    sym (window-beside s p.wanted planned.valid planned.some ∙ ap (λ (n : ℕ). n / f) same) in
    up last ∙ quotient-same f last (last_window p) l beside ∙ sym (up (last_window p))

-- the open blocks are those before the last window, and the window's bytes that were fed are as they were
pub HasFed-asked : (p : PlanFields) (levels last top : ℕ) (fed before opened held window digest : List ℕ) → IsPlan p
    → length fed ≡ p.wanted
    → ((l : ℕ) → top ≤ l → last / fan p.settings ^ l ≡ last_window p / fan p.settings ^ l)
    → take (p.wanted - windows_before p.settings p.wanted * window_length p.settings) window
    ≡ take (p.wanted - windows_before p.settings p.wanted * window_length p.settings) held
    → IsAsking p.settings (data_blocks p fed) (last_window p) (carry_state last top levels) opened digest
    → HasFed p.settings levels fed before held → HasFed p.settings levels fed opened window
HasFed-asked p levels last top fed before opened held window digest planned all above same h fed_is =
    let s = p.settings in
    let n = p.wanted in
    let k = windows_before s n in
    let placed = placed-in-window s n planned.valid planned.some in
    let long : length (after_windows s k fed) ≡ n - k * window_length s =
    omega (arith, length-drop (k * window_length s) fed, all) in
    let held_is : HasWindow s levels k fed before held = rw all at fed_is in
    rw all (record {
      stands = plan-first_blocks p (k * window_blocks s) levels fed opened planned (omega (arith, placed.before, all))
          (omega (arith, all))
          (λ l from to. elim (cases_lt l top) [
            | inl low ↦ h.below l from low
            | inr high ↦
                h.above l high to ∙ ap (open_block s (digests_under s (data_blocks p fed) l)) (above l (omega (arith, high)))
          ]);
      holds = rw long (same ∙ (rw long at held_is.holds));
    })
