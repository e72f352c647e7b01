-- Steps of a tree that is made as its data come: what stands before a step, and what comes of several.
use Rattle.std.proofs.Common.{◌≡◌, ℕ, zero, suc, ◌+◌, ◌-◌, ◌*◌, ◌/◌, ◌%◌, ◌<◌, ◌≤◌, ◌⊎◌, Bool, true, false, eqb, List, [], ◌++◌, ◌∷◌, take, drop}
use Rattle.std.proofs.{Common.{length, arith, refl, sym, ◌∙◌, ap, subst, inl, inr, append_assoc, length-append}, lemmas.Bool.Decides.nat_tests}
use Rattle.std.proofs.{lemmas.{Nat.{div-add-mod', mod_below}, List.{append-nil, length-take-le, take_rest}}, Math.Seq.take-add}
use Rattle.{std.proofs.Math.Nat.{div-eq_of_lt-le, mul-div_cancel, zero-div, zero-mul}, verity_plan.specs.{Plans.{IsPlan, PlanFields}, Settings.fan}}
use Rattle.verity_blocks.specs.{ClosingOrder.{closed_after, handed_out, blocks_before}, Steps.Feeding.{first_blocks, windows_before}}
use Rattle.verity_blocks.specs.Steps.Feeding.{ClosesNext, EndsWindow, FeedsOn, Hands, HasFed, HasWindow, IsHandingOut, handed_at, Stands, TakesMore}
use Rattle.verity_blocks.{specs.{Steps.OpenBlocks.HasOpenBlocks, Windows.{window_blocks, window_length}}, proofs.ClosingSteps.Climbing.KeepsOpen}
use Rattle.verity_blocks.proofs.Windows.{LastByte.last-below, BytesToWindow.{HasWindow-full, closed_after-placed}}
use Rattle.verity_blocks.proofs.{Windows.RowsOfWindow.{last-run, window-ended, window-wide}, Levels.FirstBlocks.plan-first_blocks}

-- a number that isn't a multiple has its last in the run that isn't whole
pub partial-quotient : (n w : ℕ) → 0 < w → (n ≡ 0) ⊎ (0 < n % w) → n / w ≡ (n - 1) / w
partial-quotient n w wide ends = elim ends [
  | inl none ↦ let e : n ≡ n - 1 = omega (arith, none) in ap (λ (x : ℕ). x / w) e
  | inr part ↦
      let split : n / w * w + n % w ≡ n = div-add-mod' n w in
      sym (div-eq_of_lt-le w (omega (arith, split, part)) (omega (arith, split, mod_below n w wide)))
]

-- when a window ends it does so whichever hash blocks above it were handed out
pub Stands-ends : (p : PlanFields) (levels closed : ℕ) (fed opened window : List ℕ) → IsPlan p → 0 < length fed
    → length fed ≤ p.wanted
    → (0 < closed) ⊎ ((length fed % window_length p.settings ≡ 0) ⊎ (length fed ≡ p.wanted))
    → Stands p levels fed closed opened window → EndsWindow p (length fed)
Stands-ends p levels zero fed opened window planned some most ends h = record {
  some = some;
  most = most;
  ends = elim ends [
    | inl none ↦ absurd (omega (arith, none))
    | inr (inl whole) ↦
        let wide = window_length p.settings in
        let split : length fed ≡ length fed / wide * wide = omega (arith, div-add-mod' (length fed) wide, whole) in
        let last = last-run (length fed) wide (length fed / wide) (window-wide p.settings planned.valid) some split in
        inl (split ∙ ap (λ (k : ℕ). k * wide) (sym last))
    | inr (inr all) ↦ inr all
  ];
}
Stands-ends p levels (suc level) fed opened window planned some most ends h = h.ends

-- the hash blocks that closed before the last byte's window are those that closed before its data block
closed-before : (p : PlanFields) (count : ℕ) → IsPlan p → count ≤ p.wanted
    → closed_after (fan p.settings) p.blocks (windows_before p.settings count * window_blocks p.settings)
    ≡ closed_after (fan p.settings) p.blocks (blocks_before p.settings count)
closed-before p zero planned most = simp (zero-div, zero-mul)
closed-before p (suc n) planned most =
    sym (closed_after-placed p (suc n) planned (omega arith) (last-below p (suc n) planned (omega arith) most))

-- nothing was carried up, since the window that the last byte is in isn't full
pub Stands-settled : (p : PlanFields) (levels closed : ℕ) (fed opened window : List ℕ) → IsPlan p
    → length fed ≤ p.wanted
    → (length fed ≡ 0) ⊎ ((closed ≡ 0) × (0 < length fed % window_length p.settings))
    → Stands p levels fed closed opened window → TakesMore p levels fed closed opened window
Stands-settled p levels zero fed opened window planned most part h =
    let s = p.settings in
    let n = length fed in
    let either : (n ≡ 0) ⊎ (0 < n % window_length s) = elim part [ inl none ↦ inl none | inr within ↦ inr within.1 ] in
    let same = partial-quotient n (window_length s) (window-wide s planned.valid) either in
    record {
      settled = subst (λ (k : ℕ). HasWindow s levels k fed opened window) (sym same) h;
      order = ap (λ (k : ℕ). closed_after (fan s) p.blocks (k * window_blocks s)) same
          ∙ closed-before p n planned most ∙ sym (append-nil _);
    }
Stands-settled p levels (suc level) fed opened window planned most part h = elim part [
  | inl none ↦ absurd (omega (arith, none, h.ends.some))
  | inr within ↦ absurd (omega (arith, within.0))
]

-- a digest was carried up and no hash block has closed
pub KeepsOpen-settled : (p : PlanFields) (levels closed : ℕ) (fed opened window : List ℕ) → IsPlan p → 0 < length fed
    → length fed ≤ p.wanted → KeepsOpen p levels fed closed opened → TakesMore p levels fed closed opened window
KeepsOpen-settled p levels closed fed opened window planned some most h =
    let s = p.settings in
    let n = length fed in
    let k = windows_before s n + 1 in
    let same : n / window_length s ≡ k =
    ap (λ (m : ℕ). m / window_length s) h.full ∙ mul-div_cancel k (window-wide s planned.valid) in
    let last : blocks_before s n + 1 ≡ k * window_blocks s = window-ended s n k planned.valid some h.full in
    let enough : k * window_blocks s * s.data_block ≤ n = omega (arith, h.full) in
    let first : HasOpenBlocks s (first_blocks s (k * window_blocks s) fed) 0 levels (k * window_blocks s) opened =
    plan-first_blocks p (k * window_blocks s) levels fed opened planned enough most (rw (← last) h.stands) in
    record {
      settled = subst (λ (m : ℕ). HasWindow s levels m fed opened window) (sym same)
          (HasWindow-full s levels k fed opened window (omega (arith, h.full)) first);
      order = ap (λ (m : ℕ). closed_after (fan s) p.blocks (m * window_blocks s)) same
          ∙ ap (closed_after (fan s) p.blocks) (sym last) ∙ h.order;
    }

-- a hash block has closed
pub FeedsOn-climbs : (p : PlanFields) (levels closed new_closed : ℕ) (fed opened window : List ℕ)
    → new_closed ≡ closed + 1
    → IsHandingOut p levels closed fed opened
    × (handed_out p (length fed) (closed + 1) ≡ handed_out p (length fed) closed ++ handed_at p (length fed) closed ∷ [])
    → FeedsOn p levels fed closed [] true new_closed opened window
FeedsOn-climbs p levels closed new_closed fed opened window next h =
    let one : new_closed ≡ suc closed = omega (arith, next) in
    let last : new_closed - 1 ≡ closed = omega (arith, next) in
    record { stands = rw (append-nil, one) h.0; order = rw (append-nil, last, next) h.1 }

-- bytes were taken
pub FeedsOn-takes : (p : PlanFields) (levels closed taken : ℕ) (fed more before held opened window : List ℕ)
    → length more ≡ taken → 0 < taken → TakesMore p levels fed closed before held
    → closed_after (fan p.settings) p.blocks (blocks_before p.settings (length fed + taken))
    ≡ closed_after (fan p.settings) p.blocks (length fed / window_length p.settings * window_blocks p.settings)
    → HasFed p.settings levels (fed ++ more) opened window
    → FeedsOn p levels fed closed more (eqb taken 0) 0 opened window
FeedsOn-takes p levels closed taken fed more before held opened window many some settled none stands =
    let tested : eqb taken 0 ≡ false = grind (arith, nat_tests, some) in
    let count : length (fed ++ more) ≡ length fed + taken = omega (arith, length-append fed more, many) in
    record {
      stands = stands;
      order = rw tested (ap (λ (n : ℕ). handed_out p n 0) count ∙ append-nil _ ∙ none ∙ settled.order);
    }

-- bytes were fed and no hash block has closed, and then more
pub FeedsOn-more : (p : PlanFields) (levels closed middle new_closed : ℕ) (fed more further before held opened window : List ℕ)
    (closes : Bool) → FeedsOn p levels fed closed more false middle before held
    → FeedsOn p levels (fed ++ more) middle further closes new_closed opened window
    → FeedsOn p levels fed closed (more ++ further) closes new_closed opened window
FeedsOn-more p levels closed middle new_closed fed more further before held opened window closes first second =
    let same : (fed ++ more) ++ further ≡ fed ++ (more ++ further) = append_assoc fed more further in
    record {
      stands = rw (← same) second.stands;
      order = rw (← same) (hands-more p (length fed) closed (length (fed ++ more)) middle _ new_closed closes
          first.order second.order);
    }
  where
    hands-more : (p : PlanFields) (a c b d e f : ℕ) (closes : Bool) → Hands p a c b d false → Hands p b d e f closes
        → Hands p a c e f closes
    hands-more p a c b d e f true one two = rw (← one) two
    hands-more p a c b d e f false one two = two ∙ one

-- bytes were fed and no hash block has closed, and then one has without bytes
pub FeedsOn-last : (p : PlanFields) (levels closed middle new_closed : ℕ) (fed more before held opened window : List ℕ)
    (closes : Bool) → (closes ≡ false → ⊥) → (closes ≡ true → new_closed ≡ middle + 1)
    → FeedsOn p levels fed closed more false middle before held
    → ClosesNext p levels (fed ++ more) middle closes opened window
    → FeedsOn p levels fed closed more closes new_closed opened window
FeedsOn-last p levels closed middle new_closed fed more before held opened window false some next first h = absurd (some refl)
FeedsOn-last p levels closed middle new_closed fed more before held opened window true some next first h =
    rw (append-nil more) at (FeedsOn-more p levels closed middle new_closed fed more [] before held opened window true first
    (FeedsOn-climbs p levels middle new_closed (fed ++ more) opened window (next refl) h))

-- the bytes of a piece up to a place, and those of its rest up to another
pub take-of_rest : (n m : ℕ) (piece : List ℕ)
    → take n piece ++ take m (take (length piece - n) (drop n piece)) ≡ take (n + m) piece
take-of_rest n m piece = rw (take_rest, take-add) refl

-- how many bytes were fed with those of a piece up to a place
pub length-fed : (fed piece : List ℕ) (count taken all : ℕ) → length fed ≡ count → taken ≤ length piece
    → all ≡ count + taken → length (fed ++ take taken piece) ≡ all
length-fed fed piece count taken all many most is =
    omega (arith, length-append fed (take taken piece), length-take-le taken piece most, many, is)
