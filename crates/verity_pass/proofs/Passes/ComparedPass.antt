-- The verdict from what a comparison came to.
use Rattle.std.proofs.Common.{◌≡◌, ◌≢◌, ℕ, ◌+◌, ◌-◌, ◌≤◌, Bool, true, false, List, [], ◌∷◌, ◌++◌, length, arith, sym, ◌∙◌, ap, refl, subst, Ok, Err}
use Rattle.std.proofs.{Common.{append_assoc, cond}, lemmas.Bool.{false_from_ne_true, not_from_false, not_from_true, Decides.nat_tests}}
use Rattle.std.{proofs.lemmas.{List.{Folds.find-append, Elements.{All-head, All-tail}}, Slice.Eq.bytes_eq-Decides}, specs.Prelude.{find, Some, None}}
use Rattle.{std.specs.Str.bytes_eq, verity_pass.specs.{Verdicts.{NoneDiffers, HoldsBlockAt, differs, verdict_by, verdict}, declared.part.Part.Part}}
use Rattle.verity_pass.specs.{Reading.EndsWithin, Comparing.ComesTo, Steps.OnePass.StopsFor, declared.pass.comparing.CompareStop.CompareStop}
use Rattle.verity_pass.specs.{Steps.OnClosed.{IsStopFor, KeepsSame, HoldsAll, StopsComparing, effects, is_unread}, declared.pass.pass_fault.Stop.Stop}
use Rattle.verity_pass.{specs.declared.comparing.CompareFault.TheVariants.{SourceShort, RootDiffers}, proofs.Passes.OnePass.stops-next}
use Rattle.{verity_pass.proofs.Passes.ReadBlocks.whole_blocks-above, verity_plan.specs.{Plans.{PlanFields, IsPlan}, Settings.fan}}
use Rattle.verity_blocks.specs.{ClosingOrder.{BlockIndex, block_index, closed_after}, Levels.{root, data_blocks, whole_blocks}}
use Rattle.verity_blocks.proofs.{Order.ClosingInTurn.closed_after-prefix, Levels.DataBlocks.whole_blocks-all}
use Rattle.verity_pass.specs.declared.pass.comparing.CompareStop.TheVariants as P
use Rattle.verity_pass.specs.declared.comparing.CompareFault.TheVariants as F

-- no first one that differs among blocks that stand there
find-none : (p : PlanFields) (blocks : List (List ℕ)) (device : List ℕ) (hash_blocks : List BlockIndex)
    → NoneDiffers p blocks device hash_blocks
    → find (differs p blocks device) hash_blocks ≡ None
find-none p blocks device [] h = refl
find-none p blocks device (at ∷ hash_blocks) h =
    let here = All-head (HoldsBlockAt p blocks device) at hash_blocks h in
    let stands : differs p blocks device at ≡ false = not_from_true _ ((bytes_eq-Decides _ _).1 here) in
    rw stands (find-none p blocks device hash_blocks (All-tail (HoldsBlockAt p blocks device) at hash_blocks h))

-- the first one that differs comes after blocks that stand there
find-first : (p : PlanFields) (blocks : List (List ℕ)) (device : List ℕ) (front rest : List BlockIndex) (at : BlockIndex)
    → NoneDiffers p blocks device front
    → differs p blocks device at ≡ true → find (differs p blocks device) (front ++ (at ∷ rest)) ≡ Some at
find-first p blocks device front rest at h here =
    let none = find-none p blocks device front h in
    find-append (differs p blocks device) front (at ∷ rest) ∙ rw (none, here) refl

-- bytes that are another's are not equal
pub bytes-differ : (xs ys : List ℕ) → xs ≢ ys → bytes_eq xs ys ≡ false
bytes-differ xs ys other = false_from_ne_true _ (λ same. other ((bytes_eq-Decides xs ys).0 same))

-- the verdict if no block differs
verdict-none : (p : PlanFields) (device bytes digest : List ℕ) (m : ℕ) → whole_blocks p bytes ≡ m
    → NoneDiffers p (data_blocks p bytes) device (closed_after (fan p.settings) p.blocks m)
    → verdict p device bytes digest ≡ verdict_by p device bytes None digest
verdict-none p device bytes digest m whole none =
    let blocks = data_blocks p bytes in
    let found = find-none p blocks device (closed_after (fan p.settings) p.blocks m) none in
    ap (λ (n : ℕ). verdict_by p device bytes
    (find (differs p blocks device) (closed_after (fan p.settings) p.blocks n)) digest) whole ∙ rw found refl

-- if the data is whole, the root is compared
judges-whole : (p : PlanFields) (device bytes digest : List ℕ) (same : Bool) → p.wanted ≤ length bytes
    → NoneDiffers p (data_blocks p bytes) device (closed_after (fan p.settings) p.blocks p.blocks)
    → bytes_eq (root p.settings (data_blocks p bytes)) digest ≡ same
    → verdict p device bytes digest ≡ cond same (Ok tt) (Err (RootDiffers (root p.settings (data_blocks p bytes))))
judges-whole p device bytes digest same enough none compared =
    let whole = whole_blocks-all p bytes enough in
    grind (arith, nat_tests, compared, whole, verdict-none p device bytes digest p.blocks whole none)

-- if the root is the computed one, all is right
pub judges-right : (p : PlanFields) (device bytes computed digest : List ℕ) → p.wanted ≤ length bytes
    → NoneDiffers p (data_blocks p bytes) device (closed_after (fan p.settings) p.blocks p.blocks)
    → computed ≡ root p.settings (data_blocks p bytes) → computed ≡ digest → verdict p device bytes digest ≡ Ok tt
judges-right p device bytes computed digest enough none is same =
    judges-whole p device bytes digest true enough none ((bytes_eq-Decides _ _).1 (sym is ∙ same))

-- if it is another, the computed one is named
pub judges-root : (p : PlanFields) (device bytes computed digest : List ℕ) → p.wanted ≤ length bytes
    → NoneDiffers p (data_blocks p bytes) device (closed_after (fan p.settings) p.blocks p.blocks)
    → computed ≡ root p.settings (data_blocks p bytes) → computed ≢ digest
    → verdict p device bytes digest ≡ Err (RootDiffers computed)
judges-root p device bytes computed digest enough none is other =
    judges-whole p device bytes digest false enough none (bytes-differ _ _ (λ e. other (is ∙ e)))
    ∙ ap (λ (xs : List ℕ). Err (RootDiffers xs)) (sym is)

-- if the data ends early, the block that it ends in is named
pub judges-short : (p : PlanFields) (device bytes after digest : List ℕ) (i : ℕ) → EndsWithin p i bytes after
    → NoneDiffers p (data_blocks p bytes) device (closed_after (fan p.settings) p.blocks i)
    → verdict p device bytes digest ≡ Err (SourceShort i)
judges-short p device bytes after digest i ends none =
    grind (arith, nat_tests, verdict-none p device bytes digest i (sym ends.whole_is) none, ends.below, ends.whole_is)

-- the first block that differs is named
pub judges-differs : (p : PlanFields) → IsPlan p
    → (device bytes digest after : List ℕ) (stop : Stop CompareStop) (part : Part)
    → StopsFor (effects is_unread KeepsSame HoldsAll StopsComparing) p bytes stop device after → stop.why ≡ P.Differs part
    → verdict p device bytes digest ≡ Err (F.Differs stop.level stop.block part)
judges-differs p planned device bytes digest after stop part stops why =
    let blocks = data_blocks p bytes in
    let f = fan p.settings in
    let m = whole_blocks p bytes in
    let within : stops.i + 1 ≤ m =
    whole_blocks-above p planned (stops.i + 1) bytes (omega (arith, stops.below)) stops.enough in
    let rest = closed_after-prefix f p.blocks (stops.i + 1) (m - (stops.i + 1)) in
    let e : m ≡ stops.i + 1 + (m - (stops.i + 1)) = omega arith in
    let at : BlockIndex = block_index stop.level stop.block in
    let differs_by = subst (IsStopFor p blocks device at) why stops.stopped.2 in
    let split : closed_after f p.blocks m ≡ stops.done ++ (at ∷ (stops.next.rest ++ rest.0)) =
    ap (closed_after f p.blocks) e ∙ rest.1 ∙ ap (λ (ps : List BlockIndex). ps ++ rest.0) stops.next.in_order
    ∙ simp append_assoc in
    let met = find-first p blocks device stops.done (stops.next.rest ++ rest.0) at stops.stopped.1
    (not_from_false _ (bytes-differ _ _ differs_by.0)) in
    rw (split, met) (ap (λ (q : Part). Err (F.Differs stop.level stop.block q)) (sym differs_by.1))

-- a failure at a block comes only if nothing before it differs
pub comes-to : (p : PlanFields) (device bytes after : List ℕ) (stop : Stop CompareStop)
    → StopsFor (effects is_unread KeepsSame HoldsAll StopsComparing) p bytes stop device after
    → ComesTo p device bytes (block_index stop.level stop.block)
comes-to p device bytes after stop stops = record {
  done = stops.done;
  next = stops-next (effects is_unread KeepsSame HoldsAll StopsComparing) p bytes stop device after stops;
  same = stops.stopped.1;
}
