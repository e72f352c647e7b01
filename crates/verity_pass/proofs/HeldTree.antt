-- A device that holds the whole tree, and the verdict on it.
use Rattle.std.proofs.Common.{◌≡◌, ℕ, ◌/◌, ◌<◌, ◌≤◌, Bool, false, List, [], ◌∷◌, length, arith, sym, ◌∙◌, ap, refl, inl, inr, Ok}
use Rattle.std.proofs.lemmas.{Bool.{cases_Bool, not-false, Decides.nat_tests}, List.Elements.{All-cons, All-nil}, Nat.div-add-mod'}
use Rattle.std.{proofs.lemmas.Slice.Eq.bytes_eq-Decides, specs.Prelude.{find, Some, None, Option}}
use Rattle.verity_plan.{specs.{Plans.{PlanFields, IsPlan}, Settings.fan}, proofs.{CountLemmas.le-div_ceil, FanLemmas.{fan-some, some_data}}}
use Rattle.verity_blocks.specs.{ClosingOrder.{BlockIndex, block_index, closed_after, times}, TreeOnDevice.HoldsTree}
use Rattle.verity_blocks.{specs.Levels.{root, data_blocks, whole_blocks}, proofs.Levels.DataBlocks.whole_blocks-all}
use Rattle.verity_blocks.proofs.Order.{ClosesOnce.ClosesOnce-all, TimesCounted.{times-more, times-cases, times-first}}
use Rattle.verity_pass.{specs.Verdicts.{NoneDiffers, HoldsBlockAt, differs, verdict_by, verdict}, proofs.Passes.ComparedPass.judges-right}

-- a block that is counted among blocks of which none passes a test doesn't pass it
times-none : (test : BlockIndex → Bool) (l j : ℕ) (hash_blocks : List BlockIndex) → find test hash_blocks ≡ None
    → 0 < times l j hash_blocks
    → test (block_index l j) ≡ false
times-none test l j [] none some = absurd (omega (arith, some))
times-none test l j (at ∷ hash_blocks) none some = elim (cases_Bool (test at)) [
  | inl does ↦ let found = rw does at none in cc
  | inr fails ↦ elim (times-cases l j at hash_blocks some) [
    | inl here ↦ let level = here.0 in let index = here.1 in rw (← level, ← index) fails
    | inr later ↦ times-none test l j hash_blocks (rw fails at none) later
  ]
]

-- blocks that all stand there, each that is counted
pub stands-counted : (p : PlanFields) (blocks : List (List ℕ)) (device : List ℕ) (hash_blocks : List BlockIndex)
    → ((l j : ℕ) → 0 < times l j hash_blocks → HoldsBlockAt p blocks device (block_index l j))
    → NoneDiffers p blocks device hash_blocks
stands-counted p blocks device [] each = All-nil (HoldsBlockAt p blocks device)
stands-counted p blocks device (at ∷ hash_blocks) each =
    All-cons (HoldsBlockAt p blocks device) at hash_blocks (each at.level at.index (times-first at hash_blocks))
    (stands-counted p blocks device hash_blocks
    (λ l j some. each l j (omega (arith, some, times-more l j at hash_blocks))))

-- a device that holds the tree has this verdict
pub holds-right : (p : PlanFields) (device bytes digest : List ℕ) → HoldsTree p device bytes digest
    → verdict p device bytes digest ≡ Ok tt
holds-right p device bytes digest holds =
    let once = ClosesOnce-all (fan p.settings) p.blocks (fan-some p.settings) in
    judges-right p device bytes (root p.settings (data_blocks p bytes)) digest holds.enough
    (stands-counted p (data_blocks p bytes) device (closed_after (fan p.settings) p.blocks p.blocks)
    (λ l j some. holds.stands l j (once.only l j some)))
    refl holds.root_is

-- a verdict that all is right: nothing differs, no block is missing, and the root hash is the tree's
all-right : (p : PlanFields) (device bytes digest : List ℕ) (met : Option BlockIndex)
    → verdict_by p device bytes met digest ≡ Ok tt
    → (met ≡ None) × (p.blocks ≤ whole_blocks p bytes) × (root p.settings (data_blocks p bytes) ≡ digest)
all-right p device bytes digest (Some at) right = cc
all-right p device bytes digest None right =
    (refl, grind (arith, nat_tests, right), (bytes_eq-Decides _ _).0 (grind (arith, nat_tests, right)))

-- a device with this verdict holds the tree, if the data is long enough
pub right-holds_enough : (p : PlanFields) (device bytes digest : List ℕ) → p.wanted ≤ length bytes
    → verdict p device bytes digest ≡ Ok tt
    → HoldsTree p device bytes digest
right-holds_enough p device bytes digest enough right =
    let blocks = data_blocks p bytes in
    let f = fan p.settings in
    let tests =
    all-right p device bytes digest
    (find (differs p blocks device) (closed_after f p.blocks (whole_blocks p bytes))) right in
    let none : find (differs p blocks device) (closed_after f p.blocks p.blocks) ≡ None =
    ap (λ (m : ℕ). find (differs p blocks device) (closed_after f p.blocks m))
    (sym (whole_blocks-all p bytes enough)) ∙ tests.0 in
    record {
      enough = enough;
      stands = λ l j here. (bytes_eq-Decides _ _).0 (not-false _
          (times-none (differs p blocks device) l j (closed_after f p.blocks p.blocks) none
          (let one = (ClosesOnce-all f p.blocks (fan-some p.settings)).once l j here in omega (arith, one))));
      root_is = tests.2;
    }

-- it is, if all is right
pub right-holds : (p : PlanFields) (device bytes digest : List ℕ) → IsPlan p → verdict p device bytes digest ≡ Ok tt
    → HoldsTree p device bytes digest
right-holds p device bytes digest planned right =
    let met =
    find (differs p (data_blocks p bytes) device) (closed_after (fan p.settings) p.blocks (whole_blocks p bytes)) in
    let tests = all-right p device bytes digest met right in
    let d = p.settings.data_block in
    let enough = le-div_ceil p.wanted d (length bytes / d) (some_data p.settings planned.valid) in
    right-holds_enough p device bytes digest
    (grind (arith, nat_tests, tests.1, enough, div-add-mod' (length bytes) d, planned.blocks_are)) right
