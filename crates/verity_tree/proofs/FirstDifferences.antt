-- The first block that passes a test, found from the first of each part and of the join.
use Rattle.std.proofs.Common.{◌≡◌, ℕ, zero, suc, ◌+◌, ◌-◌, ◌*◌, ◌/◌, ◌^◌, ◌<◌, ◌≤◌, min, Bool, true, false, cond, eqb, ltb, leb, List, [], ◌∷◌, ◌++◌}
use Rattle.std.proofs.{Common.{length, map, All, IfSome, arith, refl, sym, ◌∙◌, ap, ap₂, inl, inr}, lemmas.Bool.Decides.nat_tests}
use Rattle.std.proofs.{lemmas.Bool.{cases_Bool, cases_eq, cases_lt, cond_both, eq-eqb, ne_eqb, le-leb, lt-leb, lt-ltb, le-ltb}, Math.Nat.one-le-pow}
use Rattle.std.{proofs.lemmas.{List.Folds.find-append, Nat.{div-add-mod', mod_below}}, specs.{List.{filter, range_with_len}, Option.option_or}}
use Rattle.std.proofs.lemmas.List.Elements.{All-append, All-cons, All-filter, All-head, All-nil, All-tail, All-weaker, filter-append}
use Rattle.{std.specs.Prelude.{◌&&◌, Option, Some, None, find, nat_le, nat_lt}, verity_plan.proofs.{FanLemmas.fan-some, IndexLemmas.quotient-below}}
use Rattle.verity_plan.{specs.{Plans.{PlanFields, level_count}, PlanCounts.count_under, Settings.fan}, proofs.CountLemmas.{le-div_ceil, mul_le}}
use Rattle.verity_blocks.specs.{ClosingOrder.{BlockIndex, block_index, closed_after, closes, closing_with, closing_moment}, Levels.data_blocks}
use Rattle.verity_blocks.proofs.{Levels.DataBlocks.whole_blocks-all, Order.{ClosesOnce.closes-time, ClosingInTurn.passing}}
use Rattle.{verity_builders.specs.Parts.{closed_in_join, closed_in_part}, verity_pass.specs.Verdicts.{differs, verdict, verdict_by}}
use Rattle.verity_tree.specs.FirstDifferences.{closes_before, earlier, earliest, first_of_each}

-- what holds of each block of a list holds of the one that is found
find-if : (P : BlockIndex → Type 0) (test : BlockIndex → Bool) (blocks : List BlockIndex) → All P blocks
    → IfSome (find test blocks) P
find-if P test [] all = tt
find-if P test (b ∷ blocks) all =
    cond_both (test b) (Some b) (find test blocks) (λ found. IfSome found P) (λ here. All-head P b blocks all)
    (λ later. find-if P test blocks (All-tail P b blocks all))

-- what there is, or else nothing
or-none : (x : Option BlockIndex) → x ≡ option_or x None
or-none None = refl
or-none (Some b) = refl

-- what holds of each of two blocks holds of the earlier one
earlier-if : (f n : ℕ) (P : BlockIndex → Type 0) (x y : Option BlockIndex) → IfSome x P → IfSome y P
    → IfSome (earlier f n x y) P
earlier-if f n P None y left right = right
earlier-if f n P (Some a) None left right = left
earlier-if f n P (Some a) (Some b) left right =
    cond_both (closes_before f n b a) (Some b) (Some a) (λ found. IfSome found P) (λ before. right) (λ after. left)

-- and what holds of each of several holds of the earliest
earliest-if : (f n : ℕ) (P : BlockIndex → Type 0) (g : ℕ → Option BlockIndex) (a m : ℕ) → ((k : ℕ) → IfSome (g k) P)
    → IfSome (earliest f n (map g (range_with_len a m))) P
unfolding earliest
earliest-if f n P g a zero each = tt
earliest-if f n P g a (suc m) each =
    earlier-if f n P (g a) (earliest f n (map g (range_with_len (a + 1) m))) (each a)
    (earliest-if f n P g (a + 1) m each)

-- a block that closes after no more than i data blocks, if there is one
abbrev Closed : ℕ → ℕ → ℕ → Option BlockIndex → Type 0
Closed f n i x = IfSome x (λ b. closing_moment f n b ≤ i)

-- one that closes after more than i
abbrev Later : ℕ → ℕ → ℕ → Option BlockIndex → Type 0
Later f n i x = IfSome x (λ b. i < closing_moment f n b)

-- a block that has closed is before one that closes later
closed-first : (f n i : ℕ) (a b : BlockIndex) → closing_moment f n a ≤ i → i < closing_moment f n b
    → (closes_before f n a b ≡ true) × (closes_before f n b a ≡ false)
closed-first f n i a b closed later = (grind (arith, nat_tests, closed, later), grind (arith, nat_tests, closed, later))

-- of two blocks that have closed, or else close later, the earlier is the earlier of those that have closed, or else of
-- the others
earlier-or : (f n i : ℕ) (x y u v : Option BlockIndex) → Closed f n i x → Closed f n i y → Later f n i u → Later f n i v
    → earlier f n (option_or x u) (option_or y v) ≡ option_or (earlier f n x y) (earlier f n u v)
earlier-or f n i None None u v cx cy lu lv = refl
earlier-or f n i (Some a) None u None cx cy lu lv = refl
earlier-or f n i (Some a) None u (Some d) cx cy lu lv = let no = (closed-first f n i a d cx lv).1 in rw no refl
earlier-or f n i None (Some b) None v cx cy lu lv = refl
earlier-or f n i None (Some b) (Some c) v cx cy lu lv = let yes = (closed-first f n i b c cy lu).0 in rw yes refl
earlier-or f n i (Some a) (Some b) u v cx cy lu lv =
    cond_both (closes_before f n b a) (Some b) (Some a) (λ x. x ≡ option_or x (earlier f n u v)) (λ before. refl)
    (λ after. refl)

-- and so with the earliest of several
earliest-or : (f n i : ℕ) (g u h : ℕ → Option BlockIndex) (a m : ℕ) → ((k : ℕ) → Closed f n i (g k))
    → ((k : ℕ) → Later f n i (u k)) → ((k : ℕ) → h k ≡ option_or (g k) (u k))
    → earliest f n (map h (range_with_len a m))
    ≡ option_or (earliest f n (map g (range_with_len a m))) (earliest f n (map u (range_with_len a m)))
unfolding earliest
earliest-or f n i g u h a zero closed later each = refl
earliest-or f n i g u h a (suc m) closed later each =
    let more = earliest-or f n i g u h (a + 1) m closed later each in
    rw (each a, more)
    (earlier-or f n i (g a) (earliest f n (map g (range_with_len (a + 1) m))) (u a)
    (earliest f n (map u (range_with_len (a + 1) m))) (closed a)
    (earliest-if f n (λ b. closing_moment f n b ≤ i) g (a + 1) m closed) (later a)
    (earliest-if f n (λ b. i < closing_moment f n b) u (a + 1) m later))

-- of a block and none, the block
earlier-none : (f n : ℕ) (x : Option BlockIndex) → earlier f n x None ≡ x
earlier-none f n None = refl
earlier-none f n (Some b) = refl

-- the one that there is, at one number of a range
earliest-one : (f n q : ℕ) (x : Option BlockIndex) (a m : ℕ)
    → earliest f n (map (λ k. cond (eqb k q) x None) (range_with_len a m)) ≡ cond (leb a q && ltb q (a + m)) x None
unfolding earliest
earliest-one f n q x a zero = grind (arith, nat_tests)
earliest-one f n q x a (suc m) =
    grind (arith, nat_tests, earliest-one f n q x (a + 1) m, earlier-none f n x)

-- after a block in closing order, with the same data block
abbrev Above : ℕ → ℕ → BlockIndex → BlockIndex → Type 0
Above f n a b = (closing_moment f n b ≡ closing_moment f n a) × (a.level < b.level)

-- such a block isn't the earlier one, whichever stands first
earlier-left : (f n : ℕ) (a : BlockIndex) (x : Option BlockIndex) → IfSome x (Above f n a)
    → earlier f n (Some a) x ≡ Some a
earlier-left f n a None above = refl
earlier-left f n a (Some b) above =
    let no : closes_before f n b a ≡ false = grind (arith, nat_tests, above.0, above.1) in rw no refl

earlier-right : (f n : ℕ) (a : BlockIndex) (x : Option BlockIndex) → IfSome x (Above f n a)
    → earlier f n x (Some a) ≡ Some a
earlier-right f n a None above = refl
earlier-right f n a (Some b) above =
    let yes : closes_before f n a b ≡ true = grind (arith, nat_tests, above.0, above.1) in rw yes refl

-- the blocks of a level and above, and those below
abbrev in_join : ℕ → List BlockIndex → List BlockIndex
in_join level blocks = filter (λ block. nat_le level block.level) blocks

abbrev in_parts : ℕ → List BlockIndex → List BlockIndex
in_parts level blocks = filter (λ block. nat_lt block.level level) blocks

-- of the first that passes in the join and the first in the parts, the earlier is the first of all
abbrev FirstOfBoth : ℕ → ℕ → ℕ → (BlockIndex → Bool) → List BlockIndex → Type 0
FirstOfBoth f n level test blocks =
    earlier f n (find test (in_join level blocks)) (find test (in_parts level blocks)) ≡ find test blocks

-- so with one more block before the others
both-more : (f n level : ℕ) (test : BlockIndex → Bool) (a : BlockIndex) (blocks : List BlockIndex)
    → All (Above f n a) blocks → FirstOfBoth f n level test blocks → FirstOfBoth f n level test (a ∷ blocks)
both-more f n level test a blocks above both = elim (cases_lt a.level level) [
  | inl below ↦
      let low = lt-ltb a.level level below in
      let not_high = lt-leb level a.level below in
      elim (cases_Bool (test a)) [
        | inl here ↦ rw (low, not_high, here) (earlier-right f n a (find test (in_join level blocks))
            (find-if (Above f n a) test (in_join level blocks) (All-filter _ (Above f n a) blocks above)))
        | inr fails ↦ rw (low, not_high, fails) both
      ]
  | inr from ↦
      let high = le-leb level a.level from in
      let not_low = le-ltb a.level level from in
      elim (cases_Bool (test a)) [
        | inl here ↦ rw (high, not_low, here) (earlier-left f n a (find test (in_parts level blocks))
            (find-if (Above f n a) test (in_parts level blocks) (All-filter _ (Above f n a) blocks above)))
        | inr fails ↦ rw (high, not_low, fails) both
      ]
]

-- what holds of the block of each level of a run that passes
All-run : (P : BlockIndex → Type 0) (g : ℕ → ℕ) (c : ℕ → Bool) (a k : ℕ)
    → ((l : ℕ) → a ≤ l → c l ≡ true → P (block_index l (g l))) → All P (passing g c (range_with_len a k))
All-run P g c a zero each = All-nil P
All-run P g c a (suc k) each =
    let rest = All-run P g c (a + 1) k (λ l from. each l (omega (arith, from))) in
    elim (cases_Bool (c a)) [
      | inl does ↦ rw does (All-cons P (block_index a (g a)) _ (each a (omega arith) does) rest)
      | inr fails ↦ rw fails rest
    ]

-- blocks of rising levels that close with one data block
both-run : (f n t level : ℕ) (test : BlockIndex → Bool) (g : ℕ → ℕ) (c : ℕ → Bool) (a k : ℕ)
    → ((l : ℕ) → c l ≡ true → closing_moment f n (block_index l (g l)) ≡ t)
    → FirstOfBoth f n level test (passing g c (range_with_len a k))
both-run f n t level test g c a zero time = refl
both-run f n t level test g c a (suc k) time =
    let rest = both-run f n t level test g c (a + 1) k time in
    elim (cases_Bool (c a)) [
      | inl does ↦ rw does (both-more f n level test (block_index a (g a)) (passing g c (range_with_len (a + 1) k))
          (All-run (Above f n (block_index a (g a))) g c (a + 1) k
          (λ l from passes. (time l passes ∙ sym (time a does), omega (arith, from)))) rest)
      | inr fails ↦ rw fails rest
    ]

-- a block that closes with data block i does so after i + 1 data blocks
closes-moment : (f n i l : ℕ) → 0 < f → i < n → closes f n i l ≡ true
    → closing_moment f n (block_index l (i / f ^ (l + 1))) ≡ i + 1
closes-moment f n i l some below does =
    let place = quotient-below i n (f ^ (l + 1)) (one-le-pow (l + 1) f some) below in
    let time = closes-time f n l (i / f ^ (l + 1)) i some below place in
    grind (arith, nat_tests, time, does)

-- and so does each that closes with it
closing-moments : (f n i : ℕ) → 0 < f → i < n → All (λ b. closing_moment f n b ≡ i + 1) (closing_with f n i)
closing-moments f n i some below =
    All-run (λ b. closing_moment f n b ≡ i + 1) (λ l. i / f ^ (l + 1)) (closes f n i) 0 (level_count f n)
    (λ l from. closes-moment f n i l some below)

-- the blocks that close with a data block
both-closing : (f n level i : ℕ) (test : BlockIndex → Bool) → 0 < f → i < n
    → FirstOfBoth f n level test (closing_with f n i)
both-closing f n level i test some below =
    both-run f n (i + 1) level test (λ l. i / f ^ (l + 1)) (closes f n i) 0 (level_count f n)
    (λ l. closes-moment f n i l some below)

-- what has closed after j data blocks closes no later than after i
closed-moments : (f n i j : ℕ) → 0 < f → j ≤ i → i ≤ n → All (λ b. closing_moment f n b ≤ i) (closed_after f n j)
unfolding closed_after
closed-moments f n i zero some least most = All-nil (λ b. closing_moment f n b ≤ i)
closed-moments f n i (suc j) some least most =
    All-append (λ b. closing_moment f n b ≤ i) (closed_after f n j) (closing_with f n j)
    (closed-moments f n i j some (omega arith) most)
    (All-weaker (λ b. closing_moment f n b ≡ j + 1) (λ b. closing_moment f n b ≤ i)
    (λ b is. omega (arith, is)) (closing_with f n j)
    (closing-moments f n j some (omega arith)))

-- so do the blocks of a part of which no data block comes later
part-moments : (f n level i first count : ℕ) → 0 < f → (0 < count → first + count ≤ i) → i ≤ n
    → All (λ b. closing_moment f n b ≤ i) (closed_in_part f n level first count)
unfolding closed_in_part
part-moments f n level i first zero some least most = All-nil (λ b. closing_moment f n b ≤ i)
part-moments f n level i first (suc count) some least most =
    let last : first + suc count ≤ i = least (omega arith) in
    All-append (λ b. closing_moment f n b ≤ i) (closed_in_part f n level first count)
    (in_parts level (closing_with f n (first + count)))
    (part-moments f n level i first count some (λ more. omega (arith, last)) most)
    (All-filter _ (λ b. closing_moment f n b ≤ i) (closing_with f n (first + count))
    (All-weaker (λ b. closing_moment f n b ≡ first + count + 1) (λ b. closing_moment f n b ≤ i)
    (λ b is. omega (arith, is, last)) (closing_with f n (first + count))
    (closing-moments f n (first + count) some (omega (arith, last)))))

-- how many of the first i data blocks are in a part
abbrev count_in : ℕ → ℕ → ℕ → ℕ
count_in w i part = min w (i - part * w)

-- the first block of a part that passes, of those that close with the first i data blocks
abbrev first_in : ℕ → ℕ → ℕ → (BlockIndex → Bool) → ℕ → ℕ → Option BlockIndex
first_in f n level test i part =
    find test (closed_in_part f n level (part * f ^ level) (count_in (f ^ level) i part))

-- with one data block more
first_in-more : (f n level : ℕ) (test : BlockIndex → Bool) (i part : ℕ) → 0 < f
    → first_in f n level test (suc i) part
    ≡ option_or (first_in f n level test i part)
    (cond (eqb part (i / f ^ level)) (find test (in_parts level (closing_with f n i))) None)
unfolding closed_in_part
first_in-more f n level test i part some =
    let w = f ^ level in
    let first = part * w in
    let split = div-add-mod' i w in
    let low = mod_below i w (one-le-pow level f some) in
    elim (cases_eq part (i / w)) [
      | inl here ↦
          let start : first ≡ i / w * w = ap (λ (q : ℕ). q * w) here in
          let more : count_in w (suc i) part ≡ suc (count_in w i part) = omega (arith, start, split, low) in
          let last : first + count_in w i part ≡ i = omega (arith, start, split, low) in
          let same = eq-eqb part (i / w) here in
          rw same (ap (λ (count : ℕ). find test (closed_in_part f n level first count)) more
          ∙ ap (λ (j : ℕ). find test (closed_in_part f n level first (count_in w i part)
          ++ in_parts level (closing_with f n j))) last
          ∙ find-append test (closed_in_part f n level first (count_in w i part)) (in_parts level (closing_with f n i)))
      | inr other ↦
          let before : part < i / w → (part + 1) * w ≤ i / w * w = λ less.
          mul_le (part + 1) (i / w) w (omega (arith, less)) in
          let past : i / w < part → (i / w + 1) * w ≤ first = λ more.
          mul_le (i / w + 1) part w (omega (arith, more)) in
          let stays : count_in w (suc i) part ≡ count_in w i part = grind (arith, split, low, before, past, other) in
          let apart = ne_eqb part (i / w) other in
          rw apart (ap (λ (count : ℕ). find test (closed_in_part f n level first count)) stays
          ∙ or-none (first_in f n level test i part))
    ]

-- with no data block no hash block closes
earliest-start : (f n level : ℕ) (test : BlockIndex → Bool) (a m : ℕ)
    → earliest f n (map (first_in f n level test 0) (range_with_len a m)) ≡ None
unfolding earliest closed_in_part
earliest-start f n level test a zero = refl
earliest-start f n level test a (suc m) =
    let none : count_in (f ^ level) 0 a ≡ 0 = omega arith in
    rw (none, earliest-start f n level test (a + 1) m) refl

-- of what closes with the first i data blocks, the first that passes is the earliest of the join's and the parts' first
pub first-so_far : (f n level : ℕ) (test : BlockIndex → Bool) (m i : ℕ) → 0 < f → i ≤ n → n ≤ m * f ^ level
    → find test (closed_after f n i) ≡ earliest f n (find test (closed_in_join f n level i)
    ∷ map (first_in f n level test i) (range_with_len 0 m))
unfolding closed_after earliest
first-so_far f n level test m zero some most enough = sym (earliest-start f n level test 0 m)
first-so_far f n level test m (suc i) some most enough =
    let below : i < n = omega arith in
    let q = i / f ^ level in
    let closed = closed_after f n i in
    let closing = closing_with f n i in
    let later = All-weaker (λ b. closing_moment f n b ≡ i + 1) (λ b. i < closing_moment f n b)
    (λ b is. omega (arith, is)) closing (closing-moments f n i some below) in
    let join = find test (in_join level closed) in
    let joined = find-if (λ b. closing_moment f n b ≤ i) test (in_join level closed)
    (All-filter _ (λ b. closing_moment f n b ≤ i) closed (closed-moments f n i i some (omega arith) (omega arith))) in
    let in_part = first_in f n level test i in
    let parted : (k : ℕ) → Closed f n i (in_part k) = λ k.
    let count = count_in (f ^ level) i k in
    find-if (λ b. closing_moment f n b ≤ i) test (closed_in_part f n level (k * f ^ level) count)
    (part-moments f n level i (k * f ^ level) count some (λ more. omega (arith, more)) (omega arith)) in
    let parts = earliest f n (map in_part (range_with_len 0 m)) in
    let above = find test (in_join level closing) in
    let above_later = find-if (λ b. i < closing_moment f n b) test (in_join level closing)
    (All-filter _ (λ b. i < closing_moment f n b) closing later) in
    let under = find test (in_parts level closing) in
    let under_later = find-if (λ b. i < closing_moment f n b) test (in_parts level closing)
    (All-filter _ (λ b. i < closing_moment f n b) closing later) in
    let added : ℕ → Option BlockIndex = λ k. cond (eqb k q) under None in
    let added_later : (k : ℕ) → Later f n i (added k) = λ k.
    cond_both (eqb k q) under None (Later f n i) (λ here. under_later) (λ other. tt) in
    let inside : q < m = elim (cases_lt q m) [
      | inl less ↦ less
      | inr past ↦ absurd (omega (arith, mul_le m q (f ^ level) past, div-add-mod' i (f ^ level), enough, below))
    ] in
    let within : (leb 0 q && ltb q (0 + m)) ≡ true = grind (arith, nat_tests, inside) in
    let one : earliest f n (map added (range_with_len 0 m)) ≡ under = earliest-one f n q under 0 m ∙ rw within refl in
    let join_more : find test (in_join level (closed ++ closing)) ≡ option_or join above =
    ap (find test) (filter-append _ closed closing) ∙ find-append test (in_join level closed) (in_join level closing) in
    let parts_more : earliest f n (map (first_in f n level test (suc i)) (range_with_len 0 m)) ≡ option_or parts under =
    earliest-or f n i in_part added (first_in f n level test (suc i)) 0 m parted added_later
    (λ k. first_in-more f n level test i k some) ∙ ap (option_or parts) one in
    find-append test closed closing
    ∙ ap₂ option_or (first-so_far f n level test m i some (omega arith) enough)
    (sym (both-closing f n level i test some below))
    ∙ sym (earlier-or f n i join parts above under joined
    (earliest-if f n (λ b. closing_moment f n b ≤ i) in_part 0 m parted) above_later under_later)
    ∙ sym (ap₂ (earlier f n) join_more parts_more)

-- of a tree's hash blocks in closing order the first that passes a test is the earliest of the first ones
pub first-of_each : (p : PlanFields) (level : ℕ) (test : BlockIndex → Bool)
    → find test (closed_after (fan p.settings) p.blocks p.blocks)
    ≡ earliest (fan p.settings) p.blocks (first_of_each p level test)
first-of_each p level test =
    let f = fan p.settings in
    let some = fan-some p.settings in
    first-so_far f p.blocks level test (count_under p level) p.blocks some (omega arith)
    (le-div_ceil p.blocks (f ^ level) (count_under p level) (one-le-pow level f some) (omega arith))

-- and so the verdict on a device, where there is all the data
pub verdict-of_each : (p : PlanFields) (level : ℕ) (device bytes digest : List ℕ) → p.wanted ≤ length bytes
    → verdict p device bytes digest ≡ verdict_by p device bytes
    (earliest (fan p.settings) p.blocks (first_of_each p level (differs p (data_blocks p bytes) device))) digest
verdict-of_each p level device bytes digest enough =
    let test = differs p (data_blocks p bytes) device in
    ap (λ (i : ℕ). verdict_by p device bytes (find test (closed_after (fan p.settings) p.blocks i)) digest)
    (whole_blocks-all p bytes enough)
    ∙ ap (λ (first : Option BlockIndex). verdict_by p device bytes first digest) (first-of_each p level test)
