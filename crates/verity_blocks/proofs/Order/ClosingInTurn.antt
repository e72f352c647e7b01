-- The closing order, cut between data blocks and between levels, and hash blocks that are put at their places in turn.
use Rattle.std.proofs.Common.{◌≡◌, ℕ, zero, suc, ◌+◌, ◌/◌, ◌%◌, ◌^◌, ◌<◌, ◌≤◌, Bool, true, false, List, [], ◌∷◌, ◌++◌, map, length, arith, sym, ◌∙◌}
use Rattle.std.proofs.{Common.{ap, refl, append_assoc}, lemmas.{Bool.Decides.nat_tests, Nat.{div-add-mod', mod-mul-add}}, Math.Nat.one-le-pow}
use Rattle.std.{proofs.lemmas.List.{FromFn.map-range_with_len_more, append-nil, map-append}, specs.List.{filter, range_with_len}}
use Rattle.{std.specs.Prelude.slice_index_or, verity_plan.specs.{Plans.{level_count, start_byte}, Settings.TreeSettingsFields}}
use Rattle.verity_blocks.{proofs.OpenBlocks.Reached.quotient-stays, specs.{TreeWriting.device_with, Steps.OpenBlocks.IsReached, Levels.blocks_up}}
use Rattle.verity_blocks.specs.ClosingOrder.{BlockIndex, block_index, closes, closing_with, closed_after, first_closing}
use Rattle.verity_io.specs.Writing.{put}

-- the hash blocks of some levels, one of each that passes a test
abbrev pub passing : (ℕ → ℕ) → (ℕ → Bool) → List ℕ → List BlockIndex
passing index passes levels = map (λ level. block_index level (index level)) (filter passes levels)

-- a run of levels that don't pass
pub passing-none : (f : ℕ → ℕ) (c : ℕ → Bool) (a n : ℕ) → ((l : ℕ) → a ≤ l → l < a + n → c l ≡ false)
    → passing f c (range_with_len a n) ≡ []
passing-none f c a zero fail = refl
passing-none f c a (suc n) fail =
    rw (fail a (omega arith) (omega arith))
    (passing-none f c (a + 1) n (λ l from to. fail l (omega (arith, from)) (omega (arith, to))))

-- a test that the first numbers pass leaves them, and nothing after them if the others don't pass
pub filter-front : (c : ℕ → Bool) (a m n : ℕ) → ((l : ℕ) → a ≤ l → l < a + m → c l ≡ true) → m ≤ n
    → (rest : List ℕ) × (filter c (range_with_len a n) ≡ range_with_len a m ++ rest)
    × (((l : ℕ) → a + m ≤ l → l < a + n → c l ≡ false) → rest ≡ [])
filter-front c a zero zero pass le = ([], refl, λ fail. refl)
filter-front c a zero (suc n) pass le =
    let after = filter-front c (a + 1) zero n (λ l from to. absurd (omega (arith, from, to))) (omega arith) in (
      filter c (range_with_len a (suc n)),
      refl,
      λ fail. grind (arith, fail a, after.1, after.2 (λ l from to. fail l (omega (arith, from)) (omega (arith, to)))),
    )
filter-front c a (suc m) zero pass le = absurd (omega arith)
filter-front c a (suc m) (suc n) pass le =
    let after = filter-front c (a + 1) m n (λ l from to. pass l (omega (arith, from)) (omega (arith, to)))
    (omega arith) in
    let passes = pass a (omega arith) (omega arith) in (
      after.0,
      rw passes (ap (λ (xs : List ℕ). a ∷ xs) after.1),
      λ fail. after.2 (λ l from to. fail l (omega (arith, from)) (omega (arith, to))),
    )

-- what closes with a data block is the levels below the first that doesn't close
pub closing-prefix : (f n i m : ℕ) → m ≤ level_count f n → ((l : ℕ) → l < m → closes f n i l ≡ true)
    → ((l : ℕ) → m ≤ l → l < level_count f n → closes f n i l ≡ false) → closing_with f n i ≡ first_closing f i m
closing-prefix f n i m le pass fail =
    let front = filter-front (closes f n i) 0 m (level_count f n) (λ l from to. pass l (omega (arith, to))) le in
    let none = front.2 (λ l from to. fail l (omega (arith, from)) (omega (arith, to))) in
    ap (map (λ level. block_index level (i / f ^ (level + 1)))) (front.1 ∙ rw none (append-nil _))

pub closes-reached : (f n i l : ℕ) → 0 < f → IsReached f i (l + 1) → closes f n i l ≡ true
closes-reached f n i l some h =
    let w = f ^ (l + 1) in
    let whole = mod-mul-add (i / w + 1) w 0 (one-le-pow (l + 1) f some) in
    grind (arith, nat_tests, whole, h.whole)

pub closes-last : (f n i l : ℕ) → i + 1 ≡ n → closes f n i l ≡ true
closes-last f n i l last = grind (arith, nat_tests)

-- from a level that stays open none closes
pub closes-none : (f n i m l : ℕ) → 0 < f → IsReached f i m → i / f ^ m % f + 1 < f → i + 1 < n → m ≤ l
    → closes f n i l ≡ false
closes-none f n i m l some h room more above =
    let w = f ^ (l + 1) in
    let stays : (i + 1) / w ≡ i / w = quotient-stays f i m (l + 1) some h room (omega arith) in
    grind (arith, nat_tests, div-add-mod' (i + 1) w, div-add-mod' i w, stays)

-- one block more
pub first_closing-more : (f i m : ℕ)
    → first_closing f i (m + 1) ≡ first_closing f i m ++ block_index m (i / f ^ (m + 1)) ∷ []
first_closing-more f i m =
    map-range_with_len_more (λ level. block_index level (i / f ^ (level + 1))) 0 m m (omega arith)

-- blocks after blocks
pub device_with-append : (s : TreeSettingsFields) (blocks : List (List ℕ)) (base : ℕ) (ps qs : List BlockIndex) (device : List ℕ)
    → device_with s blocks base (ps ++ qs) device ≡ device_with s blocks base qs (device_with s blocks base ps device)
unfolding device_with
device_with-append s blocks base [] qs device = refl
device_with-append s blocks base (p ∷ ps) qs device =
    device_with-append s blocks base ps qs
    (put device (start_byte s (length blocks) base p.level p.index)
    (slice_index_or (blocks_up s blocks (p.level + 1)) p.index []))

-- one data block more in the closing order
pub closed_after-more : (f n i : ℕ) → closed_after f n (i + 1) ≡ closed_after f n i ++ closing_with f n i
unfolding closed_after
closed_after-more f n i = let one : i + 1 ≡ suc i = omega arith in ap (closed_after f n) one

-- what has closed stays at the front of the order
pub closed_after-prefix : (f n i k : ℕ)
    → (rest : List BlockIndex) × (closed_after f n (i + k) ≡ closed_after f n i ++ rest)
unfolding closed_after
closed_after-prefix f n i zero =
    let e : i + 0 ≡ i = omega arith in ([], ap (closed_after f n) e ∙ sym (append-nil (closed_after f n i)))
closed_after-prefix f n i (suc k) =
    let e : i + suc k ≡ suc (i + k) = omega arith in
    let before = closed_after-prefix f n i k in (
      before.0 ++ closing_with f n (i + k),
      rw e (ap (λ (ps : List BlockIndex). ps ++ closing_with f n (i + k)) before.1 ∙ append_assoc _ before.0 _),
    )

-- if the levels up to this one close, its block comes after those of the levels below
pub closing-front : (f n i m : ℕ) → m < level_count f n → ((l : ℕ) → l ≤ m → closes f n i l ≡ true)
    → (rest : List BlockIndex)
    × (closing_with f n i ≡ first_closing f i m ++ block_index m (i / f ^ (m + 1)) ∷ [] ++ rest)
closing-front f n i m below pass =
    let front = filter-front (closes f n i) 0 (m + 1) (level_count f n) (λ l from to. pass l (omega (arith, to)))
    (omega (arith, below)) in
    let g : ℕ → BlockIndex = λ level. block_index level (i / f ^ (level + 1)) in (
      map g front.0,
      ap (map g) front.1
          ∙ map-append g (range_with_len 0 (m + 1)) front.0
          ∙ ap (λ (ps : List BlockIndex). ps ++ map g front.0) (first_closing-more f i m),
    )
