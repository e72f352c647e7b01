-- The closing order of a part's own tree, in the whole tree.
use Rattle.std.proofs.Common.{◌≡◌, ℕ, zero, suc, ◌+◌, ◌-◌, ◌*◌, ◌/◌, ◌%◌, ◌^◌, ◌<◌, ◌≤◌, Bool, true, false, List, ◌∷◌, ◌++◌, map, arith, refl, sym}
use Rattle.std.proofs.{Common.{◌∙◌, ap, cond, inl, inr}, lemmas.{Bool.{cases_lt, Decides.nat_tests}, List.map-append, Nat.pow-add, Simd.map-map}}
use Rattle.{std.specs.{List.{filter, range_with_len}, Prelude.{nat_eq, nat_lt}}, verity_plan.proofs.FanLemmas.{fan-some, fan-two}}
use Rattle.std.proofs.Math.Nat.{add-mul-div_right, mod-eq_of_lt, mul-add-mod_self_right, one-le-pow, pow-le-pow_right, zero-div}
use Rattle.verity_plan.{specs.{Plans.{IsPlan, PlanFields, level_count}, Settings.fan}, proofs.CountLemmas.IsLevelCount-level_count}
use Rattle.verity_builders.{proofs.Parts.PlanOfPart.has-part, specs.Parts.{HasPart, closed_in_part, first_block, handed_out_of_part, plan_of_part}}
use Rattle.verity_blocks.specs.ClosingOrder.{BlockIndex, block_index, blocks_before, closed_after, closes, closing_with, first_closing, handed_out}
use Rattle.verity_blocks.proofs.{Windows.LastByte.last-below, Order.ClosingInTurn.{passing, passing-none}}

-- a hash block of a part's own tree, in the whole tree
abbrev pub in_whole : ℕ → ℕ → ℕ → BlockIndex → BlockIndex
in_whole f level part block = block_index block.level (part * f ^ (level - (block.level + 1)) + block.index)

-- a level's part is made of runs of the levels below
pub power-split : (f level l : ℕ) → l < level → f ^ level ≡ f ^ (level - (l + 1)) * f ^ (l + 1)
power-split f level l below =
    let split : level ≡ level - (l + 1) + (l + 1) = omega (arith, below) in
    ap (λ (n : ℕ). f ^ n) split ∙ pow-add f (level - (l + 1)) (l + 1)

-- the hash block above a part's data block
pub index-in_whole : (f level part i l : ℕ) → 0 < f → l < level
    → part * f ^ (level - (l + 1)) + i / f ^ (l + 1) ≡ (part * f ^ level + i) / f ^ (l + 1)
index-in_whole f level part i l some below =
    let run = f ^ (level - (l + 1)) in
    let width = f ^ (l + 1) in
    let wide : 0 < width = one-le-pow (l + 1) f some in
    let area : part * f ^ level ≡ part * run * width =
    omega (arith, ap (λ (n : ℕ). part * n) (power-split f level l below)) in
    let turned : part * f ^ level + i ≡ i + part * run * width = omega (arith, area) in
    sym (ap (λ (n : ℕ). n / width) turned ∙ add-mul-div_right i (part * run) wide ∙ omega arith)

-- a data block of a part that isn't its last is the last below a hash block of a level if it is so in the whole tree
closes-in_whole : (f few many level part i l : ℕ) → 0 < f → l < level → i + 1 < few → part * f ^ level + i + 1 < many
    → closes f few i l ≡ closes f many (part * f ^ level + i) l
closes-in_whole f few many level part i l some below own whole =
    let run = f ^ (level - (l + 1)) in
    let width = f ^ (l + 1) in
    let next : part * f ^ level + i + 1 ≡ part * run * width + (i + 1) =
    omega (arith, ap (λ (n : ℕ). part * n) (power-split f level l below)) in
    let same : (part * f ^ level + i + 1) % width ≡ (i + 1) % width =
    ap (λ (n : ℕ). n % width) next ∙ mul-add-mod_self_right (part * run) width (i + 1) in
    let first : nat_eq (i + 1) few ≡ false = grind (arith, nat_tests, own) in
    let second : nat_eq (part * f ^ level + i + 1) many ≡ false = grind (arith, nat_tests, whole) in
    rw (first, second, same) refl

-- above all levels of its tree no data block but the last is the last below a hash block
closes-above : (f few i l : ℕ) → 2 ≤ f → i + 1 < few → level_count f few ≤ l → closes f few i l ≡ false
closes-above f few i l two own high =
    let some : 0 < f = omega (arith, two) in
    let enough = (IsLevelCount-level_count f few two).enough in
    let room : i + 1 < f ^ (l + 1) =
    omega (arith, own, enough, pow-le-pow_right some (let e : level_count f few ≤ l + 1 = omega (arith, high) in e)) in
    let rest : (i + 1) % f ^ (l + 1) ≡ i + 1 = mod-eq_of_lt room in
    let first : nat_eq (i + 1) few ≡ false = grind (arith, nat_tests, own) in
    let second : nat_eq (i + 1) 0 ≡ false = grind (arith, nat_tests) in
    rw (rest, first, second) refl

-- a run of levels that pass two tests alike, each with one hash block
passing-same : (f g : ℕ → ℕ) (c d : ℕ → Bool) (a n : ℕ)
    → ((l : ℕ) → a ≤ l → l < a + n → (c l ≡ d l) × (f l ≡ g l))
    → passing f c (range_with_len a n) ≡ passing g d (range_with_len a n)
passing-same f g c d a zero same = refl
passing-same f g c d a (suc n) same =
    let here = same a (omega arith) (omega arith) in
    let rest = passing-same f g c d (a + 1) n (λ l from to. same l (omega (arith, from)) (omega (arith, to))) in
    by_test (c a) (d a) here.0 here.1 rest
  where
    by_test : (x y : Bool) → x ≡ y → f a ≡ g a
        → passing f c (range_with_len (a + 1) n) ≡ passing g d (range_with_len (a + 1) n)
        → map (λ level. block_index level (f level))
        (cond x (a ∷ filter c (range_with_len (a + 1) n)) (filter c (range_with_len (a + 1) n)))
        ≡ map (λ level. block_index level (g level))
        (cond y (a ∷ filter d (range_with_len (a + 1) n)) (filter d (range_with_len (a + 1) n)))
    by_test true true is index rest = cc
    by_test false false is index rest = rest
    by_test true false is index rest = absurd cc
    by_test false true is index rest = absurd cc

-- levels after a run that don't pass
passing-front : (f : ℕ → ℕ) (c : ℕ → Bool) (a n m : ℕ) → n ≤ m → ((l : ℕ) → a + n ≤ l → l < a + m → c l ≡ false)
    → passing f c (range_with_len a m) ≡ passing f c (range_with_len a n)
passing-front f c a zero m le fail = passing-none f c a m (λ l from to. fail l (omega (arith, from)) to)
passing-front f c a (suc n) zero le fail = absurd (omega (arith, le))
passing-front f c a (suc n) (suc m) le fail =
    by_test (c a) (passing-front f c (a + 1) n m (omega (arith, le))
    (λ l from to. fail l (omega (arith, from)) (omega (arith, to))))
  where
    by_test : (x : Bool) → passing f c (range_with_len (a + 1) m) ≡ passing f c (range_with_len (a + 1) n)
        → map (λ level. block_index level (f level))
        (cond x (a ∷ filter c (range_with_len (a + 1) m)) (filter c (range_with_len (a + 1) m)))
        ≡ map (λ level. block_index level (f level))
        (cond x (a ∷ filter c (range_with_len (a + 1) n)) (filter c (range_with_len (a + 1) n)))
    by_test true rest = cc
    by_test false rest = rest

-- a level is below another and passes
abbrev below_and : ℕ → (ℕ → Bool) → ℕ → Bool
below_and level passes l = cond (nat_lt l level) (passes l) false

-- the hash blocks of the levels below one
below-blocks : (f : ℕ → ℕ) (c : ℕ → Bool) (level a n : ℕ)
    → filter (λ block. nat_lt block.level level) (passing f c (range_with_len a n))
    ≡ passing f (below_and level c) (range_with_len a n)
below-blocks f c level a zero = refl
below-blocks f c level a (suc n) = by_test (c a) (nat_lt a level) refl (below-blocks f c level (a + 1) n)
  where
    by_test : (x y : Bool) → nat_lt a level ≡ y
        → filter (λ block. nat_lt block.level level) (passing f c (range_with_len (a + 1) n))
        ≡ passing f (below_and level c) (range_with_len (a + 1) n)
        → filter (λ block. nat_lt block.level level) (map (λ level. block_index level (f level))
        (cond x (a ∷ filter c (range_with_len (a + 1) n)) (filter c (range_with_len (a + 1) n))))
        ≡ map (λ level. block_index level (f level)) (cond (cond y x false)
        (a ∷ filter (below_and level c) (range_with_len (a + 1) n))
        (filter (below_and level c) (range_with_len (a + 1) n)))
    by_test true true test rest = rw test (cc)
    by_test true false test rest = rw test rest
    by_test false true test rest = rest
    by_test false false test rest = rest

-- a run of levels, each with one hash block
indices-same : (f g : ℕ → BlockIndex) (a n : ℕ) → ((l : ℕ) → a ≤ l → l < a + n → f l ≡ g l)
    → map f (range_with_len a n) ≡ map g (range_with_len a n)
indices-same f g a zero same = refl
indices-same f g a (suc n) same =
    let here = same a (omega arith) (omega arith) in
    let rest = indices-same f g (a + 1) n (λ l from to. same l (omega (arith, from)) (omega (arith, to))) in
    cc

-- what closes in a part with a data block, not its last, is what closes in the whole tree below the part's level
closing-in_whole : (f few many level part i : ℕ) → 2 ≤ f → level_count f few ≤ level → level ≤ level_count f many
    → i + 1 < few → part * f ^ level + i + 1 < many
    → map (in_whole f level part) (closing_with f few i)
    ≡ filter (λ block. nat_lt block.level level) (closing_with f many (part * f ^ level + i))
closing-in_whole f few many level part i two low high own whole =
    let some : 0 < f = omega (arith, two) in
    let k = part * f ^ level + i in
    let own_index = λ (l : ℕ). part * f ^ (level - (l + 1)) + i / f ^ (l + 1) in
    let index = λ (l : ℕ). k / f ^ (l + 1) in
    let c = closes f few i in
    let d = below_and level (closes f many k) in
    let passes : (l : ℕ) → l < level → d l ≡ c l = λ l below.
    let tested : nat_lt l level ≡ true = grind (arith, nat_tests, below) in
    rw tested (sym (closes-in_whole f few many level part i l some below own whole)) in
    let fails : (l : ℕ) → level ≤ l → d l ≡ false = λ l past.
    let tested : nat_lt l level ≡ false = grind (arith, nat_tests, past) in rw tested refl in
    map-map (in_whole f level part) (λ l. block_index l (i / f ^ (l + 1)))
    (filter c (range_with_len 0 (level_count f few)))
    ∙ passing-same own_index index c d 0 (level_count f few) (λ l from to.
    let below : l < level = omega (arith, to, low) in
    (sym (passes l below), index-in_whole f level part i l some below))
    ∙ sym (passing-front index d 0 (level_count f few) (level_count f many) (omega (arith, low, high)) (λ l from to.
    elim (cases_lt l level) [
      | inl below ↦ passes l below ∙ closes-above f few i l two own (omega (arith, from))
      | inr past ↦ fails l past
    ]))
    ∙ sym (below-blocks index (closes f many k) level 0 (level_count f many))

-- what has closed in a part before its last data block
pub closed-in_whole : (f few many level part k : ℕ) → 2 ≤ f → level_count f few ≤ level → level ≤ level_count f many
    → k < few → part * f ^ level + k < many
    → map (in_whole f level part) (closed_after f few k) ≡ closed_in_part f many level (part * f ^ level) k
unfolding closed_after closed_in_part
closed-in_whole f few many level part zero two low high own whole = refl
closed-in_whole f few many level part (suc k) two low high own whole =
    map-append (in_whole f level part) (closed_after f few k) (closing_with f few k)
    ∙ ap (λ (xs : List BlockIndex). xs ++ map (in_whole f level part) (closing_with f few k))
    (closed-in_whole f few many level part k two low high (omega (arith, own)) (omega (arith, whole)))
    ∙ ap (λ (xs : List BlockIndex). closed_in_part f many level (part * f ^ level) k ++ xs)
    (closing-in_whole f few many level part k two low high (omega (arith, own)) (omega (arith, whole)))

-- the hash blocks that close first above a part's data block
first_closing-in_whole : (f level part i closed : ℕ) → 0 < f → closed ≤ level
    → map (in_whole f level part) (first_closing f i closed) ≡ first_closing f (part * f ^ level + i) closed
first_closing-in_whole f level part i closed some most =
    map-map (in_whole f level part) (λ l. block_index l (i / f ^ (l + 1))) (range_with_len 0 closed)
    ∙ indices-same _ _ 0 closed (λ l from to. ap (block_index l)
    (index-in_whole f level part i l some (omega (arith, to, most))))

-- the data block that the last of some bytes of a part is in
pub part-last-below : (p : PlanFields) (level part count : ℕ) → IsPlan p → HasPart p level part
    → count ≤ (plan_of_part p level part).wanted
    → (blocks_before p.settings count < (plan_of_part p level part).blocks)
    × (first_block p level part + blocks_before p.settings count < p.blocks)
part-last-below p level part count planned has most =
    let own = plan_of_part p level part in
    let part_is = has-part p level part planned has in
    let below : blocks_before p.settings count < own.blocks = elim (cases_lt 0 count) [
      | inl some ↦ last-below own count part_is.planned some most
      | inr none ↦
          let zero_is : count ≡ 0 = omega (arith, none) in
          let first : blocks_before p.settings count ≡ 0 =
          ap (blocks_before p.settings) zero_is ∙ zero-div p.settings.data_block in
          omega (arith, first, part_is.begins, part_is.wide)
    ] in
    (below, omega (arith, below))

-- the hash blocks that a part's own tree handed out are those of the part in the whole tree
pub handed-in_whole : (p : PlanFields) (level part count closed : ℕ) → IsPlan p → HasPart p level part
    → count ≤ (plan_of_part p level part).wanted → closed ≤ level
    → map (in_whole (fan p.settings) level part) (handed_out (plan_of_part p level part) count closed)
    ≡ handed_out_of_part p level part count closed
handed-in_whole p level part count closed planned has most few =
    let f = fan p.settings in
    let own = plan_of_part p level part in
    let part_is = has-part p level part planned has in
    let i = blocks_before p.settings count in
    let below = part-last-below p level part count planned has most in
    map-append (in_whole f level part) (closed_after f own.blocks i) (first_closing f i closed)
    ∙ ap (λ (xs : List BlockIndex). xs ++ map (in_whole f level part) (first_closing f i closed))
    (closed-in_whole f own.blocks p.blocks level part i
    (fan-two p.settings planned.valid) part_is.levels_most has.level_most
    below.0 below.1)
    ∙ ap (λ (xs : List BlockIndex). closed_in_part f p.blocks level (first_block p level part) i ++ xs)
    (first_closing-in_whole f level part i closed (fan-some p.settings) few)
