-- What a part and a join have handed out at their beginnings and ends.
use Rattle.std.proofs.Common.{◌≡◌, ℕ, zero, suc, ◌+◌, ◌-◌, ◌*◌, ◌/◌, ◌%◌, ◌^◌, ◌<◌, ◌≤◌, ◌⊎◌, min, Bool, true, false, List, [], ◌∷◌, ◌++◌, map, arith}
use Rattle.std.{proofs.lemmas.{List.Elements.filter-append, Nat.{div-add-mod', mod-mul-add, pow-add}}, specs.{Int.div_ceil, Prelude.{◌&&◌, nat_le}}}
use Rattle.std.{proofs.lemmas.List.FromFn.{fill_by_all, get_or-map-range_with_len, length-map-range_with_len}, specs.List.{filter, range_with_len}}
use Rattle.std.proofs.{Math.Nat.{div-div-eq-div-mul, div-mul-le_self, mul_assoc, one-le-pow, zero-div}, Common.{refl, sym, ◌∙◌, ap, inl, inr}}
use Rattle.verity_plan.{proofs.FanLemmas.{fan-some, some_data}, specs.{Plans.{IsPlan, PlanFields, level_count}, Settings.fan}}
use Rattle.{verity_plan.specs.PlanCounts.{level_count_of, count_under}, std.proofs.lemmas.Bool.{cases_Bool, cases_lt, Decides.nat_tests}}
use Rattle.{verity_plan.proofs.CountLemmas.{div_ceil-below, div_ceil-pos, le-div_ceil, mul-lt_div_ceil, mul_le}, std.proofs.lemmas.List.append-nil}
use Rattle.verity_blocks.specs.ClosingOrder.{BlockIndex, block_index, blocks_before, closed_after, closes, closing_with, first_closing}
use Rattle.verity_blocks.proofs.Order.ClosingInTurn.{closed_after-more, closes-last, filter-front}
use Rattle.verity_builders.specs.Parts.{HasPart, closed_in_join, closed_in_part, first_block, handed_out_of_join, handed_out_of_part, join_order}
use Rattle.verity_builders.{specs.Parts.{part_order, blocks_in_part, plan_of_part}, proofs.Parts.{PartLevels.div_ceil-chunk, PartsInOrder.is_below}}

-- ---- tests of levels

-- a filter of blocks, one of each level that passes a test
indices-filtered : (q : BlockIndex → Bool) (g : ℕ → BlockIndex) (c : ℕ → Bool) (xs : List ℕ)
    → filter q (map g (filter c xs)) ≡ map g (filter (λ l. c l && q (g l)) xs)
indices-filtered q g c [] = refl
indices-filtered q g c (a ∷ xs) =
    let rest = indices-filtered q g c xs in
    elim (cases_Bool (c a)) [
      | inl passes ↦ elim (cases_Bool (q (g a))) [
        | inl both ↦ rw (passes, both) (ap (λ (blocks : List BlockIndex). g a ∷ blocks) rest)
        | inr fails ↦ rw (passes, fails) rest
      ]
      | inr none ↦ rw none rest
    ]

-- a test that the numbers below one pass, and no others
filter-low : (c : ℕ → Bool) (m n : ℕ) → m ≤ n → ((l : ℕ) → l < m → c l ≡ true)
    → ((l : ℕ) → m ≤ l → l < n → c l ≡ false) → filter c (range_with_len 0 n) ≡ range_with_len 0 m
filter-low c m n le pass fail =
    let front = filter-front c 0 m n (λ l from to. pass l (omega (arith, to))) le in
    let none = front.2 (λ l from to. fail l (omega (arith, from)) (omega (arith, to))) in
    front.1 ∙ rw none (append-nil _)

-- a test that the numbers from one on pass, and no others
filter-high : (c : ℕ → Bool) (a m n : ℕ) → ((l : ℕ) → a ≤ l → l < a + m → c l ≡ false)
    → ((l : ℕ) → a + m ≤ l → l < a + m + n → c l ≡ true)
    → filter c (range_with_len a (m + n)) ≡ range_with_len (a + m) n
filter-high c a zero n fail pass =
    let count : zero + n ≡ n = omega arith in
    let at : a + zero ≡ a = omega arith in
    let front = filter-front c a n n (λ l from to. pass l (omega (arith, from)) (omega (arith, to))) (omega arith) in
    let none = front.2 (λ l from to. absurd (omega (arith, from, to))) in
    rw (count, at) (front.1 ∙ rw none (append-nil _))
filter-high c a (suc m) n fail pass =
    let count : suc m + n ≡ suc (m + n) = omega arith in
    let at : a + suc m ≡ a + 1 + m = omega arith in
    let first = fail a (omega arith) (omega arith) in
    rw (count, at, first)
    (filter-high c (a + 1) m n (λ l from to. fail l (omega (arith, from)) (omega (arith, to)))
    (λ l from to. pass l (omega (arith, from)) (omega (arith, to))))

-- ---- a part

-- the levels below close with the last data block of a part
closes-part : (f n level part i l : ℕ) → 0 < f → (i + 1 ≡ n) ⊎ (i + 1 ≡ (part + 1) * f ^ level) → l < level
    → closes f n i l ≡ true
closes-part f n level part i l some (inl last) below = closes-last f n i l last
closes-part f n level part i l some (inr whole) below =
    let w = f ^ (l + 1) in
    let k = level - (l + 1) in
    let split : level ≡ k + (l + 1) = omega arith in
    let wide : f ^ level ≡ f ^ k * w = ap (λ (m : ℕ). f ^ m) split ∙ pow-add f k (l + 1) in
    let runs : i + 1 ≡ (part + 1) * f ^ k * w + 0 =
    whole ∙ ap (λ (m : ℕ). (part + 1) * m) wide ∙ omega (arith, mul_assoc (part + 1) (f ^ k) w) in
    let even : (i + 1) % w ≡ 0 =
    ap (λ (m : ℕ). m % w) runs ∙ mod-mul-add ((part + 1) * f ^ k) w 0 (one-le-pow (l + 1) f some) in
    grind (arith, nat_tests, even)

part-last : (f n level part i : ℕ) → 0 < f → level ≤ level_count f n → (i + 1 ≡ n) ⊎ (i + 1 ≡ (part + 1) * f ^ level)
    → filter (is_below level) (closing_with f n i) ≡ first_closing f i level
part-last f n level part i some most last =
    let g : ℕ → BlockIndex = λ l. block_index l (i / f ^ (l + 1)) in
    indices-filtered (is_below level) g (closes f n i) (range_with_len 0 (level_count f n))
    ∙ ap (map g) (filter-low (λ l. closes f n i l && is_below level (g l)) level (level_count f n) most
    (λ l low. grind (arith, nat_tests, closes-part f n level part i l some last low))
    (λ l high _. grind (arith, nat_tests)))

-- a part has some data
part-some : (p : PlanFields) (level part : ℕ) → IsPlan p → HasPart p level part
    → (first_block p level part < p.blocks) × (0 < (plan_of_part p level part).wanted)
part-some p level part planned has =
    let size = blocks_in_part p level in
    let d = p.settings.data_block in
    let wide : 0 < size = one-le-pow level (fan p.settings) (fan-some p.settings) in
    let wide_block : 0 < d = some_data p.settings planned.valid in
    let below = mul-lt_div_ceil p.blocks size part wide has.part_below in
    let start : part * size * d < p.wanted =
    mul-lt_div_ceil p.wanted d (part * size) wide_block (omega (arith, below, planned.blocks_are)) in
    (below, omega (arith, start, mul_le 1 size d (omega arith)))

-- the last byte of a part is in its last data block
part-last_block : (p : PlanFields) (level part : ℕ) → IsPlan p → HasPart p level part
    → blocks_before p.settings (plan_of_part p level part).wanted + 1 ≡ (plan_of_part p level part).blocks
part-last_block p level part planned has =
    let size = blocks_in_part p level in
    let d = p.settings.data_block in
    let own = plan_of_part p level part in
    let wide_block : 0 < d = some_data p.settings planned.valid in
    let is : own.wanted ≡ min (size * d) (p.wanted - part * (size * d)) =
    ap (λ (m : ℕ). min (size * d) (p.wanted - m)) (mul_assoc part size d) in
    div_ceil-below own.wanted d wide_block (part-some p level part planned has).1
    ∙ ap (λ (m : ℕ). div_ceil m d) is
    ∙ div_ceil-chunk p.wanted d size part wide_block
    ∙ ap (λ (m : ℕ). min size (m - part * size)) (sym planned.blocks_are)

-- when all bytes of a part were fed and all its levels have closed, all its hash blocks were handed out
pub part-all : (p : PlanFields) (level part : ℕ) → IsPlan p → HasPart p level part
    → handed_out_of_part p level part (plan_of_part p level part).wanted level ≡ part_order p level part
unfolding closed_in_part
part-all p level part planned has =
    let f = fan p.settings in
    let n = p.blocks in
    let size = blocks_in_part p level in
    let first = first_block p level part in
    let own = plan_of_part p level part in
    let i = blocks_before p.settings own.wanted in
    let last = part-last_block p level part planned has in
    let next : own.blocks ≡ suc i = omega (arith, last) in
    let ends : (first + i + 1 ≡ n) ⊎ (first + i + 1 ≡ (part + 1) * f ^ level) = elim (cases_lt size (n - first)) [
      | inl whole ↦ inr (omega (arith, last, whole))
      | inr rest ↦ inl (omega (arith, last, rest, (part-some p level part planned has).0))
    ] in
    ap (λ (xs : List BlockIndex). closed_in_part f n level first i ++ xs)
    (sym (part-last f n level part (first + i) (fan-some p.settings) has.level_most ends))
    ∙ sym (ap (closed_in_part f n level first) next)

-- and none at the beginning
pub part-none : (p : PlanFields) (level part : ℕ) → handed_out_of_part p level part 0 0 ≡ []
unfolding closed_in_part
part-none p level part = rw zero-div refl

-- ---- a join

-- between the ends of two parts no level from this one on closes
closes-between : (f n level m i l : ℕ) → 0 < f → m * f ^ level ≤ i → i + 1 < n → n ≤ (m + 1) * f ^ level → level ≤ l
    → closes f n i l ≡ false
closes-between f n level m i l some from to most above =
    let size = f ^ level in
    let k = l + 1 - level in
    let w = f ^ (l + 1) in
    let split : l + 1 ≡ k + level = omega arith in
    let wide : w ≡ f ^ k * size = ap (λ (a : ℕ). f ^ a) split ∙ pow-add f k level in
    let q = (i + 1) / w in
    let runs : q * w ≡ q * f ^ k * size = ap (λ (a : ℕ). q * a) wide ∙ sym (mul_assoc q (f ^ k) size) in
    let odd : (i + 1) % w ≡ 0 → ⊥ = λ even.
    let is : i + 1 ≡ q * f ^ k * size = omega (arith, div-add-mod' (i + 1) w, even, runs) in
    elim (cases_lt m (q * f ^ k)) [
      | inl more ↦ absurd (omega (arith, mul_le (m + 1) (q * f ^ k) size (omega (arith, more)), is, to, most))
      | inr less ↦ absurd (omega (arith, mul_le (q * f ^ k) m size less, is, from))
    ] in
    grind (arith, nat_tests, odd)

join-none_with : (f n level m i : ℕ) → 0 < f → m * f ^ level ≤ i → i + 1 < n → n ≤ (m + 1) * f ^ level
    → filter (λ block. nat_le level block.level) (closing_with f n i) ≡ []
join-none_with f n level m i some from to most =
    let g : ℕ → BlockIndex = λ l. block_index l (i / f ^ (l + 1)) in
    indices-filtered (λ block. nat_le level block.level) g (closes f n i) (range_with_len 0 (level_count f n))
    ∙ ap (map g) (filter-low (λ l. closes f n i l && nat_le level l) 0 (level_count f n) (omega arith)
    (λ l low. absurd (omega (arith, low))) (λ l _ _. elim (cases_lt l level) [
      | inl low ↦ grind (arith, nat_tests)
      | inr high ↦ grind (arith, nat_tests, closes-between f n level m i l some from to most high)
    ]))

-- one data block more in the join's order
join-more : (f n level i : ℕ) → closed_in_join f n level (i + 1)
    ≡ closed_in_join f n level i ++ filter (λ block. nat_le level block.level) (closing_with f n i)
join-more f n level i =
    ap (filter (λ block. nat_le level block.level)) (closed_after-more f n i)
    ∙ filter-append (λ block. nat_le level block.level) (closed_after f n i) (closing_with f n i)

join-between : (f n level m i k : ℕ) → 0 < f → m * f ^ level ≤ i → i + k < n → n ≤ (m + 1) * f ^ level
    → closed_in_join f n level (i + k) ≡ closed_in_join f n level i
join-between f n level m i zero some from to most =
    let none : i + zero ≡ i = omega arith in ap (closed_in_join f n level) none
join-between f n level m i (suc k) some from to most =
    let next : i + suc k ≡ i + k + 1 = omega arith in
    ap (closed_in_join f n level) next
    ∙ join-more f n level (i + k)
    ∙ ap (λ (xs : List BlockIndex). closed_in_join f n level (i + k) ++ xs)
    (join-none_with f n level m (i + k) some (omega (arith, from)) (omega (arith, to)) most)
    ∙ append-nil (closed_in_join f n level (i + k))
    ∙ join-between f n level m i k some from (omega (arith, to)) most

-- with the last data block all levels close
join-last : (f n level i m : ℕ) → level ≤ level_count f n → i + 1 ≡ n → i / f ^ level ≡ m
    → filter (λ block. nat_le level block.level) (closing_with f n i)
    ≡ map (λ l. block_index (level + l) (m / f ^ (l + 1))) (range_with_len 0 (level_count f n - level))
join-last f n level i m most last part =
    let g : ℕ → BlockIndex = λ l. block_index l (i / f ^ (l + 1)) in
    let h : ℕ → BlockIndex = λ l. block_index (level + l) (m / f ^ (l + 1)) in
    let left = level_count f n - level in
    let count : level_count f n ≡ level + left = omega (arith, most) in
    let at : 0 + level ≡ level = omega arith in
    let same : (l : ℕ) → g (level + l) ≡ h l = λ l.
    let sum : level + l + 1 ≡ level + (l + 1) = omega arith in
    ap (block_index (level + l))
    (ap (λ (a : ℕ). i / a) (ap (λ (a : ℕ). f ^ a) sum ∙ pow-add f level (l + 1))
    ∙ sym (div-div-eq-div-mul i (f ^ level) (f ^ (l + 1)))
    ∙ ap (λ (a : ℕ). a / f ^ (l + 1)) part) in
    indices-filtered (λ block. nat_le level block.level) g (closes f n i) (range_with_len 0 (level_count f n))
    ∙ ap (λ (a : ℕ). map g (filter (λ l. closes f n i l && nat_le level l) (range_with_len 0 a))) count
    ∙ ap (map g) (filter-high (λ l. closes f n i l && nat_le level l) 0 level left
    (λ l _ low. grind (arith, nat_tests))
    (λ l high _. grind (arith, nat_tests, closes-last f n i l last)))
    ∙ ap (λ (a : ℕ). map g (range_with_len a left)) at
    ∙ fill_by_all h (map g (range_with_len level left)) left (block_index 0 0) (length-map-range_with_len g level left)
    (λ k low. get_or-map-range_with_len g level left k (level + k) (block_index 0 0) low refl ∙ same k)

-- when all digests were taken and all levels have closed, all hash blocks of the join were handed out
pub join-all : (p : PlanFields) (level closed : ℕ) → IsPlan p → level + closed ≡ level_count_of p
    → handed_out_of_join p level (count_under p level) closed ≡ join_order p level
join-all p level closed planned all =
    let f = fan p.settings in
    let n = p.blocks in
    let size = blocks_in_part p level in
    let some = fan-some p.settings in
    let wide : 0 < size = one-le-pow level f some in
    let blocks : 0 < n =
    rw planned.blocks_are (div_ceil-pos p.wanted p.settings.data_block
    (some_data p.settings planned.valid) planned.some) in
    let parts = count_under p level in
    let m = parts - 1 in
    let last_part : (n - 1) / size + 1 ≡ parts = div_ceil-below n size wide blocks in
    let part : (n - 1) / size ≡ m = omega (arith, last_part) in
    let from : m * size ≤ n - 1 = rw (← part) (div-mul-le_self (n - 1) size) in
    let covers : n ≤ parts * size = le-div_ceil n size parts wide (omega arith) in
    let next : m + 1 ≡ parts = omega (arith, last_part) in
    let most : n ≤ (m + 1) * size = rw next covers in
    let last : n - 1 + 1 ≡ n = omega (arith, blocks) in
    let rest : m * size + (n - 1 - m * size) ≡ n - 1 = omega (arith, from) in
    let left : closed ≡ level_count_of p - level = omega (arith, all) in
    let g : ℕ → BlockIndex = λ l. block_index (level + l) (m / f ^ (l + 1)) in
    ap (λ (xs : List BlockIndex). xs ++ map g (range_with_len 0 closed))
    (sym (join-between f n level m (m * size) (n - 1 - m * size) some (omega arith) (omega (arith, rest, blocks)) most)
    ∙ ap (closed_in_join f n level) rest)
    ∙ ap (λ (a : ℕ). closed_in_join f n level (n - 1) ++ map g (range_with_len 0 a)) left
    ∙ ap (λ (xs : List BlockIndex). closed_in_join f n level (n - 1) ++ xs)
    (sym (join-last f n level (n - 1) m (omega (arith, all)) last part))
    ∙ sym (join-more f n level (n - 1))
    ∙ ap (closed_in_join f n level) last

-- and none at the beginning
pub join-none : (p : PlanFields) (level : ℕ) → handed_out_of_join p level 0 0 ≡ []
unfolding closed_after
join-none p level =
    let none : 0 * blocks_in_part p level ≡ 0 = omega arith in
    ap (λ (i : ℕ). closed_in_join (fan p.settings) p.blocks level i ++ []) none
