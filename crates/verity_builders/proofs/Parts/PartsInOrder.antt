-- The orders of the parts and of the join are together the closing order, and what a part hands out is the tree's.
use Rattle.std.proofs.Common.{◌≡◌, ℕ, zero, suc, ◌+◌, ◌-◌, ◌*◌, ◌/◌, ◌^◌, ◌<◌, ◌≤◌, min, not, Bool, List, [], ◌∷◌, ◌++◌, map, arith, refl, sym, ◌∙◌}
use Rattle.std.proofs.{Common.{ap, inl, inr, append_assoc}, lemmas.{Bool.{cases_lt, Decides.nat_tests}, List.{append-nil, map-id}}}
use Rattle.std.proofs.lemmas.List.{Concat.flat_map-append, Elements.filter-append, Filters.sum_by-filter_both, FromFn.map-range_with_len_more}
use Rattle.std.{proofs.{lemmas.List.Sums.sum_by-append, Math.Nat.one-le-pow}, specs.List.{filter, flat_map, range_with_len}}
use Rattle.{std.specs.Prelude.{◌==◌, ◌&&◌, cond, nat_le, nat_lt}, verity_plan.proofs.{FanLemmas.fan-some, IndexLemmas.HasBlock-above}}
use Rattle.verity_plan.{specs.{Plans.{HasBlock, PlanFields}, PlanCounts.{level_count_of, count_under}, Settings.fan}, proofs.CountLemmas.le-div_ceil}
use Rattle.verity_blocks.specs.ClosingOrder.{BlockIndex, block_index, blocks_before, closed_after, closing_with, first_closing, times}
use Rattle.verity_blocks.proofs.Order.{TimesCounted.times-cases, ClosesOnce.closed_time}
use Rattle.verity_builders.specs.Parts.{closed_in_part, first_block, handed_out_of_part, join_order, part_order, blocks_in_part}

-- a block is of a level below this one
abbrev pub is_below : ℕ → BlockIndex → Bool
is_below level block = nat_lt block.level level

-- one part after another
pub closed_in_part-append : (f n level first a b : ℕ) → closed_in_part f n level first (a + b)
    ≡ closed_in_part f n level first a ++ closed_in_part f n level (first + a) b
unfolding closed_in_part
closed_in_part-append f n level first a zero =
    let none : a + 0 ≡ a = omega arith in
    ap (closed_in_part f n level first) none ∙ sym (append-nil (closed_in_part f n level first a))
closed_in_part-append f n level first a (suc b) =
    let next : a + suc b ≡ suc (a + b) = omega arith in
    let at : first + (a + b) ≡ first + a + b = omega arith in
    ap (closed_in_part f n level first) next
    ∙ ap (λ (i : ℕ). closed_in_part f n level first (a + b) ++ filter (is_below level) (closing_with f n i)) at
    ∙ ap (λ (xs : List BlockIndex). xs ++ filter (is_below level) (closing_with f n (first + a + b)))
    (closed_in_part-append f n level first a b)
    ∙ append_assoc (closed_in_part f n level first a) (closed_in_part f n level (first + a) b) _

-- the blocks of the levels below that close with the first data blocks
closed_in_part-all : (f n level i : ℕ) → closed_in_part f n level 0 i ≡ filter (is_below level) (closed_after f n i)
unfolding closed_in_part closed_after
closed_in_part-all f n level zero = refl
closed_in_part-all f n level (suc i) =
    let at : 0 + i ≡ i = omega arith in
    ap (λ (k : ℕ). closed_in_part f n level 0 i ++ filter (is_below level) (closing_with f n k)) at
    ∙ ap (λ (xs : List BlockIndex). xs ++ filter (is_below level) (closing_with f n i)) (closed_in_part-all f n level i)
    ∙ sym (filter-append (is_below level) (closed_after f n i) (closing_with f n i))

-- one number more
pub range-more : {A : Type 0} (g : ℕ → List A) (n : ℕ)
    → flat_map g (range_with_len 0 (n + 1)) ≡ flat_map g (range_with_len 0 n) ++ g n
range-more g n =
    ap (flat_map g) (sym (map-id (range_with_len 0 (n + 1)))
    ∙ map-range_with_len_more (λ (k : ℕ). k) 0 n n (omega arith)
    ∙ ap (λ (xs : List ℕ). xs ++ n ∷ []) (map-id (range_with_len 0 n)))
    ∙ flat_map-append g (range_with_len 0 n) (n ∷ [])
    ∙ ap (λ (xs : List _). flat_map g (range_with_len 0 n) ++ xs) (append-nil (g n))

-- the first parts in their order
parts-order : (p : PlanFields) (level k : ℕ) → flat_map (part_order p level) (range_with_len 0 k)
    ≡ closed_in_part (fan p.settings) p.blocks level 0 (min (k * blocks_in_part p level) p.blocks)
unfolding closed_in_part
parts-order p level zero =
    let none : min (0 * blocks_in_part p level) p.blocks ≡ 0 = omega arith in
    sym (ap (closed_in_part (fan p.settings) p.blocks level 0) none)
parts-order p level (suc k) =
    let f = fan p.settings in
    let n = p.blocks in
    let size = blocks_in_part p level in
    let more : suc k ≡ k + 1 = omega arith in
    let before = min (k * size) n in
    let own = min size (n - k * size) in
    let count : before + own ≡ min (suc k * size) n = omega arith in
    let at : closed_in_part f n level (0 + before) own ≡ closed_in_part f n level (k * size) own =
    elim (cases_lt n (k * size)) [
      | inl past ↦ let none : own ≡ 0 = omega arith in rw none refl
      | inr inside ↦ let here : 0 + before ≡ k * size = omega arith in rw here refl
    ] in
    ap (λ (m : ℕ). flat_map (part_order p level) (range_with_len 0 m)) more
    ∙ range-more (part_order p level) k
    ∙ ap (λ (xs : List BlockIndex). xs ++ part_order p level k) (parts-order p level k)
    ∙ ap (λ (xs : List BlockIndex). closed_in_part f n level 0 before ++ xs) (sym at)
    ∙ sym (closed_in_part-append f n level 0 before own)
    ∙ ap (closed_in_part f n level 0) count

-- all parts have the blocks of the levels below, in closing order
pub parts-all : (p : PlanFields) (level : ℕ) → flat_map (part_order p level) (range_with_len 0 (count_under p level))
    ≡ filter (is_below level) (closed_after (fan p.settings) p.blocks p.blocks)
parts-all p level =
    let f = fan p.settings in
    let size = blocks_in_part p level in
    let covers =
    le-div_ceil p.blocks size (count_under p level) (one-le-pow level f (fan-some p.settings)) (omega arith) in
    let all : min (count_under p level * size) p.blocks ≡ p.blocks = omega (arith, covers) in
    parts-order p level (count_under p level)
    ∙ ap (closed_in_part f p.blocks level 0) all
    ∙ closed_in_part-all f p.blocks level p.blocks

-- a block is of a part or of the join
not-below : (level : ℕ) (block : BlockIndex) → nat_le level block.level ≡ not (is_below level block)
not-below level block = grind (arith, nat_tests)

-- together they are the tree's, each as often
pub parts-once : (p : PlanFields) (level l j : ℕ)
    → times l j
    (flat_map (λ part. part_order p level part) (range_with_len 0 (count_under p level)) ++ join_order p level)
    ≡ times l j (closed_after (fan p.settings) p.blocks p.blocks)
parts-once p level l j =
    let all = closed_after (fan p.settings) p.blocks p.blocks in
    let one : BlockIndex → ℕ = λ at. cond ((at.level == l) && (at.index == j)) 1 0 in
    sum_by-append one (flat_map (part_order p level) (range_with_len 0 (count_under p level))) (join_order p level)
    ∙ ap (λ (xs : List BlockIndex). times l j xs + times l j (join_order p level)) (parts-all p level)
    ∙ sum_by-filter_both (is_below level) (λ block. nat_le level block.level) (not-below level) one all

-- hash blocks of some levels above one of the tree's data blocks are the tree's
levels-have : (p : PlanFields) (i from count l j : ℕ) → i < p.blocks → from + count ≤ level_count_of p
    → 0 < times l j (map (λ level. block_index level (i / fan p.settings ^ (level + 1))) (range_with_len from count))
    → HasBlock p l j
levels-have p i from zero l j inside most some = absurd (omega (arith, some))
levels-have p i from (suc count) l j inside most some =
    let f = fan p.settings in
    let g : ℕ → BlockIndex = λ level. block_index level (i / f ^ (level + 1)) in
    elim (times-cases l j (g from) (map g (range_with_len (from + 1) count)) some) [
      | inl here ↦
          let level = here.0 in
          let index = here.1 in
          rw (← index, ← level) (HasBlock-above p i from (fan-some p.settings) inside (omega (arith, most)))
      | inr later ↦ levels-have p i (from + 1) count l j inside (omega (arith, most)) later
    ]

-- what a part has handed out, perhaps before its last byte, is the tree's
pub handed_out-has : (p : PlanFields) (level part count closed l j : ℕ) → level ≤ level_count_of p → closed ≤ level
    → first_block p level part + blocks_before p.settings count < p.blocks
    → 0 < times l j (handed_out_of_part p level part count closed) → HasBlock p l j
handed_out-has p level part count closed l j most few inside some =
    let f = fan p.settings in
    let n = p.blocks in
    let first = first_block p level part in
    let i = blocks_before p.settings count in
    let all = closed_after f n (first + i) in
    let one : BlockIndex → ℕ = λ at. cond ((at.level == l) && (at.index == j)) 1 0 in
    elim (cases_lt 0 (times l j (first_closing f (first + i) closed))) [
      | inl last ↦ levels-have p (first + i) 0 closed l j inside (omega (arith, most, few)) last
      | inr none ↦
          let start : 0 + first ≡ first = omega arith in
          let within =
          ap (times l j) (sym (closed_in_part-all f n level (first + i)) ∙ closed_in_part-append f n level 0 first i)
          ∙ sum_by-append one (closed_in_part f n level 0 first) (closed_in_part f n level (0 + first) i) in
          (closed_time f n l j (first + i) (fan-some p.settings) (omega (arith, inside)) (omega (
            arith,
            some,
            none,
            sum_by-append one (closed_in_part f n level first i) (first_closing f (first + i) closed),
            ap (λ (k : ℕ). times l j (closed_in_part f n level k i)) start,
            within,
            sum_by-filter_both (is_below level) (λ block. nat_le level block.level) (not-below level) one all,
          ))).0
    ]
