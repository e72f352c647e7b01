-- Hash blocks that close while nobody knows a file's length are those of every file that goes on.
use Rattle.std.proofs.Common.{◌≡◌, ℕ, zero, suc, ◌+◌, ◌-◌, ◌*◌, ◌/◌, ◌%◌, ◌^◌, ◌<◌, ◌≤◌, Bool, true, false, eqb, ◌||◌, List, [], ◌∷◌, ◌++◌, get_or}
use Rattle.std.proofs.{Common.{length, take, map, arith, refl, sym, ◌∙◌, ap, inl, inr}, lemmas.{Bool.{cases_lt, Decides.nat_tests}, List.get_or-take}}
use Rattle.std.{proofs.Math.Nat.{mod-eq_of_lt, pow-le-pow_right, zero-div}, specs.List.{filter, range_with_len}}
use Rattle.verity_plan.specs.{Plans.{block_count, level_count, plan_of_file}, Settings.{IsValid, TreeSettingsFields, fan}}
use Rattle.verity_plan.proofs.{CountLemmas.{IsLevelCount-level_count, le-div_ceil, mul_le}, FanLemmas.{fan-some, fan-two, some_data}}
use Rattle.{verity_plan.proofs.IndexLemmas.quotient-below, verity_blocks.{specs.TreeOnDevice.tree_block, proofs.Windows.LastByte.whole-block}}
use Rattle.verity_blocks.specs.ClosingOrder.{handed_out, BlockIndex, block_index, blocks_before, closed_after, closes, closing_with, first_closing}
use Rattle.verity_blocks.specs.{Levels.{blocks_up, data_blocks}, Steps.Feeding.{IsHandingOut, Stands, first_blocks, windows_before}}
use Rattle.verity_blocks.{proofs.Levels.CutBlocks.length-cut, specs.{Steps.OpenBlocks.{IsReached, digests_under, open_block}, Windows.window_length}}
use Rattle.verity_blocks.proofs.Levels.FirstBlocks.{blocks_up-front, open-same, plan-front}

-- two tests that are one where both ranges go, and that nothing passes in the longer one's rest, leave the same
filter-same : (c d : ℕ → Bool) (a m n : ℕ) → ((l : ℕ) → a ≤ l → l < a + m → l < a + n → c l ≡ d l)
    → ((l : ℕ) → a + n ≤ l → l < a + m → c l ≡ false) → ((l : ℕ) → a + m ≤ l → l < a + n → d l ≡ false)
    → filter c (range_with_len a m) ≡ filter d (range_with_len a n)
filter-same c d a zero zero same left right = refl
filter-same c d a (suc m) zero same left right =
    rw (left a (omega arith) (omega arith)) (filter-same c d (a + 1) m zero (λ l from to further. absurd (omega (arith, from, further)))
    (λ l from to. left l (omega (arith, from)) (omega (arith, to))) (λ l from to. absurd (omega (arith, from, to))))
filter-same c d a zero (suc n) same left right =
    rw (right a (omega arith) (omega arith)) (filter-same c d (a + 1) zero n (λ l from to further. absurd (omega (arith, from, to)))
    (λ l from to. absurd (omega (arith, from, to))) (λ l from to. right l (omega (arith, from)) (omega (arith, to))))
filter-same c d a (suc m) (suc n) same left right =
    let rest = filter-same c d (a + 1) m n (λ l from to further. same l (omega (arith, from)) (omega (arith, to)) (omega (arith, further)))
    (λ l from to. left l (omega (arith, from)) (omega (arith, to)))
    (λ l from to. right l (omega (arith, from)) (omega (arith, to))) in
    one-more (c a) (same a (omega arith) (omega arith) (omega arith)) refl rest
  where
    one-more : (b : Bool) → c a ≡ d a → b ≡ c a
        → filter c (range_with_len (a + 1) m) ≡ filter d (range_with_len (a + 1) n)
        → filter c (range_with_len a (suc m)) ≡ filter d (range_with_len a (suc n))
    one-more true both is rest = rw (← both, ← is) (ap (λ (xs : List ℕ). a ∷ xs) rest)
    one-more false both is rest = rw (← both, ← is) rest

-- nothing joined by "or"
or_none : (b : Bool) → (b || false) ≡ b
or_none true = refl
or_none false = refl

-- a data block that isn't the last is the last below a hash block of a level if that is full
closes-full : (f n k l : ℕ) → k + 1 < n → closes f n k l ≡ eqb ((k + 1) % f ^ (l + 1)) 0
closes-full f n k l more =
    let apart : eqb (k + 1) n ≡ false = grind (arith, nat_tests, more) in rw apart (or_none (eqb ((k + 1) % f ^ (l + 1)) 0))

-- and above all levels none is
closes-past : (f n k l : ℕ) → 2 ≤ f → k + 1 < n → level_count f n ≤ l → eqb ((k + 1) % f ^ (l + 1)) 0 ≡ false
closes-past f n k l two more past =
    let enough = (IsLevelCount-level_count f n two).enough in
    let wide : f ^ level_count f n ≤ f ^ (l + 1) = pow-le-pow_right (omega (arith, two)) (omega (arith, past)) in
    let whole : (k + 1) % f ^ (l + 1) ≡ k + 1 = mod-eq_of_lt (omega (arith, more, enough, wide)) in
    grind (arith, nat_tests, whole)

-- what closes with a data block that isn't the last is the same however many come after it
closing-same : (f m n k : ℕ) → 2 ≤ f → k + 1 < m → k + 1 < n → closing_with f m k ≡ closing_with f n k
closing-same f m n k two left right =
    ap (map (λ level. block_index level (k / f ^ (level + 1))))
    (filter-same (closes f m k) (closes f n k) 0 (level_count f m) (level_count f n)
    (λ l from to further. closes-full f m k l left ∙ sym (closes-full f n k l right))
    (λ l from to. closes-full f m k l left ∙ closes-past f n k l two right (omega (arith, from)))
    (λ l from to. closes-full f n k l right ∙ closes-past f m k l two left (omega (arith, from))))

-- what has closed before a data block is the same however many come from it on
closed-same : (f m n i : ℕ) → 2 ≤ f → (0 < i → i < m) → (0 < i → i < n) → closed_after f m i ≡ closed_after f n i
unfolding closed_after
closed-same f m n zero two left right = refl
closed-same f m n (suc i) two left right =
    let low = left (omega arith) in
    let high = right (omega arith) in
    closed-both (closed-same f m n i two (λ _. omega (arith, low)) (λ _. omega (arith, high)))
    (closing-same f m n i two (omega (arith, low)) (omega (arith, high)))
  where
    closed-both : {xs ys us vs : List BlockIndex} → xs ≡ ys → us ≡ vs → xs ++ us ≡ ys ++ vs
    closed-both e d = cc

-- the last byte's data block is one of those of a file that has no fewer bytes
file-below : (s : TreeSettingsFields) (count size : ℕ) → IsValid s → 0 < count → count ≤ size
    → blocks_before s count < block_count s size
file-below s count size valid some most =
    quotient-below (count - 1) size s.data_block (some_data s valid) (omega (arith, some, most))

-- before the first data block there is none
before-some : (s : TreeSettingsFields) (count : ℕ) → 0 < blocks_before s count → 0 < count
before-some s zero some = absurd (omega (arith, some, zero-div s.data_block))
before-some s (suc n) some = omega arith

-- what was handed out is the same of files of any length
pub handed_out-same : (s : TreeSettingsFields) (count closed m n : ℕ) → IsValid s → count ≤ m → count ≤ n
    → handed_out (plan_of_file s m) count closed ≡ handed_out (plan_of_file s n) count closed
handed_out-same s count closed m n valid left right =
    let i = blocks_before s count in
    ap (λ (xs : List BlockIndex). xs ++ first_closing (fan s) i closed)
    (closed-same (fan s) (block_count s m) (block_count s n) i (fan-two s valid)
    (λ some. file-below s count m valid (before-some s count some) left)
    (λ some. file-below s count n valid (before-some s count some) right))

-- an open block above whole data blocks is the same of files of any length
open-moves : (s : TreeSettingsFields) (m n k : ℕ) (fed : List ℕ) → IsValid s → length fed ≤ m → length fed ≤ n
    → k * s.data_block ≤ length fed → (l : ℕ)
    → open_block s (digests_under s (data_blocks (plan_of_file s m) fed) l) (k / fan s ^ l)
    ≡ open_block s (digests_under s (data_blocks (plan_of_file s n) fed) l) (k / fan s ^ l)
open-moves s m n k fed valid left right enough l =
    sym (open-same (plan_of_file s m) k fed valid refl enough left l)
    ∙ open-same (plan_of_file s n) k fed valid refl enough right l

-- a hash block that is full depends on the data blocks below it alone
full-block : (s : TreeSettingsFields) (size i level : ℕ) (fed : List ℕ) → IsValid s → length fed ≤ size
    → (i + 1) * s.data_block ≤ length fed → IsReached (fan s) i (level + 1)
    → tree_block s (data_blocks (plan_of_file s size) fed) level (i / fan s ^ (level + 1))
    ≡ tree_block s (first_blocks s (i + 1) fed) level (i / fan s ^ (level + 1))
full-block s size i level fed valid most enough reached =
    let w = fan s ^ (level + 1) in
    let j = i / w in
    let xs = data_blocks (plan_of_file s size) fed in
    let front = plan-front (plan_of_file s size) (i + 1) fed valid refl enough most in
    let whole : (j + 1) * w ≡ i + 1 = sym reached.whole in
    sym (get_or-take (j + 1) (blocks_up s xs (level + 1)) j [] (omega arith))
    ∙ ap (λ (ys : List (List ℕ)). get_or ys j [])
    (blocks_up-front s xs (level + 1) (j + 1) (fan-some s) (omega (arith, whole, front.0))
    ∙ ap (λ (k : ℕ). blocks_up s (take k xs) (level + 1)) whole
    ∙ ap (λ (ys : List (List ℕ)). blocks_up s ys (level + 1)) (sym front.1))

-- a level whose block is full is one of the tree's
full-level : (f n i level : ℕ) → 2 ≤ f → i + 1 < n → IsReached f i (level + 1) → level < level_count f n
full-level f n i level two more reached =
    elim (cases_lt level (level_count f n)) [
      | inl less ↦ less
      | inr past ↦
          let enough = (IsLevelCount-level_count f n two).enough in
          let wide : f ^ level_count f n ≤ f ^ (level + 1) =
          pow-le-pow_right (omega (arith, two)) (omega (arith, past)) in
          let least = mul_le 1 (i / f ^ (level + 1) + 1) (f ^ (level + 1)) (omega arith) in
          absurd (omega (arith, reached.whole, least, wide, enough, more))
    ]

-- a hash block that was handed out of a file that goes on is so of one of any other length that goes on, whose tree has
-- its level
pub handing-moves : (s : TreeSettingsFields) (levels level m n : ℕ) (fed opened : List ℕ) → IsValid s → length fed < m
    → length fed < n → IsHandingOut (plan_of_file s m) levels level fed opened
    → IsHandingOut (plan_of_file s n) levels level fed opened × (level < level_count (fan s) (block_count s n))
handing-moves s levels level m n fed opened valid left right h =
    let count = length fed in
    let i = blocks_before s count in
    let some = h.ends.some in
    let whole : count ≡ (windows_before s count + 1) * window_length s =
    elim h.ends.ends [ inl full ↦ full | inr all ↦ absurd (omega (arith, all, left)) ] in
    let end : count ≡ (i + 1) * s.data_block = whole-block s count valid some whole in
    let before : i + 1 < block_count s m = past-end s i m valid (omega (arith, end, left)) in
    let after : i + 1 < block_count s n = past-end s i n valid (omega (arith, end, right)) in
    let xs = data_blocks (plan_of_file s m) fed in
    let more : i + 1 < length xs = omega (arith, before, length-cut s (block_count s m) m fed) in
    let reached = h.closed.reached more in (
      record {
        ends = record { some = some; most = omega (arith, right); ends = inl whole };
        level_below = h.level_below;
        closed = record {
          reached = λ _. reached;
          stands = h.closed.stands ∙ full-block s m i level fed valid (omega (arith, left)) (omega (arith, end)) reached
              ∙ sym (full-block s n i level fed valid (omega (arith, right)) (omega (arith, end)) reached);
          above = λ l from to. h.closed.above l from to
              ∙ open-moves s m n i fed valid (omega (arith, left)) (omega (arith, right)) (omega (arith, end)) l;
          below = λ _ l from to. h.closed.below more l from to
              ∙ open-moves s m n (i + 1) fed valid (omega (arith, left)) (omega (arith, right)) (omega (arith, end)) l;
        };
      },
      full-level (fan s) (block_count s n) i level (fan-two s valid) after reached,
    )
  where
    past-end : (s : TreeSettingsFields) (i size : ℕ) → IsValid s → (i + 1) * s.data_block < size → i + 1 < block_count s size
    past-end s i size valid more =
        elim (cases_lt (i + 1) (block_count s size)) [
          | inl less ↦ less
          | inr most ↦ absurd (omega (arith, le-div_ceil size s.data_block (i + 1) (some_data s valid) most, more))
        ]

-- and so is what stands
pub Stands-moves : (s : TreeSettingsFields) (levels closed m n : ℕ) (fed opened window : List ℕ) → IsValid s
    → length fed < m → length fed < n → Stands (plan_of_file s m) levels fed closed opened window
    → Stands (plan_of_file s n) levels fed closed opened window
Stands-moves s levels zero m n fed opened window valid left right h = h
Stands-moves s levels (suc level) m n fed opened window valid left right h =
    (handing-moves s levels level m n fed opened valid left right h).0
