-- The first data block in which two pieces of data differ, and the verdict that names it.
use Rattle.std.proofs.Common.{◌≡◌, ◌≢◌, ◌⊎◌, ℕ, zero, suc, ◌+◌, ◌-◌, ◌*◌, ◌/◌, ◌%◌, ◌^◌, ◌<◌, ◌≤◌, List, [], get_or, length, take, true, false, arith}
use Rattle.std.proofs.{Common.{sym, refl, subst, ◌∙◌, ap, ap₂, inl, inr, below_more}, lemmas.Bool.{not_from_false, not_from_true, Decides.nat_tests}}
use Rattle.std.proofs.lemmas.{List.{append-nil, ext_get_or}, Nat.{div-add-mod', div-mul-add, le-div, mod-mul-add, mod_below, pow-add}}
use Rattle.std.{proofs.{lemmas.Slice.Eq.bytes_eq-Decides, Math.Nat.{div-mul-le_self, one-le-pow, pow-zero}}, specs.Int.div_ceil}
use Rattle.{std.specs.Prelude.{Some, Ok, Err, nat_lt}, verity_plan.{proofs.PlanLemmas.{levels-all, levels-more}, specs.PlanCounts.count_under}}
use Rattle.verity_plan.proofs.{CountLemmas.{mul-lt_div_ceil, mul_le}, FanLemmas.{fan-some, fan-two}, IndexLemmas.{HasBlock-above, quotient-next}}
use Rattle.verity_blocks.specs.{ClosingOrder.{block_index, closed_after, closes, closing_moment}, Levels.{data_blocks, root}}
use Rattle.verity_blocks.{specs.{Steps.Closing.ClosesWith, TreeOnDevice.{HoldsTree, tree_block}}, proofs.Levels.CutBlocks.length-cut}
use Rattle.verity_blocks.proofs.{OpenBlocks.DigestsInTurn.index-first, Order.{ClosesOnce.{closed_time, closes-time}, ClosedStays.blocks_up-prefix}}
use Rattle.verity_pass.specs.{Collisions.TreesCollide, FirstDifferentBlock.{IsFirstDifferent, names_data_block}, Paths.true_chain}
use Rattle.verity_pass.specs.{Steps.OnClosed.{HoldsAll, KeepsSame, StopsComparing, effects, is_unread, stop_at}, declared.part.Part.TheVariants.Child}
use Rattle.verity_pass.specs.{Verdicts.{NoneDiffers, digest_in, first_slot, part_of, verdict}, declared.comparing.CompareFault.CompareFault}
use Rattle.verity_pass.{specs.declared.comparing.CompareFault.TheVariants.{Differs, RootDiffers}, proofs.HeldTree.{holds-right, stands-counted}}
use Rattle.verity_pass.proofs.{BoundData.{blocks-bound, collide-at, data-bound}, Paths.TrueChain.{length-true_block, true_chain-next}}
use Rattle.verity_pass.proofs.{Passes.{ComparedPass.{bytes-differ, judges-differs, judges-root}, OnePass.stops-for}, PathSteps.same_or_two}
use Rattle.{verity_pass.proofs.Devices.StoredBlocks.find-range, verity_plan.specs.{Plans.{HasBlock, IsPlan, PlanFields}, Settings.{fan, hash}}}
use Rattle.verity_pass.specs.declared.pass.comparing.CompareStop.TheVariants as P

-- of the first data blocks of two pieces of data none differ, or some one is the first that differs
same-or_first : (p : PlanFields) (x y : List ℕ) (n : ℕ) → n ≤ p.blocks
    → ((k : ℕ) → k < n → get_or (data_blocks p x) k [] ≡ get_or (data_blocks p y) k [])
    ⊎ ((i : ℕ) × IsFirstDifferent p x y i)
same-or_first p x y zero most = inl (λ k low. absurd (omega (arith, low)))
same-or_first p x y (suc n) most = elim (same-or_first p x y n (omega (arith, most))) [
  | inl same ↦ elim (same_or_two (get_or (data_blocks p x) n []) (get_or (data_blocks p y) n [])) [
    | inl here ↦ inl (λ k low. below_more (λ k. get_or (data_blocks p x) k [] ≡ get_or (data_blocks p y) k []) n same here k
        (omega (arith, low)))
    | inr differ ↦ inr (n, record { below = omega (arith, most); same = same; differs = differ })
  ]
  | inr first ↦ inr first
]

-- all is right, and the two are the same in every covered byte
abbrev IsRightAndSame : PlanFields → List ℕ → List ℕ → List ℕ → List ℕ → Type 0
IsRightAndSame p device x y digest = (verdict p device y digest ≡ Ok tt) × (take p.wanted x ≡ take p.wanted y)

abbrev Collides : PlanFields → List ℕ → List ℕ → Type 0
Collides p x y = TreesCollide p.settings (data_blocks p x) (data_blocks p y)

same-length : (p : PlanFields) (x y : List ℕ) → length (data_blocks p x) ≡ length (data_blocks p y)
same-length p x y = length-cut p.settings p.blocks p.wanted x ∙ sym (length-cut p.settings p.blocks p.wanted y)

-- the verdict is that, or the fault by the first data block that differs, where one has this fault
pub named : (p : PlanFields) (device x y digest : List ℕ) (fault : ℕ → CompareFault) → IsPlan p
    → HoldsTree p device x digest → p.wanted ≤ length y
    → ((i : ℕ) → IsFirstDifferent p x y i → (verdict p device y digest ≡ Err (fault i)) ⊎ Collides p x y)
    → IsRightAndSame p device x y digest
    ⊎ ((i : ℕ) × IsFirstDifferent p x y i × (verdict p device y digest ≡ Err (fault i)))
    ⊎ Collides p x y
named p device x y digest fault planned holds enough names =
    let s = p.settings in
    let xs = data_blocks p x in
    let ys = data_blocks p y in
    elim (same-or_first p x y p.blocks (omega arith)) [
      | inl each ↦
          let same : xs ≡ ys = ext_get_or [] xs ys (same-length p x y)
          (λ k low. each k (omega (arith, low, length-cut s p.blocks p.wanted x))) in
          elim (data-bound p x y planned holds.enough enough (ap (root s) same)) [
            | inl covered ↦ inl (
              holds-right p device y digest (record {
                enough = enough;
                stands = λ l j here. holds.stands l j here ∙ ap (λ (blocks : List (List ℕ)). tree_block s blocks l j) same;
                root_is = ap (root s) (sym same) ∙ holds.root_is;
              }),
              covered,
            )
            | inr collide ↦ inr (inr collide)
          ]
      | inr first ↦ elim (names first.0 first.1) [
        | inl so ↦ inr (inl (first.0, first.1, so))
        | inr collide ↦ inr (inr collide)
      ]
    ]

-- below level 0 are the data blocks
count-first : (p : PlanFields) → count_under p 0 ≡ p.blocks
count-first p =
    let one : div_ceil p.blocks 1 ≡ p.blocks = omega arith in ap (div_ceil p.blocks) (pow-zero (fan p.settings)) ∙ one

-- the digest of a data block stands in its slot of the block of level 0 above it
digest-in_slot : (p : PlanFields) (bytes : List ℕ) (q t : ℕ) → IsPlan p → t < fan p.settings
    → q * fan p.settings + t < p.blocks
    → hash p.settings (get_or (data_blocks p bytes) (q * fan p.settings + t) [])
    ≡ digest_in p.settings (tree_block p.settings (data_blocks p bytes) 0 q) t
digest-in_slot p bytes q t planned low below =
    let f = fan p.settings in
    let i = q * f + t in
    let first = sym (index-first i f) in
    true_chain-next p bytes i 0 planned below
    ∙ ap₂ (λ (j k : ℕ). digest_in p.settings (tree_block p.settings (data_blocks p bytes) 0 j) k)
    (quotient-next f i 0 ∙ ap (λ (k : ℕ). k / f) first ∙ div-mul-add q f t low)
    (ap (λ (k : ℕ). k % f) first ∙ mod-mul-add q f t low)

-- the data block with which a block of level 0 closes
closes-first : (p : PlanFields) (q : ℕ) → HasBlock p 0 q → (i : ℕ) × (i < p.blocks) × ClosesWith p i 0 q
closes-first p q here =
    let f = fan p.settings in
    let n = p.blocks in
    let wide = one-le-pow 1 f (fan-some p.settings) in
    let i = closing_moment f n (block_index 0 q) - 1 in
    let first : q * f ^ 1 < n = mul-lt_div_ceil n (f ^ 1) q wide here.index_below in
    let moment : closing_moment f n (block_index 0 q) ≡ i + 1 = omega (arith, first, wide) in
    let below : i < n = omega (arith, first) in
    let time = closes-time f n 0 q i (fan-some p.settings) below here.index_below in
    let does : closes f n i 0 ≡ true = grind (arith, nat_tests, time, moment) in (
      i,
      below,
      record {
        level_below = here.level_below;
        index_is = grind (arith, nat_tests, time, moment);
        all = λ k low. let e : k ≡ 0 = omega (arith, low) in ap (closes f n i) e ∙ does;
      },
    )

-- of the hash blocks that close before the one above the first different data block none differs
none-before : (p : PlanFields) (device x y digest : List ℕ) (d i : ℕ) → HoldsTree p device x digest
    → IsFirstDifferent p x y d → i < p.blocks → d / fan p.settings ^ 1 ≡ i / fan p.settings ^ 1
    → NoneDiffers p (data_blocks p y) device (closed_after (fan p.settings) p.blocks i)
none-before p device x y digest d i holds first below same =
    let s = p.settings in
    let f = fan s in
    stands-counted p (data_blocks p y) device (closed_after f p.blocks i) (λ l j some.
    let closed = closed_time f p.blocks l j i (fan-some s) (omega (arith, below)) some in
    let runs = (j + 1) * f ^ l in
    let width : (j + 1) * f ^ (l + 1) ≡ runs * f ^ 1 = omega (arith, ap (λ (n : ℕ). (j + 1) * n) (pow-add f l 1)) in
    let few : runs ≤ i / f ^ 1 = le-div runs i (f ^ 1) (one-le-pow 1 f (fan-some s)) (omega (arith, closed.1, width, below)) in
    holds.stands l j closed.0
    ∙ blocks_up-prefix s (data_blocks p x) (data_blocks p y) d (l + 1) j (fan-some s) (same-length p x y) first.same
    (rw (length-cut s p.blocks p.wanted x) closed.0.index_below)
    (omega (arith, width, mul_le runs (d / f ^ 1) (f ^ 1) (omega (arith, few, same)), div-mul-le_self d (f ^ 1))))

-- in that one the first digest that differs is the first different data block's, if the two hashes differ
part-child : (p : PlanFields) (x y : List ℕ) (d : ℕ) → IsPlan p → IsFirstDifferent p x y d
    → hash p.settings (get_or (data_blocks p x) d []) ≢ hash p.settings (get_or (data_blocks p y) d [])
    → part_of p 0 (d / fan p.settings ^ 1) (true_chain p.settings (data_blocks p x) d 1)
    (true_chain p.settings (data_blocks p y) d 1)
    ≡ Child d
part-child p x y d planned first apart =
    let s = p.settings in
    let f = fan s in
    let q = d / f ^ 1 in
    let t = d / f ^ 0 % f in
    let low : t < f = mod_below (d / f ^ 0) f (fan-some s) in
    let split : q * f + t ≡ d =
    ap (λ (k : ℕ). k * f + t) (quotient-next f d 0) ∙ div-add-mod' (d / f ^ 0) f ∙ sym (index-first d f) in
    let mine = true_chain s (data_blocks p x) d 1 in
    let long : nat_lt (length mine) s.hash_block ≡ false =
    grind (arith, nat_tests, length-true_block p x d 0 planned first.below) in
    let slot : first_slot p 0 q mine (true_chain s (data_blocks p y) d 1) ≡ Some t =
    find-range _ 0 _ t (omega arith) (omega (arith, low, first.below, split, count-first p))
    (λ k _ before.
    let under : k < f = omega (arith, before, low) in
    let sooner : q * f + k < d = omega (arith, before, split) in
    let within : q * f + k < p.blocks = omega (arith, sooner, first.below) in
    not_from_true _ ((bytes_eq-Decides _ _).1
    (sym (digest-in_slot p x q k planned under within)
    ∙ ap (hash s) (first.same (q * f + k) sooner)
    ∙ digest-in_slot p y q k planned under within)))
    (not_from_false _ (bytes-differ _ _ (λ same. apart
    (true_chain-next p x d 0 planned first.below ∙ same ∙ sym (true_chain-next p y d 0 planned first.below))))) in
    rw (long, slot) (ap Child split)

-- among several data blocks the verdict names the first different one, or the two have one hash
pub names-child : (p : PlanFields) (device x y digest : List ℕ) → IsPlan p → 1 < p.blocks → HoldsTree p device x digest
    → p.wanted ≤ length y → (d : ℕ) → IsFirstDifferent p x y d
    → (verdict p device y digest ≡ Err (names_data_block p d)) ⊎ Collides p x y
names-child p device x y digest planned several holds enough d first =
    let s = p.settings in
    let f = fan s in
    let q = d / f ^ 1 in
    let xs = data_blocks p x in
    let ys = data_blocks p y in
    let levels = levels-more f p.blocks 0 p.blocks (fan-two s planned.valid) (sym (count-first p)) several in
    let here = HasBlock-above p d 0 (fan-some s) first.below levels in
    let stored = holds.stands 0 q here in
    let closing = closes-first p q here in
    let stop = stop_at 0 q (P.Differs (Child d)) in
    elim (same_or_two (hash s (get_or xs d [])) (hash s (get_or ys d []))) [
      | inl one ↦
          inr (collide-at s xs ys d 0 (omega (arith, first.below, length-cut s p.blocks p.wanted x)) (omega arith)
          first.differs one)
      | inr apart ↦ inl (judges-differs p planned device y digest device stop (Child d)
          (stops-for (effects is_unread KeepsSame HoldsAll StopsComparing) p y closing.0 stop device device closing.1
          closing.2 (omega (arith, enough)) (
            refl,
            subst (NoneDiffers p ys device) (sym (append-nil _))
                (none-before p device x y digest d closing.0 holds first closing.1 closing.2.index_is),
            (
              λ same. apart (true_chain-next p x d 0 planned first.below
                  ∙ ap (λ (block : List ℕ). digest_in s block (d / f ^ 0 % f)) (sym stored ∙ same)
                  ∙ sym (true_chain-next p y d 0 planned first.below)),
              rw stored (sym (part-child p x y d planned first apart)),
            ),
          ))
          refl
          ∙ ap (λ (j : ℕ). Err (Differs 0 j (Child d)))
          (quotient-next f d 0 ∙ ap (λ (k : ℕ). k / f) (sym (index-first d f))))
    ]

-- a single data block has no hash block above it, and another root hash
pub one-named : (p : PlanFields) (device x y digest : List ℕ) → IsPlan p → p.blocks ≡ 1
    → HoldsTree p device x digest → p.wanted ≤ length y → IsRightAndSame p device x y digest
    ⊎ (IsFirstDifferent p x y 0 × (verdict p device y digest ≡ Err (RootDiffers (root p.settings (data_blocks p y)))))
    ⊎ Collides p x y
one-named p device x y digest planned single holds enough =
    let s = p.settings in
    let f = fan s in
    let two = fan-two s planned.valid in
    let ys = data_blocks p y in
    let none = levels-all f p.blocks 0 p.blocks two (sym (count-first p)) (omega (arith, single)) in
    elim (named p device x y digest (λ i. RootDiffers (root s ys)) planned holds enough (λ i first.
    elim (same_or_two (root s ys) digest) [
      | inl same ↦ elim (blocks-bound s (data_blocks p x) ys two (same-length p x y) (holds.root_is ∙ sym same)) [
        | inl equal ↦ absurd (first.differs (ap (λ (blocks : List (List ℕ)). get_or blocks i []) equal))
        | inr collide ↦ inr collide
      ]
      | inr other ↦ inl (judges-root p device y (root s ys) digest enough
          (stands-counted p ys device (closed_after f p.blocks p.blocks) (λ l j some.
          let block = closed_time f p.blocks l j p.blocks (fan-some s) (omega arith) some in
          absurd (omega (arith, none, block.0.level_below))))
          refl other)
    ])) [
      | inl right ↦ inl right
      | inr (inl found) ↦
          let zero_is : found.0 ≡ 0 = omega (arith, found.1.below, single) in
          inr (inl (subst (IsFirstDifferent p x y) zero_is found.1, found.2))
      | inr (inr collide) ↦ inr (inr collide)
    ]
