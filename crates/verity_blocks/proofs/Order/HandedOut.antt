-- Hash blocks that are handed out stay the tree's, and joined over all calls they are those that building writes.
use Rattle.std.proofs.Common.{◌≡◌, ℕ, ◌+◌, ◌*◌, ◌/◌, ◌^◌, ◌<◌, ◌≤◌, List, [], ◌++◌, get_or, length, min, zero, suc, arith, refl, sym, ◌∙◌, ap, inl}
use Rattle.std.proofs.{Common.{inr, length-append}, lemmas.{Bool.cases_lt, List.{append-nil, nil_from_length}}, Math.Nat.{one-le-pow, zero-div}}
use Rattle.{std.specs.Int.div_ceil, verity_plan.proofs.IndexLemmas.quotient-below}
use Rattle.verity_blocks.{proofs.Order.ClosedStays.blocks_up-prefix, specs.ClosingOrder.{closed_after, handed_out, blocks_before}}
use Rattle.verity_blocks.specs.{Levels.data_blocks, Steps.{Feeding.{EndsWindow, IsHandingOut, Stands}, OpenBlocks.HasClosed}, TreeOnDevice.tree_block}
use Rattle.verity_blocks.proofs.{Windows.LastByte.{last-below, last-block, whole-block}, Levels.FirstBlocks.{chunk-front, cut-block}}
use Rattle.verity_blocks.proofs.{Levels.CutBlocks.length-cut, Order.ClosingInTurn.{closed_after-more, closes-last, closing-prefix}}
use Rattle.verity_plan.{specs.{Plans.{IsPlan, PlanFields}, PlanCounts.level_count_of, Settings.fan}, proofs.{CountLemmas.mul_le, FanLemmas.fan-some}}

-- the data blocks of some bytes, as far as these are whole blocks, are those of bytes that go on
whole-same : (p : PlanFields) (n k : ℕ) (fed more : List ℕ) → n * p.settings.data_block ≤ length fed
    → length fed ≤ p.wanted → n ≤ p.blocks → k < n
    → get_or (data_blocks p fed) k [] ≡ get_or (data_blocks p (fed ++ more)) k []
whole-same p n k fed more enough most few below =
    let s = p.settings in
    let size = s.data_block in
    let room : k * size + size ≤ length fed = omega (arith, mul_le (k + 1) n size (omega (arith, below)), enough) in
    cut-block s p.blocks p.wanted k fed (omega (arith, below, few)) (omega (arith, room, most)) room
    ∙ sym (chunk-front fed more size k room)
    ∙ sym (cut-block s p.blocks p.wanted k (fed ++ more) (omega (arith, below, few)) (omega (arith, room, most))
    (omega (arith, room, length-append fed more)))

-- a hash block that has closed is the tree's whatever bytes come after
pub closed-stays : (p : PlanFields) (levels level : ℕ) (fed more opened : List ℕ) → IsPlan p → EndsWindow p (length fed)
    → HasClosed p.settings (data_blocks p fed) (blocks_before p.settings (length fed)) level levels opened
    → length (fed ++ more) ≤ p.wanted
    → tree_block p.settings (data_blocks p fed) level
    (blocks_before p.settings (length fed) / fan p.settings ^ (level + 1))
    ≡ tree_block p.settings (data_blocks p (fed ++ more)) level
    (blocks_before p.settings (length fed) / fan p.settings ^ (level + 1))
closed-stays p levels level fed more opened planned ends closed most =
    let s = p.settings in
    let wide = fan s ^ (level + 1) in
    let i = blocks_before s (length fed) in
    let xs = data_blocks p fed in
    let ys = data_blocks p (fed ++ more) in
    let left : length xs ≡ p.blocks = length-cut s p.blocks p.wanted fed in
    let right : length ys ≡ p.blocks = length-cut s p.blocks p.wanted (fed ++ more) in
    let below = last-below p (length fed) planned ends.some ends.most in
    elim ends.ends [
      | inl whole ↦
          let inside : i / wide < div_ceil (length xs) wide =
          rw left (quotient-below i p.blocks wide (one-le-pow (level + 1) (fan s) (fan-some s)) below) in
          let time : min ((i / wide + 1) * wide) (length xs) ≤ i + 1 = elim (cases_lt (i + 1) (length xs)) [
            | inl less ↦ omega (arith, (closed.reached less).whole)
            | inr last ↦ omega (arith, last)
          ] in
          blocks_up-prefix s xs ys (i + 1) (level + 1) (i / wide) (fan-some s) (left ∙ sym right)
          (λ k low. whole-same p (i + 1) k fed more
          (omega (arith, whole-block s (length fed) planned.valid ends.some whole)) ends.most (omega (arith, below)) low)
          inside time
      | inr all ↦
          let none : more ≡ [] = nil_from_length more (omega (arith, all, most, length-append fed more)) in
          rw (none, append-nil) refl
    ]

-- and so is the one that is handed out
pub handed-out-stays : (p : PlanFields) (levels level : ℕ) (fed more opened : List ℕ) → IsPlan p
    → IsHandingOut p levels level fed opened → length (fed ++ more) ≤ p.wanted
    → tree_block p.settings (data_blocks p fed) level
    (blocks_before p.settings (length fed) / fan p.settings ^ (level + 1))
    ≡ tree_block p.settings (data_blocks p (fed ++ more)) level
    (blocks_before p.settings (length fed) / fan p.settings ^ (level + 1))
handed-out-stays p levels level fed more opened planned h most =
    closed-stays p levels level fed more opened planned h.ends h.closed most

-- when all bytes were fed and all levels have closed, all hash blocks were handed out
pub all-handed-out : (p : PlanFields) → IsPlan p
    → handed_out p p.wanted (level_count_of p) ≡ closed_after (fan p.settings) p.blocks p.blocks
all-handed-out p planned =
    let f = fan p.settings in
    let i = blocks_before p.settings p.wanted in
    let last : i + 1 ≡ p.blocks = last-block p planned in
    let closing = closing-prefix f p.blocks i (level_count_of p) (omega arith) (λ l low. closes-last f p.blocks i l last)
    (λ l high low. absurd (omega (arith, high, low))) in
    rw (← closing, ← closed_after-more) (ap (closed_after f p.blocks) last)

-- nothing was handed out at the beginning
pub none-handed-out : (p : PlanFields) → handed_out p 0 0 ≡ []
unfolding closed_after
none-handed-out p = rw zero-div refl

-- before the first byte nothing was handed out
pub first-closed : (p : PlanFields) (levels closed : ℕ) (opened window : List ℕ)
    → Stands p levels [] closed opened window
    → closed ≡ 0
first-closed p levels zero opened window h = refl
first-closed p levels (suc m) opened window h = absurd (omega (arith, h.ends.some))
