-- How digests come from the last byte's data block up through the levels whose hash blocks close.
use Rattle.std.proofs.Common.{◌≡◌, ℕ, zero, suc, ◌+◌, ◌-◌, ◌*◌, ◌/◌, ◌%◌, ◌^◌, ◌<◌, ◌≤◌, List, [], length, ◌++◌, ◌∷◌, arith, refl, inl, inr}
use Rattle.std.proofs.{Common.{append_assoc, ap, true, false}, lemmas.Bool.{cases_lt, Decides.nat_tests}, Math.Nat.pow-le-pow_right}
use Rattle.verity_plan.{specs.{Plans.{IsPlan, PlanFields}, PlanCounts.level_count_of, Settings.fan}, proofs.FanLemmas.{fan-some, fan-two}}
use Rattle.verity_blocks.specs.{ClosingOrder.{blocks_before, closed_after, handed_out, most_closed}, Levels.data_blocks, Windows.window_length}
use Rattle.{verity_blocks.specs.Steps.Feeding.{EndsWindow, HasFed, IsHandingOut, Stands, handed_at, windows_before}, std.specs.Prelude.nat_lt}
use Rattle.verity_blocks.{specs.Steps.OpenBlocks.{HasClosed, HasOpenBlocks, IsReached}, proofs.OpenBlocks.ClosingBlocks.reached-down}
use Rattle.verity_blocks.proofs.{OpenBlocks.Reached.IsReached-zero, Windows.LastByte.{all-count, last-below, last-block, whole-count}}
use Rattle.{verity_blocks.proofs.Levels.CutBlocks.length-cut, verity_plan.proofs.CountLemmas.{IsLevelCount-level_count, mul_le}}
use Rattle.verity_blocks.proofs.Order.ClosingInTurn.{closed_after-more, closes-none, closes-reached, closing-prefix, first_closing-more}

-- the data blocks of a plan are no more than its levels have room for
pub blocks-most : (p : PlanFields) → IsPlan p → p.blocks ≤ fan p.settings ^ level_count_of p
blocks-most p planned = (IsLevelCount-level_count (fan p.settings) p.blocks (fan-two p.settings planned.valid)).enough

-- a hash block was handed out
pub handing-out : (p : PlanFields) (levels level : ℕ) (fed opened window : List ℕ) → 0 < level
    → Stands p levels fed level opened window → IsHandingOut p levels (level - 1) fed opened
handing-out p levels zero fed opened window some h = absurd (omega (arith, some))
handing-out p levels (suc m) fed opened window some h = let e : suc m - 1 ≡ m = omega arith in rw e h

-- nothing was handed out
pub nothing-out : (p : PlanFields) (levels level : ℕ) (fed opened window : List ℕ) → level ≡ 0
    → Stands p levels fed level opened window → HasFed p.settings levels fed opened window
nothing-out p levels level fed opened window none h = rw none at h

-- the levels below have closed above the last byte's data block, if it isn't the last
pub reached-level : (p : PlanFields) (levels level : ℕ) (fed opened window : List ℕ)
    → Stands p levels fed level opened window
    → blocks_before p.settings (length fed) + 1 < length (data_blocks p fed)
    → IsReached (fan p.settings) (blocks_before p.settings (length fed)) level
reached-level p levels zero fed opened window h more = IsReached-zero (fan p.settings) _
reached-level p levels (suc m) fed opened window h more =
    let e : m + 1 ≡ suc m = omega arith in rw e at (h.closed.reached more)

-- how many levels can have closed: with the last byte all, and before it those of the plan's own tree
pub most_closed-early : (p : PlanFields) (level count : ℕ) → count < p.wanted
    → most_closed p level count ≡ level_count_of p
most_closed-early p level count less =
    let tested : nat_lt count p.wanted ≡ true = grind (arith, nat_tests, less) in rw tested refl

pub most_closed-all : (p : PlanFields) (level count : ℕ) → p.wanted ≤ count → most_closed p level count ≡ level
most_closed-all p level count past =
    let tested : nat_lt count p.wanted ≡ false = grind (arith, nat_tests, past) in rw tested refl

pub most_closed-le : (p : PlanFields) (level count : ℕ) → level_count_of p ≤ level → most_closed p level count ≤ level
most_closed-le p level count within = elim (cases_lt count p.wanted) [
  | inl less ↦ omega (arith, most_closed-early p level count less)
  | inr past ↦ omega (arith, most_closed-all p level count past)
]

-- the hash block of a level has closed, and is handed out next
pub climbs-closed : (p : PlanFields) (levels level : ℕ) (fed opened : List ℕ) → EndsWindow p (length fed)
    → level < levels
    → HasClosed p.settings (data_blocks p fed) (blocks_before p.settings (length fed)) level levels opened
    → IsHandingOut p levels level fed opened
    × (handed_out p (length fed) (level + 1) ≡ handed_out p (length fed) level ++ handed_at p (length fed) level ∷ [])
climbs-closed p levels level fed opened ends below closed = (
  record { ends = ends; level_below = below; closed = closed },
  rw (first_closing-more (fan p.settings) (blocks_before p.settings (length fed)) level, append_assoc) refl,
)

-- the window is full, and all its data blocks have come to the open blocks: the level's has room for more
pub record KeepsOpen (p : PlanFields) (levels : ℕ) (fed : List ℕ) (closed : ℕ) (opened : List ℕ) : Type 0 where
  pub full : length fed ≡ (windows_before p.settings (length fed) + 1) * window_length p.settings
  pub stands : HasOpenBlocks p.settings (data_blocks p fed) 0 levels (blocks_before p.settings (length fed) + 1) opened
  pub order : closed_after (fan p.settings) p.blocks (blocks_before p.settings (length fed) + 1)
      ≡ handed_out p (length fed) closed

-- more data blocks come only before the last byte
pub before-last : (p : PlanFields) (count : ℕ) → IsPlan p → EndsWindow p count
    → blocks_before p.settings count + 1 < p.blocks → count < p.wanted
before-last p count planned ends more = elim (cases_lt count p.wanted) [
  | inl less ↦ less
  | inr past ↦
      let all : count ≡ p.wanted = omega (arith, past, ends.most) in
      absurd (omega (arith, more, last-block p planned, ap (blocks_before p.settings) all))
]

pub climbs-kept : (p : PlanFields) (levels level : ℕ) (fed before window opened : List ℕ) → IsPlan p
    → EndsWindow p (length fed) → (length fed < p.wanted → level ≤ level_count_of p)
    → Stands p levels fed level before window
    → blocks_before p.settings (length fed) / fan p.settings ^ level % fan p.settings + 1 < fan p.settings
    → blocks_before p.settings (length fed) + 1 < length (data_blocks p fed)
    → HasOpenBlocks p.settings (data_blocks p fed) 0 levels (blocks_before p.settings (length fed) + 1) opened
    → KeepsOpen p levels fed level opened
climbs-kept p levels level fed before window opened planned ends early h room more stands =
    let f = fan p.settings in
    let some = fan-some p.settings in
    let i = blocks_before p.settings (length fed) in
    let next : i + 1 < p.blocks = omega (arith, more, length-cut p.settings p.blocks p.wanted fed) in
    let reached = reached-level p levels level fed before window h more in
    let within = early (before-last p (length fed) planned ends next) in
    let closing = closing-prefix f p.blocks i level within
    (λ l low. closes-reached f p.blocks i l some (reached-down f i level (l + 1) some reached (omega (arith, low))))
    (λ l high below. closes-none f p.blocks i level l some reached room next high) in
    record {
      full = whole-count p (length fed) planned ends next;
      stands = stands;
      order = rw (closed_after-more, closing) refl;
    }

-- before the last byte no digest comes past the levels of the plan's own tree
pub climbs-past : (p : PlanFields) (levels level : ℕ) (fed opened window : List ℕ) → IsPlan p
    → EndsWindow p (length fed) → level_count_of p ≤ level → length fed < p.wanted
    → Stands p levels fed level opened window → ⊥
climbs-past p levels level fed opened window planned ends past less h =
    let f = fan p.settings in
    let i = blocks_before p.settings (length fed) in
    let many = length-cut p.settings p.blocks p.wanted fed in
    let below = last-below p (length fed) planned ends.some ends.most in
    let most : p.blocks ≤ f ^ level = omega (arith, blocks-most p planned, pow-le-pow_right (fan-some p.settings) past) in
    elim (cases_lt (i + 1) p.blocks) [
      | inl more ↦
          let whole = (reached-level p levels level fed opened window h (omega (arith, more, many))).whole in
          omega (arith, whole, mul_le 1 (i / f ^ level + 1) (f ^ level) (omega arith), most, more)
      | inr last ↦ omega (arith, less, all-count p (length fed) planned ends (omega (arith, last, below)))
    ]
