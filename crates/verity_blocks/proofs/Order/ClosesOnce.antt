-- The closing order has each block once.
use Rattle.std.proofs.Common.{◌≡◌, ℕ, zero, suc, ◌+◌, ◌*◌, ◌/◌, ◌%◌, ◌^◌, ◌<◌, ◌≤◌, Bool, cond, leb, List, ◌∷◌, arith, ◌∙◌, ap, ltb}
use Rattle.std.proofs.lemmas.{Bool.Decides.nat_tests, List.Sums.{sum_by-cons, sum_by-append}, Nat.{div-add-mod', mod_below, mod-mul-add}}
use Rattle.std.{proofs.Math.Nat.{one-le-pow, mul-le-mul_right}, specs.{List.range_with_len, Prelude.{◌==◌, ◌&&◌}}}
use Rattle.verity_plan.{specs.Plans.{level_count, level_size, IsTreeBlock}, proofs.CountLemmas.{mul-lt_div_ceil, mul_le}}
use Rattle.{verity_plan.proofs.IndexLemmas.quotient-below, verity_blocks.proofs.{OpenBlocks.Reached.next-slot, Order.ClosingInTurn.passing}}
use Rattle.verity_blocks.specs.ClosingOrder.{BlockIndex, block_index, closes, closing_with, closed_after, times, ClosesOnce, closing_moment}

-- one for a test that passes
abbrev bit : Bool → ℕ
bit b = cond b 1 0

times-passing : (l j a : ℕ) (f : ℕ → ℕ) (c : ℕ → Bool) (levels : List ℕ)
    → times l j (passing f c (a ∷ levels)) ≡ bit (c a && ((a == l) && (f a == j))) + times l j (passing f c levels)
times-passing l j a f c levels =
    let more = sum_by-cons (λ (at : BlockIndex). bit ((at.level == l) && (at.index == j))) (block_index a (f a))
    (passing f c levels) in
    grind (arith, nat_tests, more)

-- of a run of levels, each with a block, the block of a level of the run is counted if that level passes
times-run : (l j a k : ℕ) (f : ℕ → ℕ) (c : ℕ → Bool)
    → times l j (passing f c (range_with_len a k)) ≡ bit ((leb a l && ltb l (a + k)) && (c l && (f l == j)))
times-run l j a zero f c = grind (arith, nat_tests)
times-run l j a (suc k) f c =
    grind (arith, nat_tests, times-passing l j a f c (range_with_len (a + 1) k), times-run l j (a + 1) k f c)

-- the block that closes is the one whose time it is
pub closes-time : (fan n l j i : ℕ) → 0 < fan → i < n → j < level_size fan n l
    → (closes fan n i l && (i / fan ^ (l + 1) == j)) ≡ (closing_moment fan n (block_index l j) == i + 1)
closes-time fan n l j i pos below inside =
    let w = fan ^ (l + 1) in
    let wide : 0 < w = one-le-pow (l + 1) fan pos in
    let split = div-add-mod' i w in
    let low = mod_below i w wide in
    let room : i % w + 1 < w → (i + 1) % w ≡ i % w + 1 = λ less. (next-slot w i less).0 in
    let full : i % w + 1 ≡ w → (i + 1) % w ≡ 0 = λ last.
    let next : i + 1 ≡ (i / w + 1) * w + 0 = omega (arith, split, last) in
    ap (λ (x : ℕ). x % w) next ∙ mod-mul-add (i / w + 1) w 0 wide in
    let before : j < i / w → (j + 1) * w ≤ i / w * w = λ less. mul_le (j + 1) (i / w) w (omega (arith, less)) in
    let past : i / w < j → (i / w + 1) * w ≤ j * w = λ more. mul_le (i / w + 1) j w (omega (arith, more)) in
    let here : j ≡ i / w → j * w ≡ i / w * w = λ same. ap (λ (q : ℕ). q * w) same in
    grind (arith, nat_tests, mul-lt_div_ceil n w j wide inside)

-- after so many data blocks the tree's block of this index has closed
abbrev has_closed : ℕ → ℕ → ℕ → ℕ → ℕ → Bool
has_closed fan n l j i =
    (ltb l (level_count fan n) && ltb j (level_size fan n l)) && leb (closing_moment fan n (block_index l j)) i

-- a block of the tree has closed once from its time on, and nothing else closes
times-closed_after : (fan n l j i : ℕ) → 0 < fan → i ≤ n
    → times l j (closed_after fan n i) ≡ bit (has_closed fan n l j i)
unfolding closed_after
times-closed_after fan n l j zero pos most =
    let width = fan ^ (l + 1) in
    let wide : 0 < width = one-le-pow (l + 1) fan pos in
    let later : j < level_size fan n l → 0 < closing_moment fan n (block_index l j) = λ inside.
    let at_least : 1 ≤ j + 1 = omega arith in
    omega (arith, mul-lt_div_ceil n width j wide inside, mul-le-mul_right width at_least) in
    grind (arith, nat_tests, later)
times-closed_after fan n l j (suc i) pos most =
    let below : i < n = omega (arith, most) in
    let before = times-closed_after fan n l j i pos (omega arith) in
    let here = times-run l j 0 (level_count fan n) (λ level. i / fan ^ (level + 1)) (closes fan n i) in
    let all = sum_by-append (λ (at : BlockIndex). cond ((at.level == l) && (at.index == j)) 1 0) (closed_after fan n i)
    (closing_with fan n i) in
    let time = closes-time fan n l j i pos below in
    let place = quotient-below i n (fan ^ (l + 1)) (one-le-pow (l + 1) fan pos) below in
    grind (arith, nat_tests, time)

-- what has closed is a block of the tree whose time has come
pub closed_time : (fan n l j i : ℕ) → 0 < fan → i ≤ n → 0 < times l j (closed_after fan n i)
    → IsTreeBlock fan n l j × (closing_moment fan n (block_index l j) ≤ i)
closed_time fan n l j i pos most some =
    let closed = times-closed_after fan n l j i pos most in (
      record { level_below = grind (arith, nat_tests); index_below = grind (arith, nat_tests) },
      grind (arith, nat_tests),
    )

-- each block closes once
pub ClosesOnce-all : (fan n : ℕ) → 0 < fan → ClosesOnce fan n
ClosesOnce-all fan n pos = record {
  once = λ l j block.
      grind (arith, nat_tests, times-closed_after fan n l j n pos (omega arith), block.level_below, block.index_below);
  only = λ l j some. (closed_time fan n l j n pos (omega arith) some).0;
}
