-- The hash blocks of the join, in closing order, are those of a tree of its own above as many data blocks as a level
-- has parts.
use Rattle.std.proofs.Common.{◌≡◌, ℕ, zero, suc, ◌+◌, ◌-◌, ◌*◌, ◌/◌, ◌%◌, ◌^◌, ◌<◌, ◌≤◌, Bool, true, false, List, [], ◌∷◌, ◌++◌, cond, map, leb}
use Rattle.std.proofs.{Common.{arith, sym, ◌∙◌, ap, refl}, lemmas.{Bool.Decides.nat_tests, List.{append-nil, map-append, Elements.filter-append}}}
use Rattle.std.{proofs.lemmas.{Nat.{div-add-mod', div-mul-add, mod-mul-add, mod_below, pow-add}, Simd.map-map}, specs.{Int.div_ceil, Prelude.nat_le}}
use Rattle.std.{proofs.Math.Nat.{div-div-eq-div-mul, one-le-pow}, specs.List.{filter, range_with_len}}
use Rattle.verity_plan.specs.{Plans.{PlanFields, level_count}, PlanCounts.{level_count_of, count_under}, Settings.fan}
use Rattle.{verity_plan.proofs.CountLemmas.{mul_le, mul-lt_div_ceil}, verity_builders.specs.Steps.Parts.handed_out_above}
use Rattle.verity_builders.{proofs.Joins.PlanOfJoin.level_count-above, specs.Parts.{closed_in_join, handed_out_of_join}}
use Rattle.verity_blocks.specs.ClosingOrder.{BlockIndex, block_index, closed_after, closes, closing_with, first_closing}
use Rattle.verity_blocks.proofs.Order.ClosingInTurn.{closed_after-more, passing, passing-none}

-- a hash block of the join's own tree, as one of the whole
abbrev pub raised : ℕ → BlockIndex → BlockIndex
raised m block = block_index (m + block.level) block.index

-- a hash block is one of the join's
abbrev is_above : ℕ → BlockIndex → Bool
is_above m block = nat_le m block.level

-- two runs of levels
range-split : (a m k : ℕ) → range_with_len a (m + k) ≡ range_with_len a m ++ range_with_len (a + m) k
range-split a zero k =
    let none : 0 + k ≡ k = omega arith in
    let e : a ≡ a + 0 = omega arith in
    ap (range_with_len a) none ∙ ap (λ (n : ℕ). range_with_len n k) e
range-split a (suc m) k =
    let next : suc m + k ≡ suc (m + k) = omega arith in
    let e : a + 1 + m ≡ a + suc m = omega arith in
    ap (range_with_len a) next
    ∙ ap (λ (xs : List ℕ). a ∷ xs) (range-split (a + 1) m k
    ∙ ap (λ (n : ℕ). range_with_len (a + 1) m ++ range_with_len n k) e)

passing-append : (g : ℕ → ℕ) (c : ℕ → Bool) (xs ys : List ℕ) → passing g c (xs ++ ys) ≡ passing g c xs ++ passing g c ys
passing-append g c xs ys =
    ap (map (λ level. block_index level (g level))) (filter-append c xs ys)
    ∙ map-append (λ level. block_index level (g level)) (filter c xs) (filter c ys)

-- the levels below the join's have none of its hash blocks
none-below : (m : ℕ) (g : ℕ → ℕ) (c : ℕ → Bool) (a k : ℕ) → a + k ≤ m
    → filter (is_above m) (passing g c (range_with_len a k)) ≡ []
none-below m g c a zero low = refl
none-below m g c a (suc k) low =
    let below : leb m a ≡ false = grind (arith, nat_tests, low) in
    by_test (c a) below (none-below m g c (a + 1) k (omega (arith, low)))
  where
    by_test : (b : Bool) → leb m a ≡ false → filter (is_above m) (passing g c (range_with_len (a + 1) k)) ≡ []
        → filter (is_above m) (map (λ level. block_index level (g level))
        (cond b (a ∷ filter c (range_with_len (a + 1) k)) (filter c (range_with_len (a + 1) k)))) ≡ []
    by_test true below rest = rw below rest
    by_test false below rest = rest

-- the levels of the join have those of its own tree
same-above : (m : ℕ) (g own_g : ℕ → ℕ) (c own_c : ℕ → Bool) (a b k : ℕ) → b ≡ m + a → ((l : ℕ) → c (m + l) ≡ own_c l)
    → ((l : ℕ) → g (m + l) ≡ own_g l)
    → filter (is_above m) (passing g c (range_with_len b k)) ≡ map (raised m) (passing own_g own_c (range_with_len a k))
same-above m g own_g c own_c a b zero place tests places = refl
same-above m g own_g c own_c a b (suc k) place tests places =
    let high : leb m b ≡ true = grind (arith, nat_tests, place) in
    let tested : c b ≡ own_c a = ap c place ∙ tests a in
    let index : g b ≡ own_g a = ap g place ∙ places a in
    let rest = same-above m g own_g c own_c (a + 1) (b + 1) k (omega (arith, place)) tests places in
    rw tested (by_test (own_c a) high index rest)
  where
    by_test : (t : Bool) → leb m b ≡ true → g b ≡ own_g a
        → filter (is_above m) (passing g c (range_with_len (b + 1) k))
        ≡ map (raised m) (passing own_g own_c (range_with_len (a + 1) k))
        → filter (is_above m) (map (λ level. block_index level (g level))
        (cond t (b ∷ filter c (range_with_len (b + 1) k)) (filter c (range_with_len (b + 1) k))))
        ≡ map (raised m) (map (λ level. block_index level (own_g level))
        (cond t (a ∷ filter own_c (range_with_len (a + 1) k)) (filter own_c (range_with_len (a + 1) k))))
    by_test true high index rest =
        rw (high, index) (ap (λ (bs : List BlockIndex). block_index b (own_g a) ∷ bs) rest
        ∙ ap (λ (n : ℕ). block_index n (own_g a) ∷ map (raised m) (passing own_g own_c (range_with_len (a + 1) k)))
        place)
    by_test false high index rest = rest

-- of the hash blocks that close with a data block, the join's
closing-above : (f n i m : ℕ) → m ≤ level_count f n
    → filter (is_above m) (closing_with f n i)
    ≡ filter (is_above m) (passing (λ level. i / f ^ (level + 1)) (closes f n i)
    (range_with_len m (level_count f n - m)))
closing-above f n i m within =
    let g : ℕ → ℕ = λ level. i / f ^ (level + 1) in
    let c = closes f n i in
    let all : level_count f n ≡ m + (level_count f n - m) = omega (arith, within) in
    let start : 0 + m ≡ m = omega arith in
    ap (λ (k : ℕ). filter (is_above m) (passing g c (range_with_len 0 k))) all
    ∙ ap (λ (xs : List ℕ). filter (is_above m) (passing g c xs)) (range-split 0 m (level_count f n - m))
    ∙ ap (λ (j : ℕ). filter (is_above m) (passing g c (range_with_len 0 m ++ range_with_len j (level_count f n - m))))
    start
    ∙ ap (filter (is_above m)) (passing-append g c (range_with_len 0 m) (range_with_len m (level_count f n - m)))
    ∙ filter-append (is_above m) (passing g c (range_with_len 0 m)) _
    ∙ ap (λ (bs : List BlockIndex). bs ++ filter (is_above m) (passing g c (range_with_len m (level_count f n - m))))
    (none-below m g c 0 m (omega arith))

-- a data block within a part that isn't its last closes none of them
none-within : (f n t r m l : ℕ) → 0 < f → r + 1 < f ^ m → t * f ^ m + r + 1 < n → m ≤ l
    → closes f n (t * f ^ m + r) l ≡ false
none-within f n t r m l some room more high =
    let part = f ^ m in
    let more_wide = f ^ (l + 1 - m) in
    let i = t * part + r in
    let e : l + 1 ≡ m + (l + 1 - m) = omega (arith, high) in
    let wide : f ^ (l + 1) ≡ part * more_wide = ap (λ (k : ℕ). f ^ k) e ∙ pow-add f m (l + 1 - m) in
    let q = (i + 1) / f ^ (l + 1) in
    let split : q * f ^ (l + 1) + (i + 1) % f ^ (l + 1) ≡ i + 1 = div-add-mod' (i + 1) (f ^ (l + 1)) in
    let rest : (i + 1) % part ≡ r + 1 =
    let same : i + 1 ≡ t * part + (r + 1) = omega arith in
    ap (λ (k : ℕ). k % part) same ∙ mod-mul-add t part (r + 1) room in
    let apart : (i + 1) % f ^ (l + 1) ≡ 0 → ⊥ = λ none.
    let again : i + 1 ≡ q * more_wide * part + 0 = omega (arith, split, none, ap (λ (k : ℕ). q * k) wide) in
    let whole : (i + 1) % part ≡ 0 =
    ap (λ (k : ℕ). k % part) again ∙ mod-mul-add (q * more_wide) part 0 (one-le-pow m f some) in
    omega (arith, whole, rest) in
    grind (arith, nat_tests, apart, more)

-- the last data block of a part closes a level of the join if the part closes that level of the join's own tree
same-tests : (f n t m l : ℕ) → 0 < f → t + 1 < div_ceil n (f ^ m)
    → closes f n (t * f ^ m + (f ^ m - 1)) (m + l) ≡ closes f (div_ceil n (f ^ m)) t l
same-tests f n t m l some more =
    let part = f ^ m in
    let above = f ^ (l + 1) in
    let one : 0 < part = one-le-pow m f some in
    let i = t * part + (part - 1) in
    let next : i + 1 ≡ (t + 1) * part = omega (arith, one) in
    let e : m + l + 1 ≡ m + (l + 1) = omega arith in
    let wide : f ^ (m + l + 1) ≡ part * above = ap (λ (k : ℕ). f ^ k) e ∙ pow-add f m (l + 1) in
    let q = (t + 1) / above in
    let r = (t + 1) % above in
    let split : q * above + r ≡ t + 1 = div-add-mod' (t + 1) above in
    let low : r < above = mod_below (t + 1) above (one-le-pow (l + 1) f some) in
    let within : r * part < part * above = omega (arith, mul_le (r + 1) above part (omega (arith, low)), one) in
    let whole : i + 1 ≡ q * (part * above) + r * part = omega (arith, next, ap (λ (k : ℕ). k * part) split) in
    let rest : (i + 1) % f ^ (m + l + 1) ≡ r * part =
    ap (λ (k : ℕ). (i + 1) % k) wide ∙ ap (λ (k : ℕ). k % (part * above)) whole
    ∙ mod-mul-add q (part * above) (r * part) within in
    let before : i + 1 < n = omega (arith, next, mul-lt_div_ceil n part (t + 1) one more) in
    let none : r ≡ 0 → r * part ≡ 0 = λ z. ap (λ (k : ℕ). k * part) z ∙ omega arith in
    let some_left : 0 < r → 0 < r * part = λ h. omega (arith, mul_le 1 r part (omega (arith, h)), one) in
    grind (arith, nat_tests, rest, before, more, none, some_left)

-- and above it stands the same hash block
same-places : (f t m l : ℕ) → 0 < f → (t * f ^ m + (f ^ m - 1)) / f ^ (m + l + 1) ≡ t / f ^ (l + 1)
same-places f t m l some =
    let part = f ^ m in
    let one : 0 < part = one-le-pow m f some in
    let i = t * part + (part - 1) in
    let e : m + l + 1 ≡ m + (l + 1) = omega arith in
    let wide : f ^ (m + l + 1) ≡ part * f ^ (l + 1) = ap (λ (k : ℕ). f ^ k) e ∙ pow-add f m (l + 1) in
    ap (λ (k : ℕ). i / k) wide
    ∙ sym (div-div-eq-div-mul i part (f ^ (l + 1)))
    ∙ ap (λ (k : ℕ). k / f ^ (l + 1)) (div-mul-add t part (part - 1) (omega (arith, one)))

-- within a part none of the join's closes
closed-within : (f n t m r : ℕ) → 0 < f → m ≤ level_count f n → r < f ^ m → t * f ^ m + r < n
    → closed_in_join f n m (t * f ^ m + r) ≡ closed_in_join f n m (t * f ^ m)
closed-within f n t m zero some within room below =
    let e : t * f ^ m + 0 ≡ t * f ^ m = omega arith in ap (closed_in_join f n m) e
closed-within f n t m (suc r) some within room below =
    let i = t * f ^ m + r in
    let e : t * f ^ m + suc r ≡ i + 1 = omega arith in
    ap (closed_in_join f n m) e
    ∙ ap (filter (is_above m)) (closed_after-more f n i)
    ∙ filter-append (is_above m) (closed_after f n i) (closing_with f n i)
    ∙ ap (λ (bs : List BlockIndex). closed_in_join f n m i ++ bs) (closing-above f n i m within
    ∙ ap (filter (is_above m)) (passing-none (λ level. i / f ^ (level + 1)) (closes f n i) m (level_count f n - m)
    (λ l high _. none-within f n t r m l some (omega (arith, room)) (omega (arith, below)) high)))
    ∙ append-nil _
    ∙ closed-within f n t m r some within (omega (arith, room)) (omega (arith, below))

-- with a part close those that it closes in the join's own tree
closed-part : (f n t m : ℕ) → 2 ≤ f → m ≤ level_count f n → t + 1 < div_ceil n (f ^ m)
    → closed_in_join f n m ((t + 1) * f ^ m)
    ≡ closed_in_join f n m (t * f ^ m) ++ map (raised m) (closing_with f (div_ceil n (f ^ m)) t)
closed-part f n t m two within more =
    let some : 0 < f = omega arith in
    let part = f ^ m in
    let one : 0 < part = one-le-pow m f some in
    let i = t * part + (part - 1) in
    let parts = div_ceil n part in
    let next : (t + 1) * part ≡ i + 1 = omega (arith, one) in
    let before : (t + 1) * part < n = mul-lt_div_ceil n part (t + 1) one more in
    let start : m ≡ m + 0 = omega arith in
    ap (closed_in_join f n m) next
    ∙ ap (filter (is_above m)) (closed_after-more f n i)
    ∙ filter-append (is_above m) (closed_after f n i) (closing_with f n i)
    ∙ ap (λ (bs : List BlockIndex). bs ++ filter (is_above m) (closing_with f n i))
    (closed-within f n t m (part - 1) some within (omega (arith, one)) (omega (arith, before, next)))
    ∙ ap (λ (bs : List BlockIndex). closed_in_join f n m (t * part) ++ bs) (closing-above f n i m within
    ∙ same-above m (λ level. i / f ^ (level + 1)) (λ level. t / f ^ (level + 1)) (closes f n i) (closes f parts t) 0 m
    (level_count f n - m) start (λ l. same-tests f n t m l some more) (λ l. same-places f t m l some)
    ∙ ap (λ (k : ℕ). map (raised m) (passing (λ level. t / f ^ (level + 1)) (closes f parts t) (range_with_len 0 k)))
    (sym (level_count-above f n m two within)))

-- with so many parts close those that they close in the join's own tree
closed-parts : (f n t m : ℕ) → 2 ≤ f → m ≤ level_count f n → t < div_ceil n (f ^ m)
    → closed_in_join f n m (t * f ^ m) ≡ map (raised m) (closed_after f (div_ceil n (f ^ m)) t)
unfolding closed_after
closed-parts f n zero m two within below = let e : 0 * f ^ m ≡ 0 = omega arith in ap (closed_in_join f n m) e
closed-parts f n (suc t) m two within below =
    let e : suc t ≡ t + 1 = omega arith in
    let parts = div_ceil n (f ^ m) in
    ap (λ (k : ℕ). closed_in_join f n m (k * f ^ m)) e
    ∙ closed-part f n t m two within (omega (arith, below))
    ∙ ap (λ (bs : List BlockIndex). bs ++ map (raised m) (closing_with f parts t))
    (closed-parts f n t m two within (omega (arith, below)))
    ∙ sym (map-append (raised m) (closed_after f parts t) (closing_with f parts t))

-- what the join handed out is what its own tree did
pub handed-out-raised : (p : PlanFields) (m taken closed : ℕ) → 2 ≤ fan p.settings → m ≤ level_count_of p
    → 0 < count_under p m → taken ≤ count_under p m
    → handed_out_of_join p m taken closed
    ≡ map (raised m) (handed_out_above (fan p.settings) (count_under p m) taken closed)
handed-out-raised p m taken closed two within some most =
    let f = fan p.settings in
    let t = taken - 1 in
    let own = closed_after f (count_under p m) t in
    ap (λ (bs : List BlockIndex). bs ++ map (λ l. block_index (m + l) (t / f ^ (l + 1))) (range_with_len 0 closed))
    (closed-parts f p.blocks t m two within (omega (arith, some, most)))
    ∙ ap (λ (bs : List BlockIndex). map (raised m) own ++ bs)
    (sym (map-map (raised m) (λ level. block_index level (t / f ^ (level + 1))) (range_with_len 0 closed)))
    ∙ sym (map-append (raised m) own (first_closing f t closed))
