-- The digests of the parts come one after another to the open blocks of the join, and its hash blocks close.
use Rattle.std.proofs.Common.{◌≡◌, ℕ, zero, suc, ◌+◌, ◌-◌, ◌*◌, ◌/◌, ◌%◌, ◌^◌, ◌<◌, ◌≤◌, Bool, true, false, List, ◌++◌, length, take, drop, arith}
use Rattle.std.proofs.{Common.{refl, sym, ◌∙◌, ap, inl, inr, append_assoc}, lemmas.{Bool.cases_lt, Nat.{div-add-mod', le-div, mod-mul-add}}}
use Rattle.std.proofs.lemmas.List.{append-nil, drop-take, length-take, length-take-le, take-take}
use Rattle.{std.proofs.Math.Nat.{div-mul-le_self, mul-div_cancel, pow-zero, zero-mod}, verity_blocks.proofs.Levels.CutBlocks.run-of_front}
use Rattle.verity_plan.{specs.{Plans.level_count, Settings.{TreeSettingsFields, digest_len, fan}}, proofs.FanLemmas.{digest_len_of-pos, fan-some}}
use Rattle.verity_plan.proofs.CountLemmas.{IsLevelCount-level_count, mul_le}
use Rattle.verity_blocks.{specs.ClosingOrder.{BlockIndex, closed_after, first_closing}, proofs.OpenBlocks.ClosingBlocks.reached-down}
use Rattle.verity_blocks.{specs.Steps.OpenBlocks.{Adds, HasClosed, HasOpenBlocks, IsReached, level_digest}, proofs.OpenBlocks.Reached.IsReached-zero}
use Rattle.verity_blocks.proofs.Order.ClosingInTurn.{closed_after-more, closes-none, closes-reached, closing-prefix, first_closing-more}
use Rattle.verity_builders.specs.Steps.Parts.{ClosesAbove, HandsAbove, HasDigests, JoinStands, JoinTakesMore, JoinsOn, handed_out_above}

-- no digest came yet
pub JoinStands-begun : (s : TreeSettingsFields) (blocks : List (List ℕ)) (levels : ℕ) (opened last : List ℕ)
    → 0 < length blocks → HasOpenBlocks s blocks 0 levels 0 opened → JoinStands s blocks levels 0 0 opened last
JoinStands-begun s blocks levels opened last some stands = record {
  taken_most = omega arith;
  closed_most = omega arith;
  some = λ h. absurd (omega (arith, h));
  all = λ h. absurd (omega (arith, h, some));
  room = λ e h. absurd (omega (arith, h));
  opened_is = stands;
  last_is = λ h. absurd (omega (arith, h));
}

-- a hash block was handed out, or none
pub JoinStands-closed : (s : TreeSettingsFields) (blocks : List (List ℕ)) (levels taken closed : ℕ)
    (opened last : List ℕ)
    → 0 < closed → JoinStands s blocks levels taken closed opened last
    → HasClosed s blocks (taken - 1) (closed - 1) levels opened
JoinStands-closed s blocks levels taken zero opened last some h = absurd (omega (arith, some))
JoinStands-closed s blocks levels taken (suc c) opened last some h =
    let e : suc c - 1 ≡ c = omega arith in rw e h.opened_is

pub JoinStands-open : (s : TreeSettingsFields) (blocks : List (List ℕ)) (levels taken closed : ℕ) (opened last : List ℕ)
    → closed ≡ 0 → JoinStands s blocks levels taken closed opened last → HasOpenBlocks s blocks 0 levels taken opened
JoinStands-open s blocks levels taken closed opened last none h = rw none at h.opened_is

-- a digest that fills no block of a level closed the levels below
order-kept : (f n i level : ℕ) → 0 < f → level ≤ level_count f n → IsReached f i level → i / f ^ level % f + 1 < f
    → i + 1 < n → closed_after f n (i + 1) ≡ closed_after f n i ++ first_closing f i level
order-kept f n i level some within reached room next =
    closed_after-more f n i
    ∙ ap (λ (bs : List BlockIndex). closed_after f n i ++ bs) (closing-prefix f n i level within
    (λ l low. closes-reached f n i l some (reached-down f i level (l + 1) some reached (omega (arith, low))))
    (λ l high below. closes-none f n i level l some reached room next high))

-- none closed with the last digest
pub ClosesAbove-none : (s : TreeSettingsFields) (blocks : List (List ℕ)) (levels taken closed : ℕ)
    (opened last : List ℕ)
    → 0 < fan s → closed ≡ 0 → JoinStands s blocks levels taken closed opened last → taken < length blocks
    → JoinTakesMore s blocks levels taken closed taken opened
ClosesAbove-none s blocks levels zero closed opened last some none h more = record {
  stands = JoinStands-open s blocks levels 0 closed opened last none h;
  order = rw none (sym (append-nil _));
}
ClosesAbove-none s blocks levels (suc i) closed opened last some none h more =
    let f = fan s in
    let n = length blocks in
    let e : suc i - 1 ≡ i = omega arith in
    let next : suc i ≡ i + 1 = omega arith in
    let last_slot : i % f + 1 < f = rw e at (h.room none (omega arith)) in
    let first : i / f ^ 0 ≡ i = let one : i / 1 ≡ i = omega arith in ap (λ (k : ℕ). i / k) (pow-zero f) ∙ one in
    record {
      stands = JoinStands-open s blocks levels (suc i) closed opened last none h;
      order = rw (none, e, next) (order-kept f n i 0 some (omega arith) (IsReached-zero f i) (rw first last_slot)
          (omega (arith, more)));
    }

-- past all levels no more digests come
pub ClosesAbove-past : (s : TreeSettingsFields) (blocks : List (List ℕ)) (levels taken closed : ℕ)
    (opened last : List ℕ)
    → 2 ≤ fan s → levels ≡ level_count (fan s) (length blocks) → 0 < closed → levels ≤ closed
    → JoinStands s blocks levels taken closed opened last → taken < length blocks → ⊥
ClosesAbove-past s blocks levels taken closed opened last two count some past h more =
    let f = fan s in
    let came = h.some some in
    let out = JoinStands-closed s blocks levels taken closed opened last some h in
    let all : closed - 1 + 1 ≡ levels = omega (arith, some, past, h.closed_most) in
    let whole = (out.reached (omega (arith, came, more))).whole in
    let wide : f ^ (closed - 1 + 1) ≡ f ^ level_count f (length blocks) = ap (λ (k : ℕ). f ^ k) (all ∙ count) in
    let most = (IsLevelCount-level_count f (length blocks) two).enough in
    let one = mul_le 1 ((taken - 1) / f ^ (closed - 1 + 1) + 1) (f ^ (closed - 1 + 1)) (omega arith) in
    omega (arith, whole, wide, most, one, more, came)

-- the digest of the hash block that closed last came to the level above, and its block closed or has room for more
pub ClosesAbove-adds : (s : TreeSettingsFields) (blocks : List (List ℕ)) (levels taken closed : ℕ) (closes : Bool)
    (before after last : List ℕ) → levels ≡ level_count (fan s) (length blocks) → 0 < closed
    → closed < levels
    → JoinStands s blocks levels taken closed before last
    → (closes ≡ false → (taken - 1) / fan s ^ closed % fan s + 1 < fan s)
    → Adds closes s blocks (taken - 1) closed levels after → ClosesAbove s blocks levels taken closed closes after last
ClosesAbove-adds s blocks levels taken closed true before after last count some low h room added =
    let e : closed + 1 ≡ suc closed = omega arith in
    let top : closed + 1 - 1 ≡ closed = omega arith in (
      record {
        taken_most = h.taken_most;
        closed_most = omega (arith, low);
        some = λ _. h.some some;
        all = λ _ _. omega arith;
        room = λ none. absurd (omega (arith, none));
        opened_is = rw e added;
        last_is = h.last_is;
      },
      rw (first_closing-more, append_assoc, top) refl,
    )
ClosesAbove-adds s blocks levels taken closed false before after last count some low h room added =
    λ more.
    let came = h.some some in
    let next : taken - 1 + 1 ≡ taken = omega (arith, came) in
    let up : closed - 1 + 1 ≡ closed = omega (arith, some) in
    let out = JoinStands-closed s blocks levels taken closed before last some h in
    record {
      stands = rw next at added.1;
      order = rw next at (order-kept (fan s) (length blocks) (taken - 1) closed (fan-some s) (omega (arith, low, count))
          (rw up at (out.reached added.0)) (room refl) added.0);
    }

-- a digest came, and the hash block above it has closed
pub JoinStands-full : (s : TreeSettingsFields) (blocks : List (List ℕ)) (levels taken : ℕ) (opened last : List ℕ)
    → 0 < levels
    → taken < length blocks → Adds true s blocks taken 0 levels opened → last ≡ level_digest s blocks taken 0
    → JoinStands s blocks levels (taken + 1) 1 opened last
JoinStands-full s blocks levels taken opened last some below added is =
    let e : taken + 1 - 1 ≡ taken = omega arith in
    record {
      taken_most = omega (arith, below);
      closed_most = omega (arith, some);
      some = λ _. omega arith;
      all = λ _ _. omega arith;
      room = λ none. absurd (omega (arith, none));
      opened_is = rw e added;
      last_is = λ _. rw e is;
    }

-- or it has room for more
pub JoinStands-room : (s : TreeSettingsFields) (blocks : List (List ℕ)) (levels taken : ℕ) (opened last : List ℕ)
    → taken / fan s ^ 0 % fan s + 1 < fan s → Adds false s blocks taken 0 levels opened
    → last ≡ level_digest s blocks taken 0 → JoinStands s blocks levels (taken + 1) 0 opened last
JoinStands-room s blocks levels taken opened last room added is =
    let e : taken + 1 - 1 ≡ taken = omega arith in
    let first : taken / fan s ^ 0 ≡ taken =
    let one : taken / 1 ≡ taken = omega arith in ap (λ (k : ℕ). taken / k) (pow-zero (fan s)) ∙ one in
    record {
      taken_most = omega (arith, added.0);
      closed_most = omega arith;
      some = λ none. absurd (omega (arith, none));
      all = λ last _. absurd (omega (arith, last, added.0));
      room = λ _ _. rw (e, ← first) room;
      opened_is = added.1;
      last_is = λ _. rw e is;
    }

-- or there is no level above it: it is the one part that is the whole tree
pub JoinStands-alone : (s : TreeSettingsFields) (blocks : List (List ℕ)) (levels taken : ℕ) (opened last : List ℕ)
    → 2 ≤ fan s
    → levels ≡ level_count (fan s) (length blocks) → levels ≤ 0 → taken < length blocks
    → last ≡ level_digest s blocks taken 0 → JoinStands s blocks levels (taken + 1) 0 opened last
JoinStands-alone s blocks levels taken opened last two count none below is =
    let f = fan s in
    let e : taken + 1 - 1 ≡ taken = omega arith in
    let zero_levels : level_count f (length blocks) ≡ 0 = omega (arith, count, none) in
    let few : length blocks ≤ 1 =
    omega (
      arith,
      (IsLevelCount-level_count f (length blocks) two).enough,
      ap (λ (k : ℕ). f ^ k) zero_levels,
      pow-zero f,
    ) in
    let first : taken ≡ 0 = omega (arith, few, below) in
    record {
      taken_most = omega (arith, below);
      closed_most = omega arith;
      some = λ absent. absurd (omega (arith, absent));
      all = λ _ some. absurd (omega (arith, none, some));
      room = λ _ _. rw (e, first, zero-mod f) (omega (arith, two));
      opened_is = λ l from to. absurd (omega (arith, none, to));
      last_is = λ _. rw e is;
    }

-- no hash block has closed with the digests that came
pub record JoinsSoFar (s : TreeSettingsFields) (blocks : List (List ℕ)) (levels before closed taken : ℕ)
    (opened last : List ℕ) : Type 0 where
  pub more : taken < length blocks → JoinTakesMore s blocks levels before closed taken opened
  pub stands : before < taken → JoinStands s blocks levels taken 0 opened last
      × HandsAbove (fan s) (length blocks) before closed taken 0 false

-- before the first of them comes
pub JoinsSoFar-first : (s : TreeSettingsFields) (blocks : List (List ℕ)) (levels taken now closed : ℕ)
    (opened last : List ℕ)
    → now ≡ taken → (taken < length blocks → JoinTakesMore s blocks levels taken closed taken opened)
    → JoinsSoFar s blocks levels taken closed now opened last
JoinsSoFar-first s blocks levels taken now closed opened last same h = record {
  more = rw same h;
  stands = λ later. absurd (omega (arith, later, same));
}

-- nor with one more
pub JoinsSoFar-more : (s : TreeSettingsFields) (blocks : List (List ℕ)) (levels before closed taken : ℕ)
    (opened last after held : List ℕ) → 0 < fan s → taken < length blocks
    → JoinsSoFar s blocks levels before closed taken opened last → JoinStands s blocks levels (taken + 1) 0 after held
    → JoinsSoFar s blocks levels before closed (taken + 1) after held
JoinsSoFar-more s blocks levels before closed taken opened last after held some below h came =
    let f = fan s in
    let n = length blocks in
    let e : taken + 1 - 1 ≡ taken = omega arith in
    let order : handed_out_above f n (taken + 1) 0 ≡ handed_out_above f n before closed =
    append-nil _ ∙ ap (closed_after f n) e ∙ (h.more below).order in
    record {
      more = λ next.
          let ready = ClosesAbove-none s blocks levels (taken + 1) 0 after held some refl came next in
          record { stands = ready.stands; order = ready.order ∙ order };
      stands = λ _. (came, order);
    }

-- with one more the hash block above it has closed
pub JoinsOn-full : (s : TreeSettingsFields) (blocks : List (List ℕ)) (levels before closed taken : ℕ)
    (opened last after held : List ℕ) → taken < length blocks
    → JoinsSoFar s blocks levels before closed taken opened last
    → JoinStands s blocks levels (taken + 1) 1 after held
    → JoinsOn s blocks levels before closed true (taken + 1) 1 after held
JoinsOn-full s blocks levels before closed taken opened last after held below h came =
    let f = fan s in
    let n = length blocks in
    let e : taken + 1 - 1 ≡ taken = omega arith in
    record {
      stands = came;
      order = rw e (ap (λ (bs : List BlockIndex). bs ++ first_closing f taken 1) (h.more below).order);
    }

-- none has closed with all of them
pub JoinsOn-none : (s : TreeSettingsFields) (blocks : List (List ℕ)) (levels before closed taken : ℕ)
    (opened last : List ℕ)
    → before < taken → JoinsSoFar s blocks levels before closed taken opened last
    → JoinsOn s blocks levels before closed false taken 0 opened last
JoinsOn-none s blocks levels before closed taken opened last some h =
    let came = h.stands some in record { stands = came.0; order = came.1 }

-- no digests came, and a hash block has closed
pub JoinsOn-closes : (s : TreeSettingsFields) (blocks : List (List ℕ)) (levels taken closed new_closed : ℕ)
    (opened last : List ℕ) → new_closed ≡ closed + 1 → ClosesAbove s blocks levels taken closed true opened last
    → JoinsOn s blocks levels taken closed true taken new_closed opened last
JoinsOn-closes s blocks levels taken closed new_closed opened last next h = record {
  stands = rw next h.0;
  order = rw next h.1;
}

-- of whole runs there is room for one more
pub run-room : (taken len all : ℕ) → taken ≡ taken / len * len → taken < all → all % len ≡ 0
    → (taken / len < all / len) × (taken + len ≤ all)
run-room taken len all whole below none =
    let many : all / len * len ≡ all = omega (arith, div-add-mod' all len, none) in
    elim (cases_lt (taken / len) (all / len)) [
      | inl less ↦ (
        less,
        omega (arith, mul_le (taken / len + 1) (all / len) len (omega (arith, less)), many, whole),
      )
      | inr past ↦ absurd (omega (arith, mul_le (all / len) (taken / len) len past, many, whole, below))
    ]

-- one run more
pub run-more : (taken len : ℕ) → 0 < len → taken ≡ taken / len * len
    → ((taken + len) / len ≡ taken / len + 1) × (taken + len ≡ (taken + len) / len * len)
run-more taken len some whole =
    let e : taken + len ≡ (taken / len + 1) * len = omega (arith, whole) in
    let quotient : (taken + len) / len ≡ taken / len + 1 =
    ap (λ (n : ℕ). n / len) e ∙ mul-div_cancel (taken / len + 1) some in
    (quotient, e ∙ ap (λ (n : ℕ). n * len) (sym quotient))

-- of digests, fewer of the first are digests
pub HasDigests-front : (s : TreeSettingsFields) (blocks : List (List ℕ)) (from taken more : ℕ) (digests : List ℕ)
    → taken ≤ more → HasDigests s blocks from (take more digests) → HasDigests s blocks from (take taken digests)
HasDigests-front s blocks from taken more digests fewer h = λ k low.
    let len = digest_len s in
    let front = take taken digests in
    let all = take more digests in
    let long = length-take taken digests in
    let longer = length-take more digests in
    let room : k * len + len ≤ length front =
    omega (arith, mul_le (k + 1) (length front / len) len (omega (arith, low)), div-mul-le_self (length front) len) in
    let inside : k < length all / len =
    omega (
      arith,
      le-div (k + 1) (length all) len (digest_len_of-pos s.algorithm) (omega (arith, room, long, longer, fewer)),
    ) in
    run-of_front front all len k
    (take-take (k * len + len) taken digests (omega (arith, room, long))
    ∙ sym (take-take (k * len + len) more digests (omega (arith, room, long, fewer))))
    ∙ h k inside

-- the next digest, as the code cuts it out
next-digest : (s : TreeSettingsFields) (blocks : List (List ℕ)) (from taken len now : ℕ) (digests : List ℕ)
    → len ≡ digest_len s → taken ≡ taken / len * len → taken < length digests → length digests % len ≡ 0
    → now ≡ from + taken / len → HasDigests s blocks from digests
    → take (taken + len - taken) (drop taken digests) ≡ level_digest s blocks now 0
next-digest s blocks from taken len now digests len_is whole below all now_is h =
    let k = taken / len in
    let room = (run-room taken len (length digests) whole below all).0 in
    let wide : taken + len - taken ≡ len = omega arith in
    let inside : k < length digests / digest_len s = rw (← len_is) room in
    ap (λ (n : ℕ). take n (drop taken digests)) wide
    ∙ ap (λ (n : ℕ). take len (drop n digests)) whole
    ∙ ap (λ (n : ℕ). take n (drop (k * n) digests)) len_is
    ∙ h k inside
    ∙ ap (λ (n : ℕ). level_digest s blocks n 0) (sym now_is)

-- the same, of the digests up to it
pub next-taken : (s : TreeSettingsFields) (blocks : List (List ℕ)) (from taken len now : ℕ) (digests : List ℕ)
    → 0 < len → len ≡ digest_len s → taken ≡ taken / len * len → taken + len ≤ length digests → now ≡ from + taken / len
    → HasDigests s blocks from (take (taken + len) digests)
    → take (taken + len - taken) (drop taken digests) ≡ level_digest s blocks now 0
next-taken s blocks from taken len now digests some len_is whole room now_is h =
    let wide : taken + len - taken ≡ len = omega arith in
    let front = take (taken + len) digests in
    let long : length front ≡ taken + len = length-take-le (taken + len) digests room in
    let runs : length front ≡ (taken / len + 1) * len + 0 = omega (arith, long, whole) in
    let all : length front % len ≡ 0 =
    ap (λ (n : ℕ). n % len) runs ∙ mod-mul-add (taken / len + 1) len 0 some in
    sym (ap (λ (n : ℕ). take n (drop taken front)) wide
    ∙ ap (take len) (drop-take taken len digests)
    ∙ take-take len len (drop taken digests) (omega arith)
    ∙ ap (λ (n : ℕ). take n (drop taken digests)) (sym wide))
    ∙ next-digest s blocks from taken len now front len_is whole (omega (arith, long, some)) all now_is h
