-- Digests are taken until a hash block closes.
use Rattle.std.proofs.{Common.{List, length, take, ◌≡◌, ℕ, ◌+◌, ◌/◌, ◌<◌, ◌≤◌, ap, arith, refl, ◌%◌, inl, inr}, lemmas.Bool.cases_lt}
use Rattle.std.proofs.{lemmas.Bool.Decides.nat_tests, Math.Nat.{zero-div, zero-mul}}
use Rattle.verity_plan.{specs.PlanCounts.level_count_of, proofs.{FanLemmas.{digest_len_of-pos, fan-some}, PlanLemmas.blocks-some}}
use Rattle.verity_builders.{specs.Steps.Parts.{HasDigests, JoinStands}, proofs.Joins.JoinDigests.{JoinsSoFar-more, next-taken, run-more, run-room}}
use Rattle.verity_builders.proofs.Joins.JoinDigests.{HasDigests-front, JoinsOn-closes, JoinsOn-full, JoinsOn-none, JoinsSoFar, JoinsSoFar-first}
use Rattle.verity_builders.proofs.join_builder.join_until_closed.Goals.{After-loop-taken, After-take_digest-closes, else-is_empty-via-else-is_empty}
use Rattle.verity_builders.proofs.join_builder.join_until_closed.Goals.{else-is_empty-via-then-is_empty+else-not-closes_above}
use Rattle.verity_builders.proofs.join_builder.join_until_closed.Goals as goal

pub returns-then-close_above-clause-stands : goal.returns-then-close_above-clause-stands
returns-then-close_above-clause-stands c = λ blocks many h _.
    rw c.close_above.ensures.fed (JoinsOn-closes c.args.own.now.settings blocks _ _ _ _ _ _
    (c.if-close_above.ensures.closed refl).0 (c.if-close_above.ensures.stands blocks _ many h))

pub loop-taken-init : goal.loop-taken-init
loop-taken-init c = record {
  most = omega arith;
  whole = simp (zero-div, zero-mul);
  fed = omega (arith, c.close_above.ensures.fed, zero-div c.digest_len-len.result);
  closed = c.close_above.ensures.within;
  none_closes = λ none. absurd (omega (arith, none));
  done = λ none. absurd (omega (arith, none));
  stands = λ blocks many h _.
      JoinsSoFar-first c.args.own.now.settings blocks _ _ _ _ _ c.args.last.now c.close_above.ensures.fed
      (c.if-close_above.ensures.stands blocks _ many h);
}

-- no hash block has closed before
so-far : (c : After-take_digest-closes) → (blocks : List (List ℕ)) → length blocks ≡ c.args.own.now.blocks
    → JoinStands c.args.own.now.settings blocks (level_count_of c.args.own.now) c.args.progress.now.fed
    c.args.progress.now.closed c.args.opened.now c.args.last.now
    → HasDigests c.args.own.now.settings blocks c.args.progress.now.fed
    (take (c.loop-taken.taken + c.digest_len-len.result) c.args.digests.now)
    → JoinsSoFar c.args.own.now.settings blocks (level_count_of c.args.own.now) c.args.progress.now.fed
    c.args.progress.now.closed c.loop-taken.progress.fed c.loop-taken.opened c.loop-taken.last
so-far c blocks many h digests =
    c.loop-taken.invariant.stands blocks many h (HasDigests-front c.args.own.now.settings blocks c.args.progress.now.fed
    c.loop-taken.taken (c.loop-taken.taken + c.digest_len-len.result) c.args.digests.now (omega arith) digests)

-- the digest comes to the open blocks
comes : (c : After-take_digest-closes) → (blocks : List (List ℕ)) → length blocks ≡ c.args.own.now.blocks
    → JoinStands c.args.own.now.settings blocks (level_count_of c.args.own.now) c.args.progress.now.fed
    c.args.progress.now.closed c.args.opened.now c.args.last.now
    → HasDigests c.args.own.now.settings blocks c.args.progress.now.fed
    (take (c.loop-taken.taken + c.digest_len-len.result) c.args.digests.now)
    → (c.loop-taken.progress.fed < length blocks)
    × JoinStands c.args.own.now.settings blocks (level_count_of c.args.own.now) (c.loop-taken.progress.fed + 1)
    c.take_digest-closes.new.progress.closed c.take_digest-closes.new.opened c.take_digest-closes.new.last
comes c blocks many h digests =
    let s = c.args.own.now.settings in
    let inv = c.loop-taken.invariant in
    let len = c.digest_len-len.result in
    let all : length c.args.digests.now % len ≡ 0 = rw c.digest_len-len.ensures c.requires.whole in
    let room = run-room c.loop-taken.taken len (length c.args.digests.now) inv.whole c.loop-taken-test.true all in
    let most : c.args.progress.now.fed + length c.args.digests.now / len ≤ c.args.own.now.blocks =
    rw c.digest_len-len.ensures c.requires.most in
    let below : c.loop-taken.progress.fed < length blocks = omega (arith, room.0, most, inv.fed, many) in
    let some : 0 < len = omega (arith, c.digest_len-len.ensures, digest_len_of-pos s.algorithm) in
    let next = next-taken s blocks c.args.progress.now.fed c.loop-taken.taken len c.loop-taken.progress.fed
    c.args.digests.now some c.digest_len-len.ensures inv.whole room.1 inv.fed digests in (
      below,
      rw (← c.take_digest-closes.ensures.fed) (c.take_digest-closes.ensures.stands blocks many
          ((so-far c blocks many h digests).more below).stands next),
    )

pub returns-then-closes-clause-stands : goal.returns-then-closes-clause-stands
returns-then-closes-clause-stands c = λ blocks many h digests.
    let at = (goal.at.returns-then-closes-clause-stands c).After-take_digest-closes in
    let came = comes at blocks many h digests in
    let one = (c.take_digest-closes.ensures.closed c.if-closes.true).0 in
    rw (c.take_digest-closes.ensures.fed, one) (JoinsOn-full c.args.own.now.settings blocks _ _ _ _ _ _ _ _ came.0
    (so-far at blocks many h digests) (rw one at came.1))

pub loop-taken-preserved : goal.loop-taken-preserved
loop-taken-preserved c =
    let inv = c.loop-taken.invariant in
    let len = c.digest_len-len.result in
    let at = (goal.at.loop-taken-preserved c).After-take_digest-closes in
    let some : 0 < len = omega (arith, c.digest_len-len.ensures, digest_len_of-pos c.args.own.now.settings.algorithm) in
    let all : length c.args.digests.now % len ≡ 0 = rw c.digest_len-len.ensures c.requires.whole in
    let next = run-more c.loop-taken.taken len some inv.whole in
    let none = (c.take_digest-closes.ensures.none_closes c.if-closes.false).0 in
    record {
      most = (run-room c.loop-taken.taken len (length c.args.digests.now) inv.whole c.loop-taken-test.true all).1;
      whole = next.1;
      fed = omega (arith, inv.fed, c.take_digest-closes.ensures.fed, next.0);
      closed = omega (arith, none);
      none_closes = λ _. none;
      done = λ _. (c.take_digest-closes.ensures.none_closes c.if-closes.false).1;
      stands = λ blocks many h digests.
          let came = comes at blocks many h digests in
          rw c.take_digest-closes.ensures.fed (JoinsSoFar-more c.args.own.now.settings blocks _ _ _ _ _ _ _ _
          (fan-some c.args.own.now.settings) came.0 (so-far at blocks many h digests) (rw none at came.1));
    }

pub returns-then-not-closes_above-clause-done : goal.returns-then-not-closes_above-clause-done
returns-then-not-closes_above-clause-done c = λ _ all.
    let own = c.args.own.now in
    elim (cases_lt 0 c.args.progress.now.closed) [
      | inl some ↦
          omega (
            arith,
            c.requires.within,
            c.closes_above.ensures.last c.if-not-closes_above.true all
                (omega (arith, all, blocks-some own c.requires.planned), some),
          )
      | inr none ↦
          let first : c.args.progress.now.closed ≡ 0 = omega (arith, none) in
          omega (arith, first, c.requires.some_closed all first)
    ]

-- at the end digests were taken
some-taken : (c : After-loop-taken) → 0 < length c.args.digests.now
some-taken c =
    elim c.else-is_empty.branch [
      | else-is_empty-via-then-is_empty+else-not-closes_above w ↦
          let open_still = c.close_above.ensures.none_closes c.if-close_above.false
          (w.closes_above.ensures.some w.if-not-closes_above.false) in
          absurd (elim (w.closes_above.ensures.closes w.if-not-closes_above.false) [
            | inl all ↦ open_still.0 all
            | inr full ↦ omega (arith, open_still.1, full)
          ])
      | else-is_empty-via-else-is_empty w ↦ grind (arith, nat_tests, w.if-is_empty.ensures)
    ]

pub returns-clause-done : goal.returns-clause-done
returns-clause-done c = λ _ all.
    let inv = c.loop-taken.invariant in
    let some = some-taken (goal.at.returns-clause-done c).After-loop-taken in
    let taken : 0 < c.loop-taken.taken = omega (arith, inv.most, c.loop-taken-test.false, some) in
    omega (arith, inv.none_closes taken, inv.done taken all)

pub returns-clause-stands : goal.returns-clause-stands
returns-clause-stands c = λ blocks many h digests.
    let inv = c.loop-taken.invariant in
    let some = some-taken (goal.at.returns-clause-stands c).After-loop-taken in
    let quotient = (run-room 0 c.digest_len-len.result (length c.args.digests.now) (simp (zero-div, zero-mul)) some
    (rw c.digest_len-len.ensures c.requires.whole)).0 in
    let taken : c.loop-taken.taken ≡ length c.args.digests.now = omega (arith, inv.most, c.loop-taken-test.false) in
    let later : c.args.progress.now.fed < c.loop-taken.progress.fed =
    omega (arith, inv.fed, quotient, ap (λ (n : ℕ). n / c.digest_len-len.result) taken) in
    rw (inv.none_closes (omega (arith, taken, some))) (JoinsOn-none c.args.own.now.settings blocks _ _ _ _ _ _ later
    (inv.stands blocks many h digests))
