-- Bytes are taken until a hash block closes.
use Rattle.std.proofs.{Common.{◌≡◌, ◌++◌, false, eqb, length, take, arith}, lemmas.Bool.Decides.nat_tests}
use Rattle.verity_blocks.proofs.ClosingSteps.Advancing.{FeedsOn-more, length-fed, take-of_rest}
use Rattle.verity_builders.proofs.feeding.steps.feed_before_end.Goals as goal

pub loop-taken-preserved : goal.loop-taken-preserved
loop-taken-preserved c =
    let inv = c.loop-taken.invariant in
    let piece = c.args.piece.now in
    let taken = c.loop-taken.taken in
    let count = c.advance-count.result in
    let some : eqb count 0 ≡ false = grind (arith, nat_tests, c.if-count-eq0.false) in
    record {
      most = omega arith;
      fed = omega arith;
      closed = omega (arith, c.advance-count.ensures.taken);
      early = λ _. omega (arith, c.advance-count.ensures.taken);
      first = λ none. absurd (omega (arith, none, c.if-count-eq0.false));
      none_closes = λ _. c.advance-count.ensures.taken (omega (arith, c.if-count-eq0.false));
      stands = λ levels fed enough room many h.
          let before = inv.stands levels fed enough room many h in
          let all : length (fed ++ take taken piece) ≡ c.loop-taken.progress.fed =
          length-fed fed piece c.args.progress.now.fed taken c.loop-taken.progress.fed many inv.most inv.fed in
          let next = rw some at (c.advance-count.ensures.stands levels (fed ++ take taken piece) enough
          (omega (arith, room, c.loop-taken.auto.opened)) all before.stands) in
          rw (← take-of_rest taken count piece) (FeedsOn-more _ _ _ _ _ _ _ _ _ _ _ _ _ before next);
    }

pub returns-then-count-eq0-clause-closes : goal.returns-then-count-eq0-clause-closes
returns-then-count-eq0-clause-closes c = λ _.
    let closed = c.advance-count.ensures.closed in (
      omega (arith, closed, c.if-count-eq0.true),
      omega (arith, closed, c.if-count-eq0.true, c.advance-count.ensures.fed),
      λ none. omega (arith, c.loop-taken.invariant.first none, closed, c.if-count-eq0.true),
    )
