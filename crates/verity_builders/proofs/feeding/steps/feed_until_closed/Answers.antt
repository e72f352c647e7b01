-- Bytes are taken until a hash block closes, and with the last byte of all one closes without bytes.
use Rattle.{std.proofs.Common.{◌≡◌, ◌++◌, arith, length, take}, verity_blocks.proofs.ClosingSteps.Advancing.{FeedsOn-last, length-fed}}
use Rattle.verity_builders.proofs.feeding.steps.feed_until_closed.Goals as goal

pub returns-clause-stands : goal.returns-clause-stands
returns-clause-stands c = λ levels fed enough room many h.
    let piece = c.args.piece.now in
    let step = c.feed_before_end-taken in
    let taken = step.result.0 in
    let first = rw c.if-closes.false at (step.ensures.stands levels fed enough room many h) in
    let all : length (fed ++ take taken piece) ≡ step.new.progress.fed =
    length-fed fed piece c.args.progress.now.fed taken step.new.progress.fed many step.ensures.most step.ensures.fed in
    FeedsOn-last c.args.plan.now levels c.args.progress.now.closed step.new.progress.closed _ fed (take taken piece)
    step.new.opened step.new.window _ _ _
    (λ none. absurd (omega (
      arith,
      c.close_next-last_closes.ensures.more none,
      c.if-progress-wanted.false,
      c.wanted.ensures.value,
    )))
    (λ one. (c.close_next-last_closes.ensures.closed one).0) first
    (c.close_next-last_closes.ensures.stands levels (fed ++ take taken piece) enough (omega (arith, room, step.auto.opened)) all
    first.stands)
