-- A hash block closes, or bytes are taken.
use Rattle.{std.proofs.{Common.{◌≡◌, ◌+◌, ◌*◌, ◌/◌, length, take, arith, refl, sym}, lemmas.List.length-take-le}, verity_plan.specs.Settings.fan}
use Rattle.verity_blocks.{proofs.ClosingSteps.Advancing.{FeedsOn-climbs, FeedsOn-takes}, specs.ClosingOrder.{closed_after, blocks_before}}
use Rattle.verity_blocks.specs.Windows.{window_blocks, window_length}
use Rattle.verity_builders.proofs.feeding.steps.advance.Goals as goal

pub returns-then-close_next-clause-stands : goal.returns-then-close_next-clause-stands
returns-then-close_next-clause-stands c = λ levels fed enough room count h.
    FeedsOn-climbs c.args.plan.now levels c.args.progress.now.closed c.close_next.new.progress.closed fed
    c.close_next.new.opened c.close_next.new.window (c.if-close_next.ensures.closed refl).0
    (c.if-close_next.ensures.stands levels fed enough room count h)

pub returns-clause-stands : goal.returns-clause-stands
returns-clause-stands c = λ levels fed enough room count h.
    let p = c.args.plan.now in
    let size = window_length p.settings in
    let n = length fed in
    let step = c.take_bytes-taken in
    let taken = step.result in
    let before = c.if-close_next.ensures.stands levels fed enough room count h in
    let same : c.close_next.new.progress.fed ≡ n = omega (arith, count, c.close_next.ensures.fed) in
    let none : closed_after (fan p.settings) p.blocks (blocks_before p.settings (n + taken))
    ≡ closed_after (fan p.settings) p.blocks (n / size * window_blocks p.settings) = rw same at step.ensures.none_closes in
    FeedsOn-takes p levels c.args.progress.now.closed taken fed (take taken c.args.piece.now) c.close_next.new.opened
    c.close_next.new.window c.close_next.new.opened step.new.window
    (length-take-le taken c.args.piece.now step.ensures.takes.1) step.ensures.takes.0 before none
    (step.ensures.fed levels fed c.close_next.new.opened (sym same) before.settled)
