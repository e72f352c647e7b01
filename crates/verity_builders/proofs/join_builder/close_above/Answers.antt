use Rattle.{std.proofs.Common.{ap, arith, sym, ◌<◌}, verity_builders.proofs.join_builder.close_above.Goals.then-level-eq0-via-then-level-eq0}
use Rattle.verity_plan.{specs.{Plans.level_count, PlanCounts.level_count_of, Settings.fan}, proofs.FanLemmas.{fan-some, fan-two}}
use Rattle.verity_builders.proofs.Joins.JoinDigests.{ClosesAbove-adds, ClosesAbove-none, ClosesAbove-past, JoinStands-closed}
use Rattle.verity_builders.proofs.join_builder.close_above.Goals.{then-level-eq0-via-else-level-eq0+then-level-levels}
use Rattle.verity_builders.proofs.join_builder.close_above.Goals.{then-level-eq0-via-else-level-eq0+else-level-levels+then-progress-eq0}
use Rattle.verity_builders.proofs.join_builder.close_above.Goals as goal

pub returns-then-level-eq0-clause-stands : goal.returns-then-level-eq0-clause-stands
returns-then-level-eq0-clause-stands c = λ blocks last many h more.
    let own = c.args.own.now in
    let s = own.settings in
    elim c.then-level-eq0.branch [
      | then-level-eq0-via-then-level-eq0 w ↦
          ClosesAbove-none s blocks _ _ _ _ last (fan-some s) w.if-level-eq0.true h more
      | then-level-eq0-via-else-level-eq0+then-level-levels w ↦
          absurd (ClosesAbove-past s blocks _ _ _ _ last (fan-two s c.requires.planned.valid)
          (ap (level_count (fan s)) (sym many))
          (omega (arith, w.if-level-eq0.false)) (omega (arith, w.if-level-levels.true, w.levels.ensures)) h more)
      | then-level-eq0-via-else-level-eq0+else-level-levels+then-progress-eq0 w ↦
          absurd (omega (arith, h.some (omega (arith, w.if-level-eq0.false)), w.if-progress-eq0.true))
    ]

pub returns-clause-stands : goal.returns-clause-stands
returns-clause-stands c = λ blocks last many h.
    let own = c.args.own.now in
    let s = own.settings in
    let levels = level_count_of own in
    let taken = c.args.progress.now.fed in
    let closed = c.args.progress.now.closed in
    let some : 0 < closed = omega (arith, c.if-level-eq0.false) in
    let low : closed < levels = omega (arith, c.if-level-levels.false, c.levels.ensures) in
    ClosesAbove-adds s blocks levels taken closed c.carry_up-closes.result c.args.opened.now c.carry_up-closes.new.opened
    last (ap (level_count (fan s)) (sym many)) some low h c.carry_up-closes.ensures.room
    (c.carry_up-closes.ensures.adds blocks levels (sym many) low c.requires.open_room
    (JoinStands-closed s blocks levels taken closed c.args.opened.now last some h))
