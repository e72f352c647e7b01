use Rattle.{std.proofs.Common.{List, ap, arith, length, sym, ◌∙◌, ◌≡◌, ℕ}, verity_builders.proofs.join_builder.take_digest.Goals.After-add_digest}
use Rattle.verity_plan.{proofs.{PlanLemmas.blocks_few, FanLemmas.fan-two}, specs.{Plans.level_count, PlanCounts.level_count_of, Settings.fan}}
use Rattle.verity_blocks.{specs.Steps.OpenBlocks.{Adds, HasOpenBlocks, level_digest}, proofs.OpenBlocks.DigestsInTurn.IsCarrying-first}
use Rattle.verity_builders.proofs.Joins.JoinDigests.{JoinStands-alone, JoinStands-full, JoinStands-room}
use Rattle.verity_builders.proofs.join_builder.take_digest.Goals as goal

pub overflow_add-progress : goal.overflow_add-progress
overflow_add-progress c = omega (arith, c.requires.below, blocks_few c.args.own.now c.requires.planned)

-- what becomes of the open blocks
added : (c : After-add_digest) → (blocks : List (List ℕ)) → length blocks ≡ c.args.own.now.blocks
    → HasOpenBlocks c.args.own.now.settings blocks 0 (level_count_of c.args.own.now) c.args.progress.now.fed
    c.args.opened.now
    → c.args.digest.now ≡ level_digest c.args.own.now.settings blocks c.args.progress.now.fed 0
    → Adds c.add_digest.result c.args.own.now.settings blocks c.args.progress.now.fed 0 (level_count_of c.args.own.now)
    c.add_digest.new.opened
added c blocks many stands is =
    let own = c.args.own.now in
    c.add_digest.ensures.adds blocks (level_count_of own) (sym many)
    (omega (arith, c.if-levels-gt0.true, c.levels.ensures))
    c.requires.open_room
    (IsCarrying-first own.settings blocks c.args.progress.now.fed (level_count_of own) c.args.opened.now _
    (c.digest_in-digest.ensures ∙ is) stands)

pub returns-then-add_digest-clause-stands : goal.returns-then-add_digest-clause-stands
returns-then-add_digest-clause-stands c = λ blocks many stands is.
    let at = (goal.at.returns-then-add_digest-clause-stands c).After-add_digest in
    JoinStands-full c.args.own.now.settings blocks _ _ _ _ (omega (arith, c.if-levels-gt0.true, c.levels.ensures))
    (omega (arith, c.requires.below, many)) (rw c.if-add_digest.true at (added at blocks many stands is))
    (c.copy_from_slice.ensures.after ∙ is)

pub returns-else-add_digest-clause-stands : goal.returns-else-add_digest-clause-stands
returns-else-add_digest-clause-stands c = λ blocks many stands is.
    let at = (goal.at.returns-else-add_digest-clause-stands c).After-add_digest in
    JoinStands-room c.args.own.now.settings blocks _ _ _ _ (c.add_digest.ensures.room c.if-add_digest.false)
    (rw c.if-add_digest.false at (added at blocks many stands is)) (c.copy_from_slice.ensures.after ∙ is)

pub returns-else-levels-gt0-clause-stands : goal.returns-else-levels-gt0-clause-stands
returns-else-levels-gt0-clause-stands c = λ blocks many stands is.
    let own = c.args.own.now in
    JoinStands-alone own.settings blocks _ _ _ _ (fan-two own.settings c.requires.planned.valid)
    (ap (level_count (fan own.settings)) (sym many)) (omega (arith, c.if-levels-gt0.false, c.levels.ensures))
    (omega (arith, c.requires.below, many)) (c.copy_from_slice.ensures.after ∙ is)
