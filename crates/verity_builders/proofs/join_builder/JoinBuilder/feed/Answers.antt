use Rattle.{std.proofs.Common.{List, take, ap, arith, refl, sym, ℕ, ◌*◌, ◌+◌, ◌-◌, ◌∙◌, ◌≡◌, ◌≤◌}, verity_plan.specs.PlanCounts.level_count_of}
use Rattle.verity_builders.specs.{Parts.{AreDigests, IsJoined, blocks_under}, Steps.Parts.{HasDigests, JoinStands}}
use Rattle.verity_builders.proofs.Joins.{JoinMemory.{HasDigests-parts, HasJoinedOn, IsJoined-parted, Joins-none, Joins-some}, PlanOfJoin.length-under}
use Rattle.{verity_builders.proofs.join_builder.JoinBuilder.feed.Goals.After-join_until_closed-taken, verity_plan.specs.Plans.PlanFields}
use Rattle.verity_builders.proofs.join_builder.JoinBuilder.feed.Goals as goal

-- the digests stand in the memory's two parts after the step
joined-on : (c : After-join_until_closed-taken) → (bytes : List ℕ) → IsJoined c.args.self.now c.args.memory.now bytes
    → AreDigests c.args.self.now.plan c.args.self.now.level c.args.self.now.taken
    (take c.join_until_closed-taken.result.0 c.args.digests.now) bytes
    → HasJoinedOn c.args.self.now c.join_until_closed-taken.new.progress.fed
    c.join_until_closed-taken.new.progress.closed bytes
    c.join_until_closed-taken.result.1 c.join_until_closed-taken.new.opened c.join_until_closed-taken.new.last
joined-on c bytes h digests =
    let b = c.args.self.now in
    let p = b.plan in
    let own = c.joining_plan-own.ensures in
    let step = c.join_until_closed-taken in
    let many = length-under p b.level bytes in
    let left = c.in-Some.ensures.left in
    let all : c.in-Some.levels * c.hash_block.result ≡ (level_count_of p - b.level) * p.settings.hash_block =
    rw (left.1, c.hash_block.ensures) refl in
    let room = c.split_at_mut-opened.ensures.front_len ∙ all in
    let before : JoinStands c.joining_plan-own.result.settings (blocks_under p b.level bytes)
    (level_count_of c.joining_plan-own.result) b.taken b.closed c.split_at_mut-opened.result.0.now
    c.split_at_mut-opened.result.1.now =
    rw (own.levels, own.plan) (IsJoined-parted b _ c.args.memory.now _ _ bytes all c.split_at_mut-opened.ensures.front
    c.split_at_mut-opened.ensures.back h) in
    let taken = take step.result.0 c.args.digests.now in
    let came : HasDigests c.joining_plan-own.result.settings (blocks_under p b.level bytes) b.taken taken =
    rw own.plan (HasDigests-parts p b.level b.taken taken bytes digests) in
    record {
      planned = c.levels_left.ensures.planned;
      level_most = omega (arith, left.0);
      taken_most = omega (arith, h.taken_most, many);
      size = step.auto.opened ∙ room;
      on = rw (own.levels, own.plan) at (step.ensures.stands (blocks_under p b.level bytes)
          (many ∙ sym (ap (λ (q : PlanFields). q.blocks) own.plan)) before came);
    }

pub returns-then-closes-clause-joins : goal.returns-then-closes-clause-joins
returns-then-closes-clause-joins c = λ bytes h digests.
    let step = c.join_until_closed-taken in
    let some = (step.ensures.closes c.if-closes.true).0 in
    let most : c.args.self.now.level + step.new.progress.closed ≤ level_count_of c.args.self.now.plan =
    omega (arith, step.ensures.closed, c.joining_plan-own.ensures.levels, c.in-Some.ensures.left.0) in
    Joins-some c.args.self.now _ _ bytes _ _ c.joined.result
    (rw c.if-closes.true at (joined-on (goal.at.returns-then-closes-clause-joins c).After-join_until_closed-taken bytes
    h digests))
    some (record {
      level_is = c.joined.ensures.level;
      level_least = omega (arith, c.joined.ensures.level, some);
      level_below = omega (arith, c.joined.ensures.level, most);
      index_is = c.joined.ensures.index;
      start_is = c.joined.ensures.start;
      at_is = c.joined.ensures.at;
    })

pub returns-else-closes-clause-joins : goal.returns-else-closes-clause-joins
returns-else-closes-clause-joins c = λ bytes h digests.
    Joins-none c.args.self.now _ _ bytes _ _
    (rw c.if-closes.false at (joined-on (goal.at.returns-else-closes-clause-joins c).After-join_until_closed-taken
    bytes h digests))
