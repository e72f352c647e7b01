use Rattle.{std.proofs.Common.{ap, ◌∙◌}, verity_builders.specs.declared.join_builder.JoinBuilder.JoinBuilder}
use Rattle.verity_c_api.proofs.AnswerLemmas.{taken_is}
use Rattle.verity_c.proofs.JoinLemmas.{AreNextDigests-at, HandsOutOfJoin-by, IsJoinedTo-at, IsJoinedTo-of, TakesDigests-by}
use Rattle.verity_c.proofs.joins.feed_join.Goals as goal

pub returns-in-Ok-feed-clause-takes : goal.returns-in-Ok-feed-clause-takes
returns-in-Ok-feed-clause-takes c = λ _. rw c.in-Ok.ensures.planned
    (TakesDigests-by c.in-Ok.plan c.args.join.now c.builder_of-builder.result c.feed.new.self _ c.in-Ok-feed.answer
    c.fed_of.result c.builder_of-builder.ensures c.fed_of.ensures.value c.fed_of.ensures.some
    c.in-Ok-feed.ensures.takes)

pub returns-in-Ok-feed-clause-joined : goal.returns-in-Ok-feed-clause-joined
returns-in-Ok-feed-clause-joined c = λ bytes h next _.
    let made = c.in-Ok.ensures.planned in
    let says = c.builder_of-builder.ensures in
    let joins = c.in-Ok-feed.ensures.joins bytes (IsJoinedTo-at c.args.plan _ c.args.join.now _ _ bytes made says h)
    (AreNextDigests-at c.args.plan _ c.args.join.now _ _ bytes made says
    (rw (taken_is c.in-Ok.plan c.in-Ok-feed.answer c.fed_of.result c.fed_of.ensures.value c.fed_of.ensures.some)
    at next)) in
    IsJoinedTo-of c.args.plan c.in-Ok.plan c.feed.new.self c.feed.new.memory bytes made
    (c.in-Ok-feed.ensures.takes.plan_is ∙ ap (λ (b : JoinBuilder). b.plan) says) joins.is_joined

pub returns-in-Ok-feed-clause-block : goal.returns-in-Ok-feed-clause-block
returns-in-Ok-feed-clause-block c = λ bytes h next _.
    let made = c.in-Ok.ensures.planned in
    let says = c.builder_of-builder.ensures in
    let joins = c.in-Ok-feed.ensures.joins bytes (IsJoinedTo-at c.args.plan _ c.args.join.now _ _ bytes made says h)
    (AreNextDigests-at c.args.plan _ c.args.join.now _ _ bytes made says
    (rw (taken_is c.in-Ok.plan c.in-Ok-feed.answer c.fed_of.result c.fed_of.ensures.value c.fed_of.ensures.some)
    at next)) in
    rw made (HandsOutOfJoin-by c.in-Ok.plan c.args.join.now c.builder_of-builder.result c.feed.new.self bytes _
    c.in-Ok-feed.answer c.fed_of.result says c.fed_of.ensures.value c.fed_of.ensures.some joins)
