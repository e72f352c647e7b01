use Rattle.{std.proofs.Common.{ap, ◌∙◌}, verity_builders.specs.declared.part_builder.PartBuilder.PartBuilder}
use Rattle.verity_c_api.proofs.AnswerLemmas.{taken_is}
use Rattle.verity_c.proofs.PartLemmas.{HandsOutOfPart-by, IsFedPartTo-at, IsFedPartTo-of, TakesPartPiece-by}
use Rattle.verity_c.proofs.parts.feed_part.Goals as goal

pub returns-in-Ok-feed-clause-takes : goal.returns-in-Ok-feed-clause-takes
returns-in-Ok-feed-clause-takes c = λ _. rw c.in-Ok.ensures.planned
    (TakesPartPiece-by c.in-Ok.plan c.args.part.now c.builder_of-builder.result c.feed.new.self _ c.in-Ok-feed.answer
    c.fed_of.result c.builder_of-builder.ensures c.fed_of.ensures.value c.fed_of.ensures.some
    c.in-Ok-feed.ensures.takes)

pub returns-in-Ok-feed-clause-fed : goal.returns-in-Ok-feed-clause-fed
returns-in-Ok-feed-clause-fed c = λ bytes h _.
    let made = c.in-Ok.ensures.planned in
    let says = c.builder_of-builder.ensures in
    let feeds = c.in-Ok-feed.ensures.fed bytes (IsFedPartTo-at c.args.plan _ c.args.part.now _ _ bytes made says h) in
    rw (taken_is c.in-Ok.plan c.in-Ok-feed.answer c.fed_of.result c.fed_of.ensures.value c.fed_of.ensures.some)
    (IsFedPartTo-of c.args.plan c.in-Ok.plan c.feed.new.self c.feed.new.memory _ made
    (c.in-Ok-feed.ensures.takes.plan_is ∙ ap (λ (b : PartBuilder). b.plan) says) feeds.is_fed)

pub returns-in-Ok-feed-clause-block : goal.returns-in-Ok-feed-clause-block
returns-in-Ok-feed-clause-block c = λ bytes h _.
    let made = c.in-Ok.ensures.planned in
    let says = c.builder_of-builder.ensures in
    let feeds = c.in-Ok-feed.ensures.fed bytes (IsFedPartTo-at c.args.plan _ c.args.part.now _ _ bytes made says h) in
    rw made (HandsOutOfPart-by c.in-Ok.plan c.args.part.now c.builder_of-builder.result c.feed.new.self bytes _ _
    c.in-Ok-feed.answer c.fed_of.result says c.fed_of.ensures.value c.fed_of.ensures.some (rw (← taken_is c.in-Ok.plan
    c.in-Ok-feed.answer c.fed_of.result c.fed_of.ensures.value c.fed_of.ensures.some) at feeds))
