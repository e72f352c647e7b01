use Rattle.verity_c_api.proofs.{AnswerLemmas.taken_is, BuildingLemmas.{HandsOut-by, IsFedTo-at, IsFedTo-of, TakesPiece-by}}
use Rattle.verity_c.proofs.tree_building.verity_build_feed.Goals as goal

pub returns-in-Ok-feed-clause-takes : goal.returns-in-Ok-feed-clause-takes
returns-in-Ok-feed-clause-takes c = λ _. rw c.in-Ok.ensures.planned
    (TakesPiece-by c.in-Ok.plan c.args.build.now c.feed.new.self _ c.in-Ok-feed.answer c.fed_of.result
    c.fed_of.ensures.value c.fed_of.ensures.some c.in-Ok-feed.ensures.takes)

pub returns-in-Ok-feed-clause-fed : goal.returns-in-Ok-feed-clause-fed
returns-in-Ok-feed-clause-fed c = λ bytes h _.
    let made = c.in-Ok.ensures.planned in
    let feeds = c.in-Ok-feed.ensures.fed bytes (IsFedTo-at c.args.params.now _ c.args.build.now _ bytes made h) in
    rw (taken_is c.in-Ok.plan c.in-Ok-feed.answer c.fed_of.result c.fed_of.ensures.value c.fed_of.ensures.some)
    (IsFedTo-of c.args.params.now c.in-Ok.plan c.feed.new.self c.feed.new.memory _ made c.in-Ok-feed.ensures.plan
    feeds.is_fed)

pub returns-in-Ok-feed-clause-block : goal.returns-in-Ok-feed-clause-block
returns-in-Ok-feed-clause-block c = λ bytes h _.
    let made = c.in-Ok.ensures.planned in
    let feeds = c.in-Ok-feed.ensures.fed bytes (IsFedTo-at c.args.params.now _ c.args.build.now _ bytes made h) in
    rw made (HandsOut-by c.in-Ok.plan c.args.build.now c.feed.new.self bytes _ _ c.in-Ok-feed.answer c.fed_of.result
    c.fed_of.ensures.value c.fed_of.ensures.some (rw (← taken_is c.in-Ok.plan c.in-Ok-feed.answer c.fed_of.result
    c.fed_of.ensures.value c.fed_of.ensures.some) at feeds))
