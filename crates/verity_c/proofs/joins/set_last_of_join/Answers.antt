use Rattle.{std.proofs.Common.{◌∙◌, sym}, verity_c_api.proofs.AnswerLemmas.{match-said, says-of}}
use Rattle.verity_c.proofs.JoinLemmas.{IsJoinedTo-at, last_of_join-at}
use Rattle.verity_c.proofs.joins.set_last_of_join.Goals as goal

pub returns-clause-block : goal.returns-clause-block
returns-clause-block c = λ memory bytes h _.
    let made = c.in-Ok.ensures.planned in
    let says = c.builder_of.ensures in
    let joined = IsJoinedTo-at c.args.plan _ c.args.join.now _ memory bytes made says h in
    let both = match-said _ _ (says-of c.in-Ok.plan (record { taken = 0; hash_block = c.in-Ok-last_block.hash_block })
    c.fed_of.result c.fed_of.ensures.value c.fed_of.ensures.some)
    (rw says at (c.in-Ok-last_block.ensures.stands memory bytes joined)) in
    rw made (record { none = both.0; block = both.1 })

pub returns-clause-fed : goal.returns-clause-fed
returns-clause-fed c =
    last_of_join-at c.args.plan c.in-Ok.plan c.args.join.now c.builder_of.result c.in-Ok-last_block.hash_block
    c.args.fed.now c.fed_of.result (sym c.plan_with_level.ensures.value ∙ c.in-Ok.is) c.builder_of.ensures
    c.fed_of.ensures.value c.in-Ok-last_block.ensures.fault c.in-Ok-last_block.ensures.placed
