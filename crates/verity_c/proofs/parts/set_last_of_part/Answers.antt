use Rattle.{verity_c_api.proofs.AnswerLemmas.{match-said, says-of}, verity_c.proofs.PartLemmas.IsFedPartTo-at}
use Rattle.verity_c.proofs.parts.set_last_of_part.Goals as goal

pub returns-clause-block : goal.returns-clause-block
returns-clause-block c = λ memory bytes h _.
    let made = c.in-Ok.ensures.planned in
    let says = c.builder_of.ensures in
    let fed = IsFedPartTo-at c.args.plan _ c.args.part.now _ memory bytes made says h in
    let both = match-said _ _ (says-of c.in-Ok.plan (record { taken = 0; hash_block = c.in-Ok-last_block.hash_block })
    c.fed_of.result c.fed_of.ensures.value c.fed_of.ensures.some)
    (rw says at (c.in-Ok-last_block.ensures.stands memory bytes fed)) in
    rw made (record { none = both.0; block = both.1 })
