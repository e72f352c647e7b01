use Rattle.{std.proofs.Common.{◌≡◌, length, arith, ap, ◌∙◌, rules}, verity_plan.specs.Settings.{hash, slot_width}}
use Rattle.verity_blocks.proofs.{ClosedLevel.{IsAsking-up, block-with_last, cleared-is}, OpenBlocks.DigestsInTurn.slot-room}
use Rattle.verity_blocks.proofs.open_blocks.block_with.Goals.{After-fill}
use Rattle.verity_blocks.proofs.open_blocks.block_with.Goals as goal

pub put_digest-requires : goal.put_digest-requires
put_digest-requires c =
    slot-room c.args.plan.now.settings c.index_above.result c.fan-fan.result c.slot_width-width.result
    (length c.args.digest.now) c.args.level c.hash_block-size.result c.args.opened.now c.fan-fan.ensures.value
    (c.slot_width-width.ensures.value ∙ ap slot_width c.settings.ensures) c.hash_block-size.ensures c.requires.size
    c.fan-fan.ensures.fits c.requires.room

-- what was copied is the open block with the digest in its slot
copied : (c : After-fill) → c.copy_from_slice.new.self ≡ c.put_digest.new.block
copied c = search rules

pub returns-clause-block : goal.returns-clause-block
returns-clause-block c = λ blocks levels many inside room h.
    copied (goal.at.returns-clause-block c).After-fill
    ∙ block-with_last c.args.plan.now.settings blocks c.args.last c.args.level levels c.index_above.result c.fan-fan.result
    c.slot_width-width.result c.hash_block-size.result c.args.opened.now c.put_digest.new.block c.args.digest.now
    c.fan-fan.ensures.value (c.slot_width-width.ensures.value ∙ ap slot_width c.settings.ensures) c.hash_block-size.ensures
    c.fan-fan.ensures.fits (c.requires.last ∙ many) inside c.index_above.ensures h.above h.digest_is
    c.put_digest.ensures

pub returns-clause-asks : goal.returns-clause-asks
returns-clause-asks c = λ blocks levels many inside room h.
    IsAsking-up c.args.plan.now.settings blocks c.args.first c.args.last c.args.level levels c.index_above.result
    c.index_above-2.result c.fan-fan.result c.slot_width-width.result c.hash_block-size.result c.args.opened.now
    c.put_digest.new.block _ c.args.digest.now _ c.fan-fan.ensures.value
    (c.slot_width-width.ensures.value ∙ ap slot_width c.settings.ensures) c.hash_block-size.ensures c.fan-fan.ensures.fits
    (c.requires.last ∙ many) c.requires.order c.requires.beside inside c.requires.room c.index_above.ensures
    c.index_above-2.ensures c.put_digest.ensures
    (ap (hash c.args.plan.now.settings) (copied (goal.at.returns-clause-asks c).After-fill))
    (cleared-is _ _ c.put_digest.new.block c.fill.new.self c.put_digest.auto.block (c.fill.ensures.after (λ y e. e)))
    (omega arith) h
