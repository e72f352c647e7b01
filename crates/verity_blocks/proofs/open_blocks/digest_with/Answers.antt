use Rattle.{std.proofs.Common.{length, arith, ap, ◌∙◌}, verity_plan.specs.Settings.slot_width}
use Rattle.verity_blocks.proofs.{ClosedLevel.{IsAsking-up, cleared-is}, OpenBlocks.{OpenBlock.{hash-by, length-hash}, DigestsInTurn.slot-room}}
use Rattle.verity_blocks.proofs.open_blocks.digest_with.Goals as goal

pub put_digest-requires : goal.put_digest-requires
put_digest-requires c =
    slot-room c.args.plan.now.settings c.index_above.result c.fan-fan.result c.slot_width-width.result
    (length c.args.digest.now) c.args.level c.hash_block-size.result c.args.opened.now c.fan-fan.ensures.value
    (c.slot_width-width.ensures.value ∙ ap slot_width c.settings.ensures) c.hash_block-size.ensures c.requires.size
    c.fan-fan.ensures.fits c.requires.room

pub returns-clause-size : goal.returns-clause-size
returns-clause-size c =
    ap length (hash-by _ _ _ _ c.settings-2.ensures c.hash-above.ensures) ∙ length-hash c.args.plan.now.settings _

pub returns-clause-asks : goal.returns-clause-asks
returns-clause-asks c = λ blocks levels many inside room h.
    IsAsking-up c.args.plan.now.settings blocks c.args.first c.args.last c.args.level levels c.index_above.result
    c.index_above-2.result c.fan-fan.result c.slot_width-width.result c.hash_block-size.result c.args.opened.now
    c.put_digest.new.block _ c.args.digest.now c.hash-above.result c.fan-fan.ensures.value
    (c.slot_width-width.ensures.value ∙ ap slot_width c.settings.ensures) c.hash_block-size.ensures c.fan-fan.ensures.fits
    (c.requires.last ∙ many) c.requires.order c.requires.beside inside c.requires.room c.index_above.ensures
    c.index_above-2.ensures c.put_digest.ensures (hash-by _ _ _ _ c.settings-2.ensures c.hash-above.ensures)
    (cleared-is _ _ c.put_digest.new.block c.fill.new.self c.put_digest.auto.block (c.fill.ensures.after (λ y e. e)))
    (omega arith) h
