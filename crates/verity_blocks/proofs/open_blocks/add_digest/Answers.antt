use Rattle.{std.proofs.{Common.{◌≡◌, ◌<◌, length, arith, ap, ◌∙◌, inl, inr}, lemmas.Bool.Decides.nat_tests}, verity_plan.specs.Settings.slot_width}
use Rattle.verity_blocks.proofs.{ClosedLevel.Adds-put, OpenBlocks.DigestsInTurn.slot-room}
use Rattle.verity_blocks.proofs.open_blocks.add_digest.Goals as goal

pub put_digest-requires : goal.put_digest-requires
put_digest-requires c =
    slot-room c.args.plan.now.settings c.index_above.result c.fan-fan.result c.slot_width.result (length c.args.digest.now)
    c.args.level c.hash_block-size.result c.args.opened.now c.fan-fan.ensures.value
    (c.slot_width.ensures.value ∙ ap slot_width c.settings.ensures) c.hash_block-size.ensures c.requires.size
    c.fan-fan.ensures.fits c.requires.room

pub returns-then-slot-fan-clause-adds : goal.returns-then-slot-fan-clause-adds
returns-then-slot-fan-clause-adds c = λ blocks levels many inside room h.
    let all = c.if-slot-fan.true in
    Adds-put c.args.plan.now.settings blocks c.args.i c.args.level levels c.index_above.result c.fan-fan.result
    c.slot_width.result c.hash_block-size.result _ c.args.opened.now c.put_digest.new.block c.args.digest.now
    c.fan-fan.ensures.value (c.slot_width.ensures.value ∙ ap slot_width c.settings.ensures) c.hash_block-size.ensures
    c.fan-fan.ensures.fits (omega (arith, c.requires.below, many)) inside c.requires.room c.index_above.ensures
    c.put_digest.auto.block c.put_digest.ensures (λ _. inl all) (λ no. absurd (grind (arith, nat_tests, all, no))) h

pub returns-else-slot-fan-clause-adds : goal.returns-else-slot-fan-clause-adds
returns-else-slot-fan-clause-adds c = λ blocks levels many inside room h.
    let below : c.args.i < length blocks = omega (arith, c.requires.below, many) in
    let count : c.blocks-blocks.result ≡ length blocks = c.blocks-blocks.ensures.value ∙ many in
    Adds-put c.args.plan.now.settings blocks c.args.i c.args.level levels c.index_above.result c.fan-fan.result
    c.slot_width.result c.hash_block-size.result _ c.args.opened.now c.put_digest.new.block c.args.digest.now
    c.fan-fan.ensures.value (c.slot_width.ensures.value ∙ ap slot_width c.settings.ensures) c.hash_block-size.ensures
    c.fan-fan.ensures.fits below inside c.requires.room c.index_above.ensures c.put_digest.auto.block
    c.put_digest.ensures (λ yes. inr (grind (arith, nat_tests, yes, count)))
    (λ no. (c.if-slot-fan.false, grind (arith, nat_tests, no, count, below))) h
