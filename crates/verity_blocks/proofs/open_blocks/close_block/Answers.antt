use Rattle.{std.proofs.Common.{length, ap, ◌∙◌}, verity_blocks.proofs.{ClosedLevel.IsCarrying-up, OpenBlocks.OpenBlock.{length-hash, hash-by}}}
use Rattle.verity_blocks.proofs.open_blocks.close_block.Goals as goal

pub returns-clause-size : goal.returns-clause-size
returns-clause-size c = ap length (hash-by _ _ _ _ c.settings.ensures c.hash-digest.ensures) ∙ length-hash c.args.plan.now.settings _

pub returns-clause-closes : goal.returns-clause-closes
returns-clause-closes c = λ blocks i levels inside room h.
    IsCarrying-up c.args.plan.now.settings blocks i c.args.level levels c.hash_block-size.result c.args.opened.now
    c.fill.new.self c.hash-digest.result c.hash_block-size.ensures c.requires.room (c.fill.ensures.after (λ y e. e))
    (hash-by _ _ _ _ c.settings.ensures c.hash-digest.ensures) h
