-- The digest of the block that is left is the root hash.
use Rattle.{std.proofs.Common.{length, arith, refl, ◌∙◌, ap}, verity_blocks.proofs.OpenBlocks.OpenBlock.{hash-by, length-hash}}
use Rattle.verity_builders.proofs.Joins.JoinMemory.{root-of_part, root-of_top}
use Rattle.verity_builders.proofs.join_builder.JoinBuilder.end.Goals as goal

pub returns-clause-size : goal.returns-clause-size
returns-clause-size c =
    ap length (hash-by _ _ _ _ c.settings.ensures c.hash.ensures) ∙ length-hash c.args.self.now.plan.settings _

pub returns-then-levels-eq0-clause-root : goal.returns-then-levels-eq0-clause-root
returns-then-levels-eq0-clause-root c = λ bytes h.
    let b = c.args.self.now in
    let left = c.in-Some.ensures.left in
    c.digest_in.ensures
    ∙ root-of_part b _ c.args.memory.now bytes c.levels_left.ensures.planned (omega (arith, left.0))
    (omega (arith, left.1, c.if-levels-eq0.true)) (rw (left.1, c.hash_block-size.ensures) refl)
    (omega (arith, c.if-self-parts.false, c.if-self-parts-2.false, c.count_under-parts.ensures)) h

pub returns-clause-root : goal.returns-clause-root
returns-clause-root c = λ bytes h.
    let b = c.args.self.now in
    let left = c.in-Some.ensures.left in
    hash-by _ _ _ _ c.settings.ensures c.hash.ensures
    ∙ root-of_top b c.in-Some.levels c.hash_block-size.result c.args.memory.now bytes c.levels_left.ensures.planned
    (omega (arith, left.0)) (omega (arith, c.if-levels-eq0.false)) left.1 c.hash_block-size.ensures
    (omega (arith, c.if-self-levels.false))
    (omega (arith, c.if-self-parts.false, c.if-self-parts-2.false, c.count_under-parts.ensures)) h
