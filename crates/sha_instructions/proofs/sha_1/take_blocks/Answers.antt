use Rattle.std.proofs.Common.{◌≡◌, ap, subst, ◌∙◌, arith}
use Rattle.sha_instructions.{specs.Sha1Vectors.{Keeps, hash_from}, proofs.Rounds1.{hash_start, hash_more, length-hash_from}}
use Rattle.sha_instructions.proofs.sha_1.take_blocks.Goals as goal

pub loop-k-init : goal.loop-k-init
loop-k-init c = subst (Keeps c.is_for_arm-for_arm.result c.pack-h.result) (hash_start c.args.state.now c.args.blocks.now) c.pack-h.ensures

pub loop-k-preserved : goal.loop-k-preserved
loop-k-preserved c =
    subst (Keeps c.is_for_arm-for_arm.result c.compress-h.result) (hash_more c.args.state.now c.args.blocks.now c.loop-k.k)
    (c.compress-h.ensures _ c.loop-k.invariant)

pub returns : goal.returns
returns c =
    let end : c.loop-k.k ≡ c.args.count = omega arith in
    c.unpack.ensures _ (length-hash_from c.args.state.now c.args.blocks.now c.loop-k.k c.told-state) c.loop-k.invariant
    ∙ ap (hash_from c.args.state.now c.args.blocks.now) end
