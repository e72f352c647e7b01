use Rattle.std.proofs.Common.{◌≡◌, ap, ◌∙◌, arith}
use Rattle.sha_instructions.{specs.Sha256Vectors.{first_half, second_half}, proofs.Rounds256.{hash_start, vectors_more, length-hash_after}}
use Rattle.sha2.specs.Sha256 as S256
use Rattle.sha_instructions.proofs.sha_256.take_blocks.Goals as goal

pub loop-k-init : goal.loop-k-init
loop-k-init c =
    let start = hash_start c.args.state.now c.args.blocks.now in
    (c.pack-h.ensures.0 ∙ ap (first_half c.is_for_arm-for_arm.result) start, c.pack-h.ensures.1 ∙ ap (second_half c.is_for_arm-for_arm.result) start)

pub loop-k-preserved : goal.loop-k-preserved
loop-k-preserved c =
    let has = c.compress-h.ensures _ c.loop-k.invariant in (
      vectors_more (first_half c.is_for_arm-for_arm.result) c.args.state.now c.args.blocks.now c.loop-k.k has.0,
      vectors_more (second_half c.is_for_arm-for_arm.result) c.args.state.now c.args.blocks.now c.loop-k.k has.1,
    )

pub returns : goal.returns
returns c =
    let end : c.loop-k.k ≡ c.args.count = omega arith in
    c.unpack.ensures _ (length-hash_after c.args.state.now c.args.blocks.now c.loop-k.k c.told-state) c.loop-k.invariant
    ∙ ap (S256.hash_after c.args.state.now c.args.blocks.now) end
