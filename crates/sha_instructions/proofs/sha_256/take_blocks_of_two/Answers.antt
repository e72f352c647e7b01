use Rattle.std.proofs.Common.{◌≡◌, ap, ◌∙◌, arith}
use Rattle.sha_instructions.{specs.Sha256Vectors.{first_half, second_half}, proofs.Rounds256.{hash_start, vectors_more, length-hash_after}}
use Rattle.sha2.specs.Sha256 as S256
use Rattle.sha_instructions.proofs.sha_256.take_blocks_of_two.Goals as goal

pub loop-k-init : goal.loop-k-init
loop-k-init c =
    let start1 = hash_start c.args.state1.now c.args.blocks1.now in
    let start2 = hash_start c.args.state2.now c.args.blocks2.now in
    record {
      of_first = (c.pack-h1.ensures.0 ∙ ap (first_half c.is_for_arm-for_arm.result) start1, c.pack-h1.ensures.1 ∙ ap (second_half c.is_for_arm-for_arm.result) start1);
      of_second = (c.pack-h2.ensures.0 ∙ ap (first_half c.is_for_arm-for_arm.result) start2, c.pack-h2.ensures.1 ∙ ap (second_half c.is_for_arm-for_arm.result) start2);
    }

pub loop-k-preserved : goal.loop-k-preserved
loop-k-preserved c =
    let has1 = c.compress_two.ensures.of_first _ c.loop-k.invariant.of_first in
    let has2 = c.compress_two.ensures.of_second _ c.loop-k.invariant.of_second in
    record {
      of_first = (
        vectors_more (first_half c.is_for_arm-for_arm.result) c.args.state1.now c.args.blocks1.now c.loop-k.k has1.0,
        vectors_more (second_half c.is_for_arm-for_arm.result) c.args.state1.now c.args.blocks1.now c.loop-k.k has1.1,
      );
      of_second = (
        vectors_more (first_half c.is_for_arm-for_arm.result) c.args.state2.now c.args.blocks2.now c.loop-k.k has2.0,
        vectors_more (second_half c.is_for_arm-for_arm.result) c.args.state2.now c.args.blocks2.now c.loop-k.k has2.1,
      );
    }

pub returns-clause-of_first : goal.returns-clause-of_first
returns-clause-of_first c =
    let end : c.loop-k.k ≡ c.args.count = omega arith in
    c.unpack.ensures _ (length-hash_after c.args.state1.now c.args.blocks1.now c.loop-k.k c.told-state1) c.loop-k.invariant.of_first
    ∙ ap (S256.hash_after c.args.state1.now c.args.blocks1.now) end

pub returns-clause-of_second : goal.returns-clause-of_second
returns-clause-of_second c =
    let end : c.loop-k.k ≡ c.args.count = omega arith in
    c.unpack-2.ensures _ (length-hash_after c.args.state2.now c.args.blocks2.now c.loop-k.k c.told-state2) c.loop-k.invariant.of_second
    ∙ ap (S256.hash_after c.args.state2.now c.args.blocks2.now) end
