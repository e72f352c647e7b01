use Rattle.std.proofs.Common.{◌≡◌, ap, subst, ◌∙◌, arith}
use Rattle.sha_instructions.{specs.Sha1Vectors.{Keeps, hash_from}, proofs.Rounds1.{hash_start, hash_more, length-hash_from}}
use Rattle.sha_instructions.proofs.sha_1.take_blocks_of_two.Goals as goal

pub loop-k-init : goal.loop-k-init
loop-k-init c = record {
  of_first = subst (Keeps c.is_for_arm-for_arm.result c.pack-h1.result) (hash_start c.args.state1.now c.args.blocks1.now) c.pack-h1.ensures;
  of_second = subst (Keeps c.is_for_arm-for_arm.result c.pack-h2.result) (hash_start c.args.state2.now c.args.blocks2.now) c.pack-h2.ensures;
}

pub loop-k-preserved : goal.loop-k-preserved
loop-k-preserved c = record {
  of_first = subst (Keeps c.is_for_arm-for_arm.result c.compress_two.result.0) (hash_more c.args.state1.now c.args.blocks1.now c.loop-k.k)
      (c.compress_two.ensures.of_first _ c.loop-k.invariant.of_first);
  of_second = subst (Keeps c.is_for_arm-for_arm.result c.compress_two.result.1) (hash_more c.args.state2.now c.args.blocks2.now c.loop-k.k)
      (c.compress_two.ensures.of_second _ c.loop-k.invariant.of_second);
}

pub returns-clause-of_first : goal.returns-clause-of_first
returns-clause-of_first c =
    let end : c.loop-k.k ≡ c.args.count = omega arith in
    c.unpack.ensures _ (length-hash_from c.args.state1.now c.args.blocks1.now c.loop-k.k c.told-state1) c.loop-k.invariant.of_first
    ∙ ap (hash_from c.args.state1.now c.args.blocks1.now) end

pub returns-clause-of_second : goal.returns-clause-of_second
returns-clause-of_second c =
    let end : c.loop-k.k ≡ c.args.count = omega arith in
    c.unpack-2.ensures _ (length-hash_from c.args.state2.now c.args.blocks2.now c.loop-k.k c.told-state2) c.loop-k.invariant.of_second
    ∙ ap (hash_from c.args.state2.now c.args.blocks2.now) end
