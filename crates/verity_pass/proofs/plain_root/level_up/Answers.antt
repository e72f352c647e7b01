-- Each run gives its digest, and the runs end where the digests do.
use Rattle.std.{proofs.Common.{◌≡◌, ℕ, map, arith, sym, ◌∙◌, ap, length}, specs.{List.range_with_len, Int.div_ceil}}
use Rattle.verity_plan.{proofs.CountLemmas.mul-lt_div_ceil, specs.Settings.fan}
use Rattle.verity_blocks.{specs.Steps.PlainRoots.digest_of_group, proofs.Levels.CutBlocks.{map-hash-pack, mapped_more, take-run}}
use Rattle.verity_pass.proofs.plain_root.level_up.Goals as goal

pub loop-j-preserved : goal.loop-j-preserved
loop-j-preserved c =
    let settings = c.args.settings.now in
    let run = take-run c.args.digests.now c.loop-j.j c.fan-fan.result c.min-count.result
    (fan settings) c.fan-fan.ensures.value c.min-count.ensures in
    mapped_more (digest_of_group settings c.args.digests.now) c.loop-j.above.items _ c.loop-j.j c.hash.result c.in_ok-push.ensures.items
    c.loop-j.invariant (grind (arith, run))

pub returns : goal.returns
returns c =
    let settings = c.args.settings.now in
    let count = div_ceil (length c.args.digests.now) (fan settings) in
    let last : c.loop-j.j ≡ count = grind arith in
    c.loop-j.invariant
    ∙ ap (λ (n : ℕ). map (digest_of_group settings c.args.digests.now) (range_with_len 0 n)) last
    ∙ sym (map-hash-pack settings c.args.digests.now)

pub overflow_mul-from : goal.overflow_mul-from
overflow_mul-from c = grind (arith, mul-lt_div_ceil)

pub overflow_sub-digests : goal.overflow_sub-digests
overflow_sub-digests c = grind (arith, mul-lt_div_ceil)

pub overflow_add-from : goal.overflow_add-from
overflow_add-from c = grind (arith, mul-lt_div_ceil)

pub slice_bounds-hash_block_of-end : goal.slice_bounds-hash_block_of-end
slice_bounds-hash_block_of-end c = grind (arith, mul-lt_div_ceil)
