-- Each level up is shorter and has the same root; a single digest is the root.
use Rattle.std.proofs.{Common.{◌≡◌, ◌<◌, ◌≤◌, length, arith, sym, ◌∙◌, ap}, lemmas.List.get_or_read}
use Rattle.{verity_plan.{specs.Settings.fan, proofs.CountLemmas.{div_ceil-pos, div_ceil-lt}}, verity_blocks.specs.Steps.PlainRoots.root_of_digests}
use Rattle.verity_pass.proofs.RootLevels.{length-above, root_of_digests-up, root_of_digests-one}
use Rattle.verity_pass.proofs.plain_root.root_of_digests.Goals as goal

pub levels-preserved : goal.levels-preserved
levels-preserved c =
    let settings = c.args.settings.now in
    let two : 2 ≤ fan settings = omega (arith, c.fan-fan.ensures.two, c.fan-fan.ensures.value) in
    let digests = c.levels.level.items in
    let more : 1 < length digests = grind arith in
    let above = rw c.deref.ensures.value at c.in_ok-level.ensures in
    record {
      some = grind (arith, length-above settings digests c.in_ok-level.level.items above, div_ceil-pos);
      same = ap (root_of_digests settings) above ∙ root_of_digests-up settings digests two more ∙ c.levels.invariant.same;
    }

pub levels-smaller : goal.levels-smaller
levels-smaller c =
    let settings = c.args.settings.now in
    let two : 2 ≤ fan settings = omega (arith, c.fan-fan.ensures.two, c.fan-fan.ensures.value) in
    let digests = c.levels.level.items in
    let above = rw c.deref.ensures.value at c.in_ok-level.ensures in
    grind (arith, length-above settings digests c.in_ok-level.level.items above, div_ceil-lt)

pub returns : goal.returns
returns c =
    let settings = c.args.settings.now in
    let two : 2 ≤ fan settings = omega (arith, c.fan-fan.ensures.two, c.fan-fan.ensures.value) in
    let one : length c.levels.level.items ≡ 1 = grind arith in
    get_or_read c.levels.level.items 0 c.index.result.now (omega (arith, one)) c.index.ensures _
    ∙ sym (root_of_digests-one settings c.levels.level.items two one)
    ∙ c.levels.invariant.same
