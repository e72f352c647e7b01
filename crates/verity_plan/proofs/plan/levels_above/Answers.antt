use Rattle.verity_plan.proofs.{FanLemmas.exponent-is, CountLemmas.{div_ceil-below, div_ceil-half, div_ceil-pos, div_ceil-lt}}
use Rattle.{verity_plan.proofs.{PlaceLemmas.blocks_from-level, PlanLemmas.{count-more, levels-more, levels-all}}, std.specs.Int.div_ceil}
use Rattle.{verity_plan.specs.Plans.{level_count, blocks_from}, std.proofs.Common.{◌≡◌, ℕ, ◌+◌, ◌-◌, ◌/◌, ◌^◌, ◌<◌, arith, sym, ◌∙◌, ap}}
use Rattle.verity_plan.proofs.plan.levels_above.Goals as goal

pub levels-preserved : goal.levels-preserved
levels-preserved c =
    let inv = c.levels.invariant in
    let some : 0 < c.args.fan = omega (arith, c.requires.two) in
    let more = levels-more c.args.fan c.args.blocks c.levels.tree.levels c.levels.count c.requires.two inv.count_is
    c.levels-test.true in
    let k = c.requires.power.0 in
    let log : c.ilog2-power.result ≡ k =
    exponent-is c.args.fan k c.ilog2-power.result c.requires.power.1 some c.ilog2-power.ensures.power_le
    c.ilog2-power.ensures.next_power_gt in
    let halved : (c.levels.count - 1) / 2 ^ c.ilog2-power.result + 1 ≡ div_ceil c.levels.count c.args.fan =
    ap (λ (m : ℕ). (c.levels.count - 1) / m + 1) (ap (λ (m : ℕ). 2 ^ m) log ∙ sym c.requires.power.1)
    ∙ div_ceil-below c.levels.count c.args.fan some inv.some in
    let next = halved
    ∙ count-more c.args.fan c.args.blocks c.levels.tree.levels c.levels.count some inv.count_is in
    record {
      count_is = next;
      some = omega (arith, halved, div_ceil-pos c.levels.count c.args.fan some inv.some);
      within = omega (arith, more);
      counted = omega (
        arith,
        inv.counted,
        next,
        blocks_from-level c.args.fan c.args.blocks c.levels.tree.levels (level_count c.args.fan c.args.blocks) more,
      );
      most = omega (
        arith,
        inv.most,
        halved,
        div_ceil-half c.levels.count c.args.fan c.requires.two c.levels-test.true,
      );
      few = omega (
        arith,
        inv.few,
        halved,
        div_ceil-lt c.levels.count c.args.fan c.requires.two c.levels-test.true,
      );
    }

pub returns-clause-levels : goal.returns-clause-levels
returns-clause-levels c =
    let inv = c.levels.invariant in
    omega (
      arith,
      inv.within,
      levels-all c.args.fan c.args.blocks c.levels.tree.levels c.levels.count c.requires.two
          inv.count_is (omega (arith, c.levels-test.false)),
    )

pub returns-clause-blocks : goal.returns-clause-blocks
returns-clause-blocks c =
    let inv = c.levels.invariant in
    let none : level_count c.args.fan c.args.blocks - c.levels.tree.levels ≡ 0 =
    omega (
      arith,
      inv.within,
      levels-all c.args.fan c.args.blocks c.levels.tree.levels c.levels.count c.requires.two
          inv.count_is (omega (arith, c.levels-test.false)),
    ) in
    omega (arith, inv.counted, ap (λ (k : ℕ). blocks_from c.args.fan c.args.blocks c.levels.tree.levels k) none)
