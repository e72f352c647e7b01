use Rattle.std.{proofs.{Common.{arith, ap, suc, ◌≤◌, ◌<◌, ◌*◌, ◌^◌, ℕ}, Math.Nat.{pow-le-pow_right, pow-suc}}, specs.Int.div_ceil}
use Rattle.verity_plan.{specs.Settings.fan, proofs.{CountLemmas.le-div_ceil, FanLemmas.fan-some}}
use Rattle.verity_builders.proofs.part_builder.blocks_in_part_of.Goals as goal

pub returns-then-count-div_ceil : goal.returns-then-count-div_ceil
returns-then-count-div_ceil c =
    let p = c.args.plan.now in
    let f = fan p.settings in
    let below = c.loop-below.below in
    let some : 0 < f = fan-some p.settings in
    let few : div_ceil p.blocks f ≤ c.loop-below.count =
    omega (
      arith,
      c.if-count-div_ceil.true,
      c.div_ceil.ensures,
      ap (λ (n : ℕ). div_ceil n c.fan-fan.result) c.blocks-blocks.ensures.value,
      ap (div_ceil p.blocks) c.fan-fan.ensures.value,
    ) in
    let enough : p.blocks ≤ f ^ suc below =
    omega (
      arith,
      le-div_ceil p.blocks f c.loop-below.count some few,
      pow-suc f below,
      ap (λ (n : ℕ). n * f) c.loop-below.invariant.count_is,
    ) in
    let room : f ^ suc below ≤ f ^ c.args.level = pow-le-pow_right some (omega (arith, c.loop-below-test.true)) in
    omega (arith, c.blocks-blocks.ensures.value, enough, room)
