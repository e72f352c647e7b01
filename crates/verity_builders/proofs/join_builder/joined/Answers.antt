use Rattle.std.{proofs.{Common.{arith, ℕ, ◌+◌, ◌-◌, ◌/◌, ◌<◌, ◌≡◌, ◌≤◌, ◌^◌, ap}, Math.Nat.{mul-le-mul, one-le-pow}}, specs.Int.div_ceil}
use Rattle.verity_plan.{specs.{Settings.fan, PlanCounts.count_under}, proofs.{FanLemmas.{fan-some, hash_most}, IndexLemmas.quotient-below}}
use Rattle.{verity_plan.proofs.PlanLemmas.levels_few, verity_builders.proofs.Joins.PlanOfJoin.size-above}
use Rattle.verity_builders.proofs.join_builder.joined.Goals as goal

pub overflow_add-result : goal.overflow_add-result
overflow_add-result c = omega (arith, c.requires.levels, levels_few c.args.plan.now c.planned.ensures)

pub overflow_add-level : goal.overflow_add-level
overflow_add-level c = omega (arith, c.requires.levels, levels_few c.args.plan.now c.planned.ensures)

pub start-requires : goal.start-requires
start-requires c =
    let p = c.args.plan.now in
    let f = fan p.settings in
    let closed = c.args.progress.now.closed in
    let some = fan-some p.settings in
    let last : c.args.progress.now.fed - 1 < count_under p c.args.level =
    omega (arith, c.requires.some, c.requires.most) in
    let up : c.args.level + closed ≡ c.args.level + (closed - 1) + 1 = omega (arith, c.requires.closed) in
    let below : (c.args.progress.now.fed - 1) / f ^ closed < div_ceil (count_under p c.args.level) (f ^ closed) =
    quotient-below (c.args.progress.now.fed - 1) (count_under p c.args.level) (f ^ closed)
    (one-le-pow closed f some) last in
    record {
      level_below = omega (arith, c.requires.closed, c.requires.levels);
      index_below = omega (
        arith,
        below,
        c.index_above-index.ensures,
        size-above f p.blocks c.args.level closed some,
        ap (λ (k : ℕ). div_ceil p.blocks (f ^ k)) up,
      );
    }

pub overflow_mul-result : goal.overflow_mul-result
overflow_mul-result c =
    let p = c.args.plan.now in
    let planned = c.planned.ensures in
    let level : c.args.progress.now.closed - 1 ≤ 63 = omega (arith, c.requires.levels, levels_few p planned) in
    let size : c.hash_block.result ≤ 524288 = omega (arith, c.hash_block.ensures, hash_most p.settings planned.valid) in
    omega (arith, mul-le-mul level size)
