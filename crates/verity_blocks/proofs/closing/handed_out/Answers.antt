use Rattle.{std.proofs.{Common.{arith, ◌-◌, ◌≤◌}, Math.Nat.mul-le-mul}, verity_plan.proofs.{FanLemmas.hash_most, PlanLemmas.levels_few}}
use Rattle.verity_blocks.proofs.closing.handed_out.Goals as goal

pub overflow_mul-result : goal.overflow_mul-result
overflow_mul-result c =
    let p = c.args.plan.now in
    let planned = c.planned.ensures in
    let level : c.args.progress.now.closed - 1 ≤ 63 = omega (arith, c.requires.level, levels_few p planned) in
    let size : c.hash_block.result ≤ 524288 = omega (arith, c.hash_block.ensures, hash_most p.settings planned.valid) in
    omega (arith, mul-le-mul level size)
