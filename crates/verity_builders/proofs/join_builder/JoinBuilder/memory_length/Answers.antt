use Rattle.{std.proofs.Common.{arith, ◌*◌, ◌-◌, ◌≤◌}, verity_plan.proofs.FanLemmas.digest_len_of-most}
use Rattle.verity_builders.proofs.{Trees.MemoryLengths.open_blocks-most, join_builder.JoinBuilder.memory_length.Goals.After-hash_block}
use Rattle.verity_builders.proofs.join_builder.JoinBuilder.memory_length.Goals as goal

area : (c : After-hash_block) → (c.levels.result - c.args.level) * c.hash_block.result ≤ 63 * 524288
area c =
    rw c.hash_block.ensures (open_blocks-most c.args.plan.now (c.levels.result - c.args.level) c.planned.ensures
    (omega (arith, c.levels.ensures)))

pub overflow_mul-result : goal.overflow_mul-result
overflow_mul-result c = omega (arith, area (goal.at.overflow_mul-result c).After-hash_block)

pub overflow_add-result : goal.overflow_add-result
overflow_add-result c =
    omega (
      arith,
      area (goal.at.overflow_add-result c).After-hash_block,
      c.digest_len.ensures,
      digest_len_of-most c.args.plan.now.settings.algorithm,
    )
