use Rattle.std.proofs.Common.{arith, ◌*◌, ◌≤◌}
use Rattle.verity_builders.proofs.{Trees.MemoryLengths.open_blocks-most, part_builder.PartBuilder.memory_length.Goals.After-hash_block}
use Rattle.verity_builders.proofs.part_builder.PartBuilder.memory_length.Goals as goal

area : (c : After-hash_block) → c.args.level * c.hash_block.result ≤ 63 * 524288
area c =
    rw c.hash_block.ensures (open_blocks-most c.args.plan.now c.args.level c.planned.ensures c.requires)

pub overflow_mul-result : goal.overflow_mul-result
overflow_mul-result c = omega (arith, area (goal.at.overflow_mul-result c).After-hash_block)

pub overflow_add-result : goal.overflow_add-result
overflow_add-result c =
    omega (arith, area (goal.at.overflow_add-result c).After-hash_block, c.window_length.ensures.most)
