use Rattle.{std.proofs.Common.{ℕ, ◌*◌, arith, ap}, verity_plan.{specs.PlanCounts.level_count_of, proofs.PlanLemmas.store_few}}
use Rattle.read_one_block.proofs.image.path_length.Goals as goal

pub overflow_mul-result : goal.overflow_mul-result
overflow_mul-result c =
    let p = c.args.plan.now in
    omega (
      arith,
      store_few p c.blocks-blocks.ensures.planned,
      ap (λ (n : ℕ). n * c.hash_block.result) c.levels.ensures,
      ap (λ (n : ℕ). level_count_of p * n) c.hash_block.ensures,
    )
