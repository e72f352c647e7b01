use Rattle.{std.proofs.Common.{ℕ, ◌*◌, arith, ap}, verity_plan.proofs.PlanLemmas.store_few}
use Rattle.verity_plan.proofs.plan.Plan.store_length.Goals as goal

pub overflow_mul-result : goal.overflow_mul-result
overflow_mul-result c =
    let few = store_few _ c.self.invariant.planned in
    let product = ap (λ (n : ℕ). c.self.inside.levels * n) c.hash_block-hash_block.ensures.value in
    let levels = ap (λ (n : ℕ). n * c.self.inside.settings.hash_block) c.self.invariant.levels_are in
    omega (arith, few, product, levels)

pub overflow_add-result : goal.overflow_add-result
overflow_add-result c =
    let few = store_few _ c.self.invariant.planned in
    let product = ap (λ (n : ℕ). c.self.inside.levels * n) c.hash_block-hash_block.ensures.value in
    let levels = ap (λ (n : ℕ). n * c.self.inside.settings.hash_block) c.self.invariant.levels_are in
    omega (arith, few, product, levels, c.data_block.ensures.value)

pub overflow_add-result-2 : goal.overflow_add-result-2
overflow_add-result-2 c =
    let few = store_few _ c.self.invariant.planned in
    let product = ap (λ (n : ℕ). c.self.inside.levels * n) c.hash_block-hash_block.ensures.value in
    let levels = ap (λ (n : ℕ). n * c.self.inside.settings.hash_block) c.self.invariant.levels_are in
    omega (arith, few, product, levels, c.data_block.ensures.value, c.hash_block-hash_block.ensures.value)
