use Rattle.{verity_plan.{specs.{Plans.plan_for_bytes, Settings.TreeSettingsFields}, proofs.PlanLemmas.blocks_few}, std.specs.Prelude.{Ok, Err}}
use Rattle.{verity_builders.specs.Parts.{HasPart, first_block, plan_of_part}, std.proofs.Common.{◌≡◌, ◌*◌, ℕ, arith, ap, sym, ◌∙◌}}
use Rattle.verity_builders.proofs.Parts.PlanOfPart.{first_block-by_count, has-part, plan_of_part-made, wanted-by_count}
use Rattle.verity_builders.proofs.part_builder.own_tree.Goals.{After-data_block-block, After-for_bytes, After-blocks_in_part_of-count}
use Rattle.verity_builders.proofs.part_builder.own_tree.Goals as goal

-- the tree has the part
has : (c : After-blocks_in_part_of-count) → HasPart c.args.plan.now c.args.level c.args.part
has c = record {
  level_most = omega (arith, c.if-level-levels.false, c.levels.ensures);
  part_below = omega (arith, c.if-part-count_under.false, c.count_under.ensures);
}

first : (c : After-blocks_in_part_of-count)
    → c.args.part * c.blocks_in_part_of-count.result ≡ first_block c.args.plan.now c.args.level c.args.part
first c =
    first_block-by_count c.args.plan.now c.args.level c.args.part c.blocks_in_part_of-count.result
    c.planned.ensures (has c)
    c.blocks_in_part_of-count.ensures

pub overflow_mul-first : goal.overflow_mul-first
overflow_mul-first c =
    let at = (goal.at.overflow_mul-first c).After-blocks_in_part_of-count in
    let p = c.args.plan.now in
    let begins = (has-part p c.args.level c.args.part c.planned.ensures (has at)).begins in
    omega (arith, first at, begins, blocks_few p c.planned.ensures)

-- the byte at which the part begins
first_byte : (c : After-data_block-block)
    → c.args.part * c.blocks_in_part_of-count.result * c.data_block-block.result
    ≡ first_block c.args.plan.now c.args.level c.args.part * c.args.plan.now.settings.data_block
first_byte c =
    ap (λ (n : ℕ). n * c.data_block-block.result)
    (first (goal.at.After-data_block-block c).After-blocks_in_part_of-count)
    ∙ ap (λ (n : ℕ). first_block c.args.plan.now c.args.level c.args.part * n) c.data_block-block.ensures

pub overflow_mul-first-2 : goal.overflow_mul-first-2
overflow_mul-first-2 c =
    let at = (goal.at.overflow_mul-first-2 c).After-data_block-block in
    let begins = (has-part c.args.plan.now c.args.level c.args.part c.planned.ensures
    (has (goal.at.After-data_block-block at).After-blocks_in_part_of-count)).begins_byte in
    omega (arith, first_byte at, begins, c.wanted.ensures.value, c.wanted.type_inv)

pub overflow_sub-wanted : goal.overflow_sub-wanted
overflow_sub-wanted c =
    let at = (goal.at.overflow_sub-wanted c).After-data_block-block in
    let begins = (has-part c.args.plan.now c.args.level c.args.part c.planned.ensures
    (has (goal.at.After-data_block-block at).After-blocks_in_part_of-count)).begins_byte in
    omega (arith, first_byte at, begins, c.wanted.ensures.value)

-- the plan that is asked for is made
made : (c : After-for_bytes) → c.for_bytes.result ≡ Ok (plan_of_part c.args.plan.now c.args.level c.args.part)
made c =
    let p = c.args.plan.now in
    let at = (goal.at.After-for_bytes c).After-data_block-block in
    let count = c.blocks_in_part_of-count.result in
    let asked : c.min-wanted.result ≡ (plan_of_part p c.args.level c.args.part).wanted =
    omega (
      arith,
      c.min-wanted.ensures,
      first_byte at,
      c.wanted.ensures.value,
      ap (λ (n : ℕ). count * n) c.data_block-block.ensures,
      wanted-by_count p c.args.level c.args.part count c.planned.ensures c.blocks_in_part_of-count.ensures,
    ) in
    c.for_bytes.ensures
    ∙ ap (λ (s : TreeSettingsFields). plan_for_bytes s c.min-wanted.result 0) c.settings.ensures
    ∙ ap (λ (n : ℕ). plan_for_bytes p.settings n 0) asked
    ∙ plan_of_part-made p c.args.level c.args.part c.planned.ensures
    (has (goal.at.After-data_block-block at).After-blocks_in_part_of-count)

pub returns-in-Ok-clause-plan : goal.returns-in-Ok-clause-plan
returns-in-Ok-clause-plan c =
    let is = made (goal.at.returns-in-Ok-clause-plan c).After-for_bytes in
    let same : Ok c.in-Ok.own ≡ Ok (plan_of_part c.args.plan.now c.args.level c.args.part) = sym c.in-Ok.is ∙ is in cc

pub returns-in-Ok-clause-first : goal.returns-in-Ok-clause-first
returns-in-Ok-clause-first c = first (goal.at.returns-in-Ok-clause-first c).After-blocks_in_part_of-count

pub returns-in-Err-clause-fault : goal.returns-in-Err-clause-fault
returns-in-Err-clause-fault c =
    let is = made (goal.at.returns-in-Err-clause-fault c).After-for_bytes in
    let bad : Err c.in-Err.field-0 ≡ Ok (plan_of_part c.args.plan.now c.args.level c.args.part) =
    sym c.in-Err.is ∙ is in
    absurd cc
