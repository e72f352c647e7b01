use Rattle.std.proofs.{Common.{◌*◌, ◌∙◌, ◌≡◌, ℕ, ap, arith, refl, replicate}, lemmas.List.length-take-le}
use Rattle.{verity_plan.specs.PlanCounts.level_count_of, verity_builders.proofs.Trees.TreeMemory.HasFed-none}
use Rattle.verity_builders.proofs.tree_builder.TreeBuilder.begin.Goals as goal

pub returns-clause-fed : goal.returns-clause-fed
returns-clause-fed c =
    let p = c.args.plan.now in
    let n = c.levels.result * c.hash_block.result in
    let size : n ≡ level_count_of p * p.settings.hash_block = rw (c.levels.ensures, c.hash_block.ensures) refl in
    record {
      count = refl;
      stands = HasFed-none p.settings (level_count_of p) n c.fill.new.self _ size
          (c.fill.ensures.after (λ y e. e)
          ∙ ap (λ (m : ℕ). replicate m 0)
          (length-take-le n c.args.memory.now (omega (arith, c.requires, size))));
    }
