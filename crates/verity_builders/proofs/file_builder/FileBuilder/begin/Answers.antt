use Rattle.{std.proofs.{Common.{◌∙◌, ℕ, ap, arith, refl, replicate}, lemmas.List.length-take-le}, verity_plan.specs.PlanCounts.most_level_count}
use Rattle.verity_builders.proofs.Trees.TreeMemory.{HasFed-none}
use Rattle.verity_builders.proofs.file_builder.FileBuilder.begin.Goals as goal

pub returns-clause-fed : goal.returns-clause-fed
returns-clause-fed c =
    let s = c.args.settings.now in
    let size = c.open_length.ensures.value in
    record {
      count = refl;
      stands = HasFed-none s (most_level_count s) c.open_length.result c.fill.new.self _ size
          (c.fill.ensures.after (λ y e. e)
          ∙ ap (λ (n : ℕ). replicate n 0)
          (length-take-le c.open_length.result c.args.memory.now (omega (arith, c.requires, size))));
    }
