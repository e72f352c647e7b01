use Rattle.std.proofs.{Common.{◌*◌, ◌∙◌, ◌≡◌, ℕ, ap, arith, refl, replicate}, lemmas.List.length-take-le}
use Rattle.verity_builders.proofs.Trees.TreeMemory.{HasFed-none}
use Rattle.verity_builders.proofs.part_builder.PartBuilder.begin.Goals as goal

pub returns-clause-fed : goal.returns-clause-fed
returns-clause-fed c =
    let p = c.args.plan.now in
    let n = c.args.level * c.hash_block.result in
    let size : n ≡ c.args.level * p.settings.hash_block = rw c.hash_block.ensures refl in
    record {
      part = c.in_default.ensures.part;
      count = refl;
      stands = HasFed-none p.settings c.args.level n c.fill.new.self _ size
          (c.fill.ensures.after (λ y e. e)
          ∙ ap (λ (m : ℕ). replicate m 0)
          (length-take-le n c.args.memory.now (omega (arith, c.requires, size))));
    }
