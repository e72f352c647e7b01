use Rattle.{std.proofs.Common.{arith, refl, ◌∙◌}, verity_builders.proofs.Trees.TreeMemory.{placed-last, stands-last, taking-tree}}
use Rattle.verity_builders.proofs.tree_builder.TreeBuilder.last_block.Goals as goal

pub last_handed_out-requires : goal.last_handed_out-requires
last_handed_out-requires c = record {
  settings_are = refl;
  own_levels = omega (arith, c.levels.ensures);
  levels_most = omega (arith, c.levels.ensures);
  within = omega arith;
}

pub returns-clause-fault : goal.returns-clause-fault
returns-clause-fault c =
    c.last_handed_out.ensures.fault ∙ taking-tree c.args.self.now c.levels.result 0 c.levels.ensures

pub returns-clause-placed : goal.returns-clause-placed
returns-clause-placed c = placed-last c.args.self.now _ (rw c.levels.ensures at c.last_handed_out.ensures.last)

pub returns-clause-stands : goal.returns-clause-stands
returns-clause-stands c = λ memory fed h.
    stands-last c.args.self.now _ memory fed c.last_handed_out.ensures.planned
    (rw c.levels.ensures at c.last_handed_out.ensures.last) h
