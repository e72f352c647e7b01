use Rattle.{std.proofs.Common.{[], ap}, verity_builders.specs.declared.tree_builder.TreeBuilder.TreeBuilder}
use Rattle.verity_c_api.proofs.BuildingLemmas.{IsFedTo-of}
use Rattle.verity_c.proofs.tree_building.verity_build_begin.Goals as goal

pub returns-clause-fed : goal.returns-clause-fed
returns-clause-fed c =
    λ _.
    IsFedTo-of c.args.params.now c.in-Ok.plan c.begin-builder.result c.begin-builder.new.memory []
    c.in-Ok.ensures.planned
    (ap (λ (b : TreeBuilder). b.plan) c.begin-builder.ensures.new)
    c.begin-builder.ensures.fed
