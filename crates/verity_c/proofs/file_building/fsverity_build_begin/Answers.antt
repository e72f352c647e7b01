use Rattle.{std.proofs.Common.{ap, []}, verity_builders.specs.declared.file_builder.FileBuilder.FileBuilder}
use Rattle.verity_c_api.proofs.BuildingLemmas.{IsFedFileTo-of}
use Rattle.verity_c.proofs.file_building.fsverity_build_begin.Goals as goal

pub returns-clause-fed : goal.returns-clause-fed
returns-clause-fed c =
    λ _.
    IsFedFileTo-of c.args.params.now c.in-Ok.tree.now c.begin.result c.begin.new.memory []
    c.in-Ok.ensures.made
    (ap (λ (b : FileBuilder). b.settings) c.begin.ensures.new)
    c.begin.ensures.fed
