use Rattle.{std.proofs.Common.refl, verity_c_api.{specs.Building.file_builder_of, proofs.BuildingLemmas.{IsFedFileTo-at, IsFedFileTo-of}}}
use Rattle.verity_c.proofs.file_building.fsverity_build_end.Goals as goal

pub returns-in-Ok-end-clause-stays : goal.returns-in-Ok-end-clause-stays
returns-in-Ok-end-clause-stays c =
    λ fed h.
    let tree = c.in-Ok.tree.now in
    let made = c.in-Ok.ensures.made in
    IsFedFileTo-of c.args.params.now tree (file_builder_of tree c.args.params.now.size) c.end.new.memory fed made refl
    (c.in-Ok-end.ensures.stays fed (IsFedFileTo-at c.args.params.now tree c.args.memory.now fed made h))
