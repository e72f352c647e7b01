use Rattle.{std.proofs.Common.refl, verity_c_api.{specs.Building.builder_of, proofs.BuildingLemmas.{IsFedTo-at, IsFedTo-of}}}
use Rattle.verity_c.proofs.tree_building.verity_build_end.Goals as goal

pub returns-in-Ok-end-clause-stays : goal.returns-in-Ok-end-clause-stays
returns-in-Ok-end-clause-stays c =
    λ fed h.
    let p = c.in-Ok.plan in
    let made = c.in-Ok.ensures.planned in
    IsFedTo-of c.args.params.now p (builder_of p c.args.build.now) c.end.new.memory fed made refl
    (c.in-Ok-end.ensures.stays fed (IsFedTo-at c.args.params.now p c.args.build.now c.args.memory.now fed made h))
