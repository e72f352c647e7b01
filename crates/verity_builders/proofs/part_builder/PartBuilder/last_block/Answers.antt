use Rattle.{std.proofs.Common.◌∙◌, verity_builders.proofs.Parts.PartMemory.{IsTreeIn-part, part-placed-last, part-stands-last, piece-part}}
use Rattle.verity_builders.proofs.part_builder.PartBuilder.last_block.Goals as goal

pub last_handed_out-requires : goal.last_handed_out-requires
last_handed_out-requires c =
    let b = c.args.self.now in
    let own = c.in-Ok.ensures in
    rw (own.plan, own.first) (IsTreeIn-part b.plan b.level b.part own.planned own.part)

pub returns-clause-fault : goal.returns-clause-fault
returns-clause-fault c =
    (rw c.in-Ok.ensures.plan at c.last_handed_out.ensures.fault) ∙ piece-part c.args.self.now 0 c.in-Ok.ensures.part

pub returns-clause-placed : goal.returns-clause-placed
returns-clause-placed c =
    let own = c.in-Ok.ensures in
    part-placed-last c.args.self.now _ own.part (rw (own.plan, own.first) at c.last_handed_out.ensures.last)

pub returns-clause-stands : goal.returns-clause-stands
returns-clause-stands c = λ memory fed h.
    let own = c.in-Ok.ensures in
    part-stands-last c.args.self.now _ memory fed own.planned
    (rw (own.plan, own.first) at c.last_handed_out.ensures.last) h
