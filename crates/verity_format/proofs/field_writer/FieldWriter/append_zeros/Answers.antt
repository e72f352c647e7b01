-- Zeros stand after the fields already.
use Rattle.{std.proofs.Common.{◌++◌, replicate, ap, ◌∙◌}, verity_format.proofs.FieldLemmas.{IsPadded-zeros, room_after, take-zeros}}
use Rattle.verity_format.proofs.field_writer.FieldWriter.append_zeros.Goals as goal

pub invariant_of-self : goal.invariant_of-self
invariant_of-self g c =
    IsPadded-zeros g.row.N c.self.inside.at c.args.count c.self.inside.bytes c.self.invariant
    (room_after g.row.N c.self.inside.at c.args.count c.self.inside.bytes c.args.self.now c.self.invariant
    c.self.view_is c.requires)

pub returns-clause-bytes : goal.returns-clause-bytes
returns-clause-bytes g c =
    take-zeros g.row.N c.self.inside.at c.args.count c.self.inside.bytes c.self.invariant
    (room_after g.row.N c.self.inside.at c.args.count c.self.inside.bytes c.args.self.now c.self.invariant
    c.self.view_is c.requires)
    ∙ ap (λ xs. xs ++ replicate c.args.count 0) c.self.view_is
