-- The bytes stand after the fields, and zeros after them.
use Rattle.{std.proofs.Common.{◌≡◌, ◌++◌, length, ap, ◌∙◌, arith}, verity_format.proofs.FieldLemmas.{IsPadded-put_mid, room_after, take-put_mid}}
use Rattle.verity_format.proofs.field_writer.FieldWriter.append.Goals as goal

pub invariant_of-self : goal.invariant_of-self
invariant_of-self g c =
    let same : length c.copy_from_slice.new.self ≡ length c.args.bytes.now =
    ap length c.copy_from_slice.ensures.after in
    IsPadded-put_mid g.row.N c.self.inside.at _ _ c.self.inside.bytes c.copy_from_slice.new.self c.self.invariant
    (omega arith) (omega arith)
    (room_after g.row.N c.self.inside.at _ c.self.inside.bytes c.args.self.now c.self.invariant c.self.view_is
    c.requires)

pub returns-clause-bytes : goal.returns-clause-bytes
returns-clause-bytes g c =
    let same : length c.copy_from_slice.new.self ≡ length c.args.bytes.now =
    ap length c.copy_from_slice.ensures.after in
    take-put_mid g.row.N c.self.inside.at _ _ c.self.inside.bytes c.copy_from_slice.new.self c.self.invariant
    (omega arith) (omega arith)
    ∙ ap (λ xs. xs ++ c.copy_from_slice.new.self) c.self.view_is
    ∙ ap (λ xs. c.args.self.now ++ xs) c.copy_from_slice.ensures.after
