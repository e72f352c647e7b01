use Rattle.{std.proofs.Common.{refl, ap, ◌∙◌}, sha_instructions.{proofs.Rounds1.vectors_next, specs.{Sha1Vectors.rotated, Vectors.{backwards, xor}}}}
use Rattle.sha_instructions.proofs.sha_1.x86.next_four.Goals as goal

pub returns : goal.returns
returns c b t le e0 e1 e2 e3 =
    c.sha1msg2.ensures
    ∙ (ap (λ z. backwards (rotated (backwards z) (backwards c.args.w3))) (c.xor.ensures ∙ ap (λ m. xor m c.args.w2) c.sha1msg1.ensures)
    ∙ ap backwards (vectors_next b t le (ap backwards e0) (ap backwards e1) (ap backwards e2) (ap backwards e3) refl))
