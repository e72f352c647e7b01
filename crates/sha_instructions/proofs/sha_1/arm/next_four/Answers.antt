use Rattle.{std.proofs.Common.{ap, ◌∙◌}, sha_instructions.{specs.Sha1Vectors.rotated, proofs.Rounds1.vectors_next}}
use Rattle.sha_instructions.proofs.sha_1.arm.next_four.Goals as goal

pub returns : goal.returns
returns c b t le e0 e1 e2 e3 = vectors_next b t le e0 e1 e2 e3 (c.sha1su1.ensures ∙ ap (λ z. rotated z c.args.w3) c.sha1su0.ensures)
