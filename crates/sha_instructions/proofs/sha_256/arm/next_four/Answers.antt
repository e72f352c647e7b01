use Rattle.{std.proofs.Common.{ap, ◌∙◌}, sha_instructions.{specs.{Sha256Vectors.add_sigma1, Vectors.{add, moved}}, proofs.Rounds256.vectors_next}}
use Rattle.sha_instructions.proofs.sha_256.arm.next_four.Goals as goal

pub returns : goal.returns
returns c b t le e0 e1 e2 e3 =
    vectors_next b t le e0 e1 e2 e3
    (c.sha256su1.ensures ∙ ap (λ z. add_sigma1 (add z (moved c.args.w2 c.args.w3)) c.args.w3) c.sha256su0.ensures)
