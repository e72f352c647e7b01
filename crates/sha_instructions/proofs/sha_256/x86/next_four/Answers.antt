use Rattle.std.proofs.Common.{ap, ◌∙◌}
use Rattle.sha_instructions.{specs.{Sha256Vectors.{add_sigma0, add_sigma1}, Vectors.add}, proofs.Rounds256.vectors_next}
use Rattle.sha_instructions.proofs.sha_256.x86.next_four.Goals as goal

pub returns : goal.returns
returns c b t le e0 e1 e2 e3 =
    vectors_next b t le e0 e1 e2 e3
    (c.sha256msg2.ensures
    ∙ ap (λ z. add_sigma1 z c.args.w3) (c.add.ensures
    ∙ (ap (λ z. add z c.moved.result) c.sha256msg1.ensures
    ∙ ap (add (add_sigma0 c.args.w0 c.args.w1)) c.moved.ensures)))
