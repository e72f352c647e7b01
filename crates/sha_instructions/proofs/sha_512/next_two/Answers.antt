use Rattle.{std.proofs.Common.{ap, ◌∙◌}, sha_instructions.{specs.Sha512Vectors.{add_sigma0, add_sigma1}, proofs.Rounds512.vectors_next}}
use Rattle.sha_instructions.proofs.sha_512.next_two.Goals as goal

pub returns : goal.returns
returns c b t le e0 e1 e4 e5 e7 =
    vectors_next b t le e0 e1 e4 e5 e7
    (c.sha512su1.ensures ∙ (ap (λ z. add_sigma1 z c.args.w7 c.between.result) c.sha512su0.ensures
    ∙ ap (add_sigma1 (add_sigma0 c.args.w0 c.args.w1) c.args.w7) c.between.ensures))
