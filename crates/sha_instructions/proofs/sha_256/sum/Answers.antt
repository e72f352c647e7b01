use Rattle.std.proofs.Common.{ap, ◌∙◌}
use Rattle.sha_instructions.{proofs.Rounds256.{first_sum_is, second_sum_is}, specs.{Sha256Vectors.{first_half, second_half}, Vectors.add}}
use Rattle.sha_instructions.proofs.sha_256.sum.Goals as goal

pub returns : goal.returns
returns c h b e f has = (
  c.add.ensures ∙ (ap (λ z. add z c.args.v.first) e ∙ (ap (add (first_half c.args.for_arm h)) has.0 ∙ first_sum_is c.args.for_arm h b)),
  c.add-2.ensures ∙ (ap (λ z. add z c.args.v.second) f ∙ (ap (add (second_half c.args.for_arm h)) has.1 ∙ second_sum_is c.args.for_arm h b)),
)
