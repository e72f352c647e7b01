use Rattle.{std.proofs.Common.{ap, ◌∙◌}, sha_instructions.{specs.{Sha1Vectors.in_vector, Vectors.add}, proofs.Rounds1.{e_sum_is, sum_is}}}
use Rattle.sha_instructions.proofs.sha_1.sum.Goals as goal

pub returns : goal.returns
returns c h b abcd e has = (
  c.add.ensures ∙ (ap (λ z. add z c.args.v.abcd) abcd ∙ (ap (add (in_vector c.args.for_arm h)) has.0 ∙ sum_is c.args.for_arm h b)),
  c.add_e.ensures h _ e has.1 ∙ e_sum_is h b,
)
