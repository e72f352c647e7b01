use Rattle.{std.proofs.Common.{ap, ◌∙◌}, sha_instructions.{specs.Sha512Vectors.{add, two}, proofs.Rounds512.sum_is}}
use Rattle.sha_instructions.proofs.sha_512.sum.Goals as goal

pub returns : goal.returns
returns c h b ab cd ef gh has =
    let v = c.args.v in (
      c.add.ensures ∙ (ap (λ z. add z v.ab) ab ∙ (ap (add (two h 0)) has.0 ∙ ap (λ z. two z 0) (sum_is h b))),
      c.add-2.ensures ∙ (ap (λ z. add z v.cd) cd ∙ (ap (add (two h 2)) has.1 ∙ ap (λ z. two z 2) (sum_is h b))),
      c.add-3.ensures ∙ (ap (λ z. add z v.ef) ef ∙ (ap (add (two h 4)) has.2 ∙ ap (λ z. two z 4) (sum_is h b))),
      c.add-4.ensures ∙ (ap (λ z. add z v.gh) gh ∙ (ap (add (two h 6)) has.3 ∙ ap (λ z. two z 6) (sum_is h b))),
    )
