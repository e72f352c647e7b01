use Rattle.{std.proofs.Common.{ap, ◌∙◌, arith}, sha_instructions.{specs.Sha512Vectors.two, proofs.Rounds512.{first_words, rounds_start}}}
use Rattle.sha2.specs.Sha512 as S512
use Rattle.sha_instructions.proofs.sha_512.begin.Goals as goal

pub returns : goal.returns
returns c s has =
    let b = c.args.block.now in
    let start = rounds_start s (S512.schedule b 64) in (
      (has.0 ∙ ap (λ z. two z 0) start, has.1 ∙ ap (λ z. two z 2) start, has.2 ∙ ap (λ z. two z 4) start, has.3 ∙ ap (λ z. two z 6) start),
      c.two_at.ensures ∙ first_words b 0 (omega arith),
      c.two_at-2.ensures ∙ first_words b 2 (omega arith),
      c.two_at-3.ensures ∙ first_words b 4 (omega arith),
      c.two_at-4.ensures ∙ first_words b 6 (omega arith),
      c.two_at-5.ensures ∙ first_words b 8 (omega arith),
      c.two_at-6.ensures ∙ first_words b 10 (omega arith),
      c.two_at-7.ensures ∙ first_words b 12 (omega arith),
      c.two_at-8.ensures ∙ first_words b 14 (omega arith),
    )
