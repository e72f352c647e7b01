use Rattle.std.proofs.Common.{ap, ◌∙◌, arith}
use Rattle.sha_instructions.{specs.Sha256Vectors.{first_half, second_half}, proofs.Rounds256.{rounds_start, first_words}}
use Rattle.sha_instructions.proofs.sha_256.begin.Goals as goal

pub returns : goal.returns
returns c s has =
    let b = c.args.block.now in (
      (has.0 ∙ ap (first_half c.args.for_arm) (rounds_start s _), has.1 ∙ ap (second_half c.args.for_arm) (rounds_start s _)),
      c.four_at.ensures ∙ first_words b 0 (omega arith),
      c.four_at-2.ensures ∙ first_words b 4 (omega arith),
      c.four_at-3.ensures ∙ first_words b 8 (omega arith),
      c.four_at-4.ensures ∙ first_words b 12 (omega arith),
    )
