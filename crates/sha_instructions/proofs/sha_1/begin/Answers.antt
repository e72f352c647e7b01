use Rattle.std.proofs.Common.{slice_index, ap, ◌∙◌, arith}
use Rattle.sha_instructions.{specs.Sha1Vectors.in_vector, proofs.Rounds1.{first_words, rounds_start}}
use Rattle.sha1.specs.Sha1 as S1
use Rattle.sha_instructions.proofs.sha_1.begin.Goals as goal

pub returns : goal.returns
returns c h abcd e =
    let b = c.args.block.now in
    let vector = in_vector c.args.for_arm in (
      (abcd ∙ ap vector (rounds_start h (S1.schedule b 64)), c.begin_e.ensures _ (e ∙ ap (λ v. slice_index v 4) (rounds_start h (S1.schedule b 64)))),
      c.words_at.ensures ∙ ap vector (first_words b 0 (omega arith)),
      c.words_at-2.ensures ∙ ap vector (first_words b 4 (omega arith)),
      c.words_at-3.ensures ∙ ap vector (first_words b 8 (omega arith)),
      c.words_at-4.ensures ∙ ap vector (first_words b 12 (omega arith)),
    )
