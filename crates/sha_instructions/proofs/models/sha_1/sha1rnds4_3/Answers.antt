use Rattle.{std.proofs.Common.{ap, ◌∙◌}, sha_instructions.{specs.{Sha1Vectors.four_rounds, Vectors.backwards}, proofs.Rounds1.e_first}}
use Rattle.sha1.specs.Sha1 as S1
use Rattle.sha_instructions.proofs.models.sha_1.sha1rnds4_3.Goals as goal

pub returns : goal.returns
returns c e w are =
    c.vector.ensures
    ∙ ap backwards (c.parity_four.ensures 0xCA62C1D6 (backwards c.args.second) c.sums.ensures
    ∙ (ap (λ v. four_rounds S1.parity 0xCA62C1D6 v (backwards c.args.second)) c.variables.ensures
    ∙ e_first S1.parity 0xCA62C1D6 (backwards c.args.first) (backwards c.args.second) w e are))
