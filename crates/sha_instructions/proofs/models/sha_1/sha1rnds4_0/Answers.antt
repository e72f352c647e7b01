use Rattle.{std.proofs.Common.{ap, ◌∙◌}, sha_instructions.{specs.{Sha1Vectors.four_rounds, Vectors.backwards}, proofs.Rounds1.e_first}}
use Rattle.sha1.specs.Sha1 as S1
use Rattle.sha_instructions.proofs.models.sha_1.sha1rnds4_0.Goals as goal

pub returns : goal.returns
returns c e w are =
    c.vector.ensures
    ∙ ap backwards (c.choose_four.ensures 0x5A827999 (backwards c.args.second) c.sums.ensures
    ∙ (ap (λ v. four_rounds S1.ch 0x5A827999 v (backwards c.args.second)) c.variables.ensures
    ∙ e_first S1.ch 0x5A827999 (backwards c.args.first) (backwards c.args.second) w e are))
