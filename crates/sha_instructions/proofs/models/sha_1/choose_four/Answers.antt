use Rattle.{std.proofs.Common.{slice_index, ap, ◌∙◌}, sha_instructions.specs.Sha1Vectors.round_by}
use Rattle.sha1.specs.Sha1 as S1
use Rattle.sha_instructions.proofs.models.sha_1.choose_four.Goals as goal

pub returns : goal.returns
returns c k w sums =
    c.choose.ensures k (slice_index w 3) sums.3
    ∙ ap (λ v. round_by S1.ch k v (slice_index w 3)) (c.choose-v-3.ensures k (slice_index w 2) sums.2
    ∙ ap (λ v. round_by S1.ch k v (slice_index w 2)) (c.choose-v-2.ensures k (slice_index w 1) sums.1
    ∙ ap (λ v. round_by S1.ch k v (slice_index w 1)) (c.choose-v.ensures k (slice_index w 0) sums.0)))
