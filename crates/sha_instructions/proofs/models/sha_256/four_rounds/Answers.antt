use Rattle.std.proofs.Common.{slice_index, ap, ◌∙◌}
use Rattle.sha2.specs.Sha256 as S256
use Rattle.sha_instructions.proofs.models.sha_256.four_rounds.Goals as goal

pub returns : goal.returns
returns c k w sums =
    c.round.ensures (slice_index k 3) (slice_index w 3) sums.2
    ∙ ap (λ v. S256.round v (slice_index k 3) (slice_index w 3)) (c.round-v-3.ensures (slice_index k 2) (slice_index w 2) sums.1
    ∙ ap (λ v. S256.round v (slice_index k 2) (slice_index w 2)) (c.round-v-2.ensures (slice_index k 1) (slice_index w 1) sums.0.1
    ∙ ap (λ v. S256.round v (slice_index k 1) (slice_index w 1)) (c.round-v.ensures (slice_index k 0) (slice_index w 0) sums.0.0)))
