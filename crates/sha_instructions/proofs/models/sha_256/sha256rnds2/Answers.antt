use Rattle.{std.proofs.Common.{slice_index, ap, ◌∙◌}, sha_instructions.specs.Sha256Vectors.abef}
use Rattle.sha2.specs.Sha256 as S256
use Rattle.sha_instructions.proofs.models.sha_256.sha256rnds2.Goals as goal

pub returns : goal.returns
returns c k w sums =
    ap abef (c.round.ensures (slice_index k 1) (slice_index w 1) sums.1
    ∙ ap (λ v. S256.round v (slice_index k 1) (slice_index w 1)) (c.round-v.ensures (slice_index k 0) (slice_index w 0) sums.0))
