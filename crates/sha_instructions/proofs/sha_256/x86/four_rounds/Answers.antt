use Rattle.sha_instructions.{proofs.Rounds256.{after_two, vectors_two, low_sums, high_sums, rounds_at}, specs.Sha256Vectors.{abef, cdgh}}
use Rattle.{sha_instructions.specs.Vectors.four, std.proofs.Common.{◌+◌, ap, ◌∙◌}}
use Rattle.sha2.specs.Sha256 as S256
use Rattle.sha_instructions.proofs.sha_256.x86.four_rounds.Goals as goal

pub returns : goal.returns
returns c s w has words =
    let t = c.args.t in
    let k = S256.round_constants in
    let between = vectors_two s w t has.0 has.1
    (c.sha256rnds2-between.ensures (four k t) (four w t) (low_sums w t c.add_constants_256-low.ensures words)) in
    let end = vectors_two s w (t + 2) between (has.0 ∙ after_two s w t)
    (c.sha256rnds2.ensures (four k (t + 2)) (four w (t + 2)) (high_sums w t c.add_constants_256-low.ensures words)) in
    (end ∙ ap abef (rounds_at s w t), between ∙ (after_two s w (t + 2) ∙ ap cdgh (rounds_at s w t)))
