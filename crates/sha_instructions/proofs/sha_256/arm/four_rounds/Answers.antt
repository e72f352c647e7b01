use Rattle.std.proofs.Common.{◌∙◌}
use Rattle.sha_instructions.{specs.{Sha256Vectors.efgh, Vectors.{first_four, four}}, proofs.Rounds256.{vectors_four, four_sums}}
use Rattle.sha2.specs.Sha256 as S256
use Rattle.sha_instructions.proofs.sha_256.arm.four_rounds.Goals as goal

pub returns : goal.returns
returns c s w has words =
    let t = c.args.t in
    let k = four S256.round_constants t in
    let sums = four_sums w t c.add_constants_256-wk.ensures words in (
      vectors_four first_four s w t has.0 has.1 (c.sha256h.ensures k (four w t) sums),
      vectors_four efgh s w t (c.copy-before.ensures ∙ has.0) has.1 (c.sha256h2.ensures k (four w t) sums),
    )
