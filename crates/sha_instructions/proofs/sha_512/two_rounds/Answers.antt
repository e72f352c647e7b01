use Rattle.std.proofs.Common.{ap, ◌∙◌}
use Rattle.sha_instructions.{specs.Sha512Vectors.{add, between, first_sums}, proofs.Rounds512.{vectors_temps, vectors_two}}
use Rattle.sha_instructions.proofs.sha_512.two_rounds.Goals as goal

pub returns : goal.returns
returns c s w has words =
    let t = c.args.t in
    let v = c.args.v in
    let temps = vectors_temps s w t has.1 has.2 has.3 words
    (c.add-wk.ensures ∙ ap (add c.args.words) c.constants.ensures)
    (c.add-sums.ensures ∙ ap (add v.gh) c.between.ensures)
    (c.sha512h-temps.ensures ∙ (ap (λ z. first_sums c.add-sums.result z c.between-3.result) c.between-2.ensures
    ∙ ap (first_sums c.add-sums.result (between v.ef v.gh)) c.between-3.ensures)) in
    vectors_two s w t has.0 has.1 has.2 temps c.sha512h2.ensures c.add.ensures
