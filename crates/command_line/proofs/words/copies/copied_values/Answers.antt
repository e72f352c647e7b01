use Rattle.std.proofs.{Common.{ap, ◌∙◌, [], map, string_bytes, unwrap_or}, lemmas.Result.IfOk-weaker}
use Rattle.clap.{specs.Words.found_of, proofs.WalkLemmas.raw_values-rows}
use Rattle.command_line.proofs.words.copies.copied_values.Goals as goal

pub returns-in-Some : goal.returns-in-Some
returns-in-Some c =
    let rows = c.in-Some.ensures ∙ raw_values-rows (found_of c.args.matches.now) c.args.name.now in
    IfOk-weaker c.copies.result _ _ (λ v h. h ∙ ap (λ o. unwrap_or o []) rows) c.copies.ensures

pub returns-in-None : goal.returns-in-None
returns-in-None c =
    let rows = c.in-None.ensures ∙ raw_values-rows (found_of c.args.matches.now) c.args.name.now in
    ap (map string_bytes) c.new.ensures.items ∙ ap (λ o. unwrap_or o []) rows
