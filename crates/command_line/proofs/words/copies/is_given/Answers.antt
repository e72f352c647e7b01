use Rattle.{std.proofs.Common.{◌∙◌, ap}, clap.{specs.Words.found_of, proofs.WalkLemmas.first_value-rows}, command_line.specs.Arguments.flag_of}
use Rattle.command_line.proofs.words.copies.is_given.Goals as goal

pub returns-in-Some : goal.returns-in-Some
returns-in-Some c =
    let first = c.in-Some.ensures ∙ first_value-rows (found_of c.args.matches.now) c.args.name.now in
    c.eq.ensures ∙ ap flag_of first

pub returns-in-None : goal.returns-in-None
returns-in-None c =
    let first = c.in-None.ensures ∙ first_value-rows (found_of c.args.matches.now) c.args.name.now in
    ap flag_of first
