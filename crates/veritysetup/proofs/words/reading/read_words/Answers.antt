use Rattle.std.proofs.Common.{refl, ap, subst, ◌≡◌, ◌∙◌, true, List, [], ◌∷◌, map, sym, Some, option_map, Result, Ok, Err}
use Rattle.clap.specs.Words.{App, HasMatchesOf, Row, Text, app_of, found_of, is_simple, is_simple_and_free, rows_of, subcommand_name_of}
use Rattle.clap.specs.{Words.{subcommand_of, subcommand_rows_of}, declared.{builder.command.Command.Command, error.Error.Error}}
use Rattle.clap.{specs.declared.parser.matches.ArgMatches.ArgMatches, proofs.OnLiterals.clap_on_literals}
use Rattle.command_line.specs.{Arguments.Defines, declared.words.line_fault.LineFault.TheVariants.{Memory, Refused}}
use Rattle.command_line.proofs.{Causes.{caused, fails_by}, Named.{IsOneOf, met_is_own, met_of, none_of, sub_names}}
use Rattle.veritysetup.specs.Words.CommandLines.{command_text, dump_app, format_app, verify_app, veritysetup_app}
use Rattle.veritysetup.specs.declared.words.command_name.CommandName.TheVariants.{Format, Dump, Verify}
use Rattle.veritysetup.proofs.words.reading.read_words.Goals as goal

app_is_simple : is_simple veritysetup_app ≡ true
unfolding clap_on_literals veritysetup_app format_app dump_app verify_app
app_is_simple = refl

app_is_free : is_simple_and_free veritysetup_app ≡ true
unfolding clap_on_literals veritysetup_app format_app dump_app verify_app
app_is_free = refl

help_is_off : veritysetup_app.top.disable_help_subcommand ≡ true
unfolding veritysetup_app
help_is_off = refl

names : sub_names veritysetup_app ≡ map command_text (Format ∷ Dump ∷ Verify ∷ [])
unfolding veritysetup_app format_app dump_app verify_app
names = refl

subcommand_is : (c : Command) (m : ArgMatches) (words : List Text) (name : Text) (rows : List Row) → Defines veritysetup_app c
    → HasMatchesOf (app_of c) words m → Some name ≡ subcommand_name_of m
    → Some rows ≡ option_map (λ p. p.1) (subcommand_rows_of m) → subcommand_of veritysetup_app words ≡ Some (name, rows)
subcommand_is c m words name rows def has n r =
    met_of veritysetup_app m words name rows app_is_simple (subst (λ (a : App). HasMatchesOf a words m) def.app has) n r

pub unreachable-requires : goal.unreachable-requires
unreachable-requires c =
    let given = subcommand_is _ _ _ _ _ c.in-Ok.ensures.defined c.in_ok-matches.ensures.matches
    c.in-Some.ensures.name c.in-Some.ensures.rows in
    let own = met_is_own veritysetup_app _ _ help_is_off given in
    none_of command_text (Format ∷ Dump ∷ Verify ∷ []) _ (c.in-None-from_name.ensures.unknown refl)
    (subst (IsOneOf _) names own)

pub returns-clause-holds : goal.returns-clause-holds
returns-clause-holds c =
    let held : List Row = rows_of (found_of c.in-Some.inner.now) in
    let given = subcommand_is _ _ _ _ held c.in-Ok.ensures.defined c.in_ok-matches.ensures.matches
    c.in-Some.ensures.name c.in-Some.ensures.rows in
    let command = ap command_text c.in_ok-line_of-in-Some-from_name.ensures.command
    ∙ c.in-Some-from_name.ensures.named in
    (held, given ∙ ap (λ (n : Text). Some (n, held)) (sym command), c.in_ok-line_of-in-Some-from_name.ensures.rows)

pub returns-clause-only : goal.returns-clause-only
returns-clause-only c =
    fails_by veritysetup_app _ _ (Ok c.in_ok-matches.matches) app_is_free c.in-Ok.ensures.defined.app
    c.in_ok-matches.ensures.kinds

pub returns-in_err-matches-clause-cause : goal.returns-in_err-matches-clause-cause
returns-in_err-matches-clause-cause c =
    let error = c.in_err-matches.field-0.0 in
    let failed : Result ArgMatches Error = Err error in
    let kinds = fails_by veritysetup_app _ _ failed app_is_free c.in-Ok.ensures.defined.app
    c.in_err-matches.ensures.kinds in
    caused _ (Refused error) c.from_residual.result kinds c.from_residual.ensures

pub returns-in_err-line_of-in-Some-from_name-clause-cause : goal.returns-in_err-line_of-in-Some-from_name-clause-cause
returns-in_err-line_of-in-Some-from_name-clause-cause c =
    let none = fails_by veritysetup_app _ _ (Ok c.in_ok-matches.matches) app_is_free c.in-Ok.ensures.defined.app
    c.in_ok-matches.ensures.kinds in
    let residual = c.from_residual-in_err-line_of-in-Some-from_name in
    caused _ Memory residual.result none residual.ensures
