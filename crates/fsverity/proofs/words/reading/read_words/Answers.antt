use Rattle.{std.proofs.Common.{refl, ap, subst, ◌≡◌, ◌∙◌, true, map, sym, List, Result, Ok, Err}, clap.proofs.OnLiterals.clap_on_literals}
use Rattle.clap.specs.{Words.{App, Row, is_simple, is_simple_and_free, subcommand_of}, declared.error.Error.Error}
use Rattle.command_line.{proofs.{Causes.{caused, fails_by}, Named.met_rows}, specs.declared.words.line_fault.LineFault.TheVariants.{Memory, Refused}}
use Rattle.{fsverity.specs.Words.CommandLines.{HoldsRows, fsverity_app, digest_app}, clap.specs.declared.parser.matches.ArgMatches.ArgMatches}
use Rattle.fsverity.proofs.words.reading.read_words.Goals as goal

app_is_simple : is_simple fsverity_app ≡ true
unfolding clap_on_literals fsverity_app digest_app
app_is_simple = refl

app_is_free : is_simple_and_free fsverity_app ≡ true
unfolding clap_on_literals fsverity_app digest_app
app_is_free = refl

pub returns-clause-holds : goal.returns-clause-holds
returns-clause-holds c =
    let app = c.in-Ok.ensures.defined.app in
    let matches = (c.in_ok-matches.ensures.matches (ap is_simple app ∙ app_is_simple)).1 in
    let met = met_rows _ _ (c.in-Some.ensures.rows) in (
      met.0,
      sym (ap (λ (a : App). subcommand_of a (map (λ w. w.now) c.args.words.now)) app) ∙ sym matches ∙ met.1,
      subst (λ (given : List Row). HoldsRows given c.in_ok-line_of_matches-in-Some.field-0) (sym met.2)
          c.in_ok-line_of_matches-in-Some.ensures,
    )

pub returns-clause-only : goal.returns-clause-only
returns-clause-only c =
    fails_by fsverity_app _ _ (Ok c.in_ok-matches.matches) app_is_free c.in-Ok.ensures.defined.app c.in_ok-matches.ensures.kinds

pub returns-in_err-matches-clause-cause : goal.returns-in_err-matches-clause-cause
returns-in_err-matches-clause-cause c =
    let error = c.in_err-matches.field-0.0 in
    let failed : Result ArgMatches Error = Err error in
    let kinds = fails_by fsverity_app _ _ failed app_is_free c.in-Ok.ensures.defined.app
    c.in_err-matches.ensures.kinds in
    caused _ (Refused error) c.from_residual.result kinds c.from_residual.ensures

pub returns-in_err-line_of_matches-in-Some-clause-cause : goal.returns-in_err-line_of_matches-in-Some-clause-cause
returns-in_err-line_of_matches-in-Some-clause-cause c =
    let none = fails_by fsverity_app _ _ (Ok c.in_ok-matches.matches) app_is_free c.in-Ok.ensures.defined.app
    c.in_ok-matches.ensures.kinds in
    caused _ Memory c.from_residual-in_err-line_of_matches-in-Some.result none c.from_residual-in_err-line_of_matches-in-Some.ensures
