use Rattle.{std.proofs.Common.{◌∙◌, ap, map, refl, take}, clap.specs.{Words.{App, new_app}, Simple.on_top}}
use Rattle.command_line.{specs.Arguments.{command_app, without_help}, proofs.Chains.{command_added, required_stays}}
use Rattle.command_line.proofs.words.arguments.program.Goals as goal

pub loop-command-preserved : goal.loop-command-preserved
loop-command-preserved c =
    command_added command_app (on_top without_help (new_app c.args.name.now)) c.args.commands.now
    c.loop-command.command-index _ _ _ _ c.loop-command-test.true c.loop-command.invariant
    c.in_ok-defined_command.ensures c.in_ok-program.ensures

pub returns-clause-required : goal.returns-clause-required
returns-clause-required c =
    ap (λ (a : App). a.top.subcommand_required) c.loop-command.invariant.app
    ∙ required_stays (on_top without_help (new_app c.args.name.now))
    (map command_app (take c.loop-command.command-index c.args.commands.now)) refl
