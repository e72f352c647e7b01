use Rattle.{clap.specs.Words.new_app, command_line.{specs.Arguments.rule_of_argument, proofs.Chains.arg_added}}
use Rattle.command_line.proofs.words.arguments.defined_command.Goals as goal

pub loop-argument-preserved : goal.loop-argument-preserved
loop-argument-preserved c =
    let table = c.args.table.now in
    arg_added rule_of_argument (new_app table.name.now) table.arguments.now c.loop-argument.argument-index _ _ _ _
    c.loop-argument-test.true c.loop-argument.invariant c.defined_argument.ensures.rule
    c.defined_argument.ensures.local c.in_ok-command.ensures
