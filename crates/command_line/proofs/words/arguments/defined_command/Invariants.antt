use Rattle.{std.proofs.Common.{map, take}, command_line.specs.Arguments.{Defines, named_app, rule_of_argument}}
use Rattle.command_line.proofs.words.arguments.defined_command.Given as goal

abbrev pub invariant-loop-argument : goal.invariant-loop-argument
invariant-loop-argument l =
    Defines (named_app l.table.name.now (map rule_of_argument (take l.argument-index l.table.arguments.now))) l.command
