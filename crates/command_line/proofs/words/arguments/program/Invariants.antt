use Rattle.{std.proofs.Common.{map, take}, command_line.specs.Arguments.{Defines, command_app, program_app}}
use Rattle.command_line.proofs.words.arguments.program.Given as goal

abbrev pub invariant-loop-command : goal.invariant-loop-command
invariant-loop-command l =
    Defines (program_app l.name (map command_app (take l.command-index l.commands))) l.program
