-- The arguments and the programs of both command lines, in the words of clap (veritysetup(8); fsverity(1)).
use Rattle.std.specs.Prelude.{◌≡◌, Bool, true, false, codes, fold, List, map, Option, Some, None}
use Rattle.clap.specs.{Words.{App, Rule, Shape, Text, app_of, new_app, new_rule, with_rule, with_subcommand}, Simple.on_top}
use Rattle.clap.specs.declared.builder.ArgAction.TheVariants.{Set, Append, SetTrue}
use Rattle.command_line.specs.declared.words.arguments.CommandTable.{CommandTable}
use Rattle.{std.specs.Str.bytes_eq, clap.specs.declared.builder.command.Command.{Command, TheViews.out-Command as fields_of}}
use Rattle.command_line.specs.declared.words.arguments.Argument.{Argument, TheVariants.{Option as OptionOf, Flag, Word, Words}}

-- `--name VALUE`, at most once
abbrev pub option_rule : Text → Rule
option_rule name = record (new_rule name) { long = Some name; action = Some Set }

-- `--name`, at most once
abbrev pub flag_rule : Text → Rule
flag_rule name = record (new_rule name) { long = Some name; action = Some SetTrue }

-- whether a flag is given, by its first value
abbrev pub flag_of : Option Text → Bool
flag_of None = false
flag_of (Some text) = bytes_eq text (codes "true")

-- a word that has to be given
abbrev pub word_rule : Text → Rule
word_rule name = record (new_rule name) { action = Some Set; required = true }

-- one or more words that aren't options
abbrev pub words_rule : Text → Rule
words_rule name = record (new_rule name) { action = Some Append; required = true }

-- the rule of an argument in a table
abbrev pub rule_of_argument : Argument → Rule
rule_of_argument (OptionOf name) = option_rule name.now
rule_of_argument (Flag name) = flag_rule name.now
rule_of_argument (Word name) = word_rule name.now
rule_of_argument (Words name) = words_rule name.now

-- a command of this name, with these arguments
abbrev pub named_app : Text → List Rule → App
named_app name rules = fold with_rule (new_app name) rules

-- a command of a table
abbrev pub command_app : CommandTable → App
command_app table = named_app table.name.now (map rule_of_argument table.arguments.now)

-- a command has to be given, and there is no help flag and no command `help`
abbrev pub without_help : Shape → Shape
without_help s = record s { disable_help_flag = true; disable_help_subcommand = true; subcommand_required = true }

-- a program with one more command
abbrev pub with_command : App → App → App
with_command program command = with_subcommand program command.top

-- a program of this name, with these commands
abbrev pub program_app : Text → List App → App
program_app name commands = fold with_command (on_top without_help (new_app name)) commands

-- the command is the one of this definition, and has no global argument
pub record Defines (a : App) (c : Command) : Type 0 where
  pub app : app_of c ≡ a
  pub local : (fields_of c).has_globals ≡ false
