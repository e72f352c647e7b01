-- Tables from which a command or a program is made, entry by entry.
use Rattle.std.proofs.Common.{◌≡◌, ◌∙◌, ◌||◌, ◌+◌, ◌<◌, ℕ, ap, ap₂, sym, false, true, fold, get_or, length, List, [], ◌∷◌, map, take}
use Rattle.{std.proofs.lemmas.List.{Folds.fold-map, Sums.fold_more}, command_line.specs.Arguments.{Defines, with_command}}
use Rattle.clap.specs.{declared.builder.{command.Command.Command, arg.Arg.Arg}, Words.{AddsArg, AddsSubcommand, App, Rule, rule_of, with_rule}}

-- one more entry of a table
fold_entry : {X Y E : Type 0} (f : Y → X → Y) (of : E → X) (y : Y) (entries : List E) (i : ℕ) (d : E) → i < length entries
    → fold f y (map of (take (i + 1) entries)) ≡ f (fold f y (map of (take i entries))) (of (get_or entries i d))
fold_entry f of y entries i d within =
    fold-map f of y (take (i + 1) entries) ∙ fold_more (λ y e. f y (of e)) y entries i d within
    ∙ ap (λ y. f y (of (get_or entries i d))) (sym (fold-map f of y (take i entries)))

-- the argument of one more entry is added
pub arg_added : {E : Type 0} (rule : E → Rule) (start : App) (entries : List E) (i : ℕ) (d : E) (old new : Command) (arg : Arg)
    → i < length entries
    → Defines (fold with_rule start (map rule (take i entries))) old
    → rule_of arg ≡ rule (get_or entries i d) → arg.global ≡ false → AddsArg old arg new
    → Defines (fold with_rule start (map rule (take (i + 1) entries))) new
arg_added rule start entries i d old new arg within before same local adds = record {
  app = adds.shape local ∙ ap₂ with_rule before.app same ∙ sym (fold_entry with_rule rule start entries i d within);
  local = adds.globals ∙ ap₂ ◌||◌ before.local local;
}

-- the command of one more entry is added
pub command_added : {E : Type 0} (app : E → App) (start : App) (entries : List E) (i : ℕ) (d : E) (old new command : Command)
    → i < length entries
    → Defines (fold with_command start (map app (take i entries))) old
    → Defines (app (get_or entries i d)) command → AddsSubcommand old command new
    → Defines (fold with_command start (map app (take (i + 1) entries))) new
command_added app start entries i d old new command within before below adds = record {
  app = adds.shape below.local ∙ ap₂ with_command before.app below.app
      ∙ sym (fold_entry with_command app start entries i d within);
  local = adds.globals ∙ ap₂ ◌||◌ before.local below.local;
}

-- a command has to be given, however many are added
pub required_stays : (program : App) (commands : List App) → program.top.subcommand_required ≡ true
    → (fold with_command program commands).top.subcommand_required ≡ true
required_stays program [] required = required
required_stays program (command ∷ more) required = required_stays (with_command program command) more required
