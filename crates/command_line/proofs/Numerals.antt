-- Numbers as options have them, in decimal digits.
use Rattle.std.proofs.{Common.{rules, ◌≡◌, true}, lemmas.Str.Parse.{IsNumeralModel, numerals_by_weight, tells_all_ascii_digits}}
use Rattle.{std.specs.Str.all_ascii_digits, command_line.specs.Options.number}

pub numerals : IsNumeralModel (λ digits. all_ascii_digits digits ≡ true) number
numerals = numerals_by_weight _ tells_all_ascii_digits number (search rules)
