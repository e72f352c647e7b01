-- How a command ends if it refuses an option of its line, or data that ends too soon.
-- For the private functions; not needed to read a public contract.
use Rattle.std.specs.Prelude.{◌≡◌, ℕ, Result, Err, option_map, string_bytes}
use Rattle.veritysetup.specs.{Options.Choices.offset_of, declared.{fault.Fault.Fault, options.option_fault.OptionFault.OptionFault}}
use Rattle.veritysetup.specs.declared.words.line.Line.{Line}
use Rattle.verity_pass.specs.declared.building.BuildFault.TheVariants as build
use Rattle.veritysetup.specs.declared.fault.Fault.TheVariants as fault

-- the byte at which dump or verify reads the superblock by a line, or why the line's offset is refused
abbrev pub line_offset : Line → Result ℕ OptionFault
line_offset line = offset_of (option_map string_bytes line.hash_offset)

-- the command ends with the fault of the option
abbrev pub EndsRefused : {X : Type 0} → Result X Fault → OptionFault → Type 0
EndsRefused result cause = result ≡ Err (fault.Option cause)

-- the command ends with the fault that this data block is not whole
abbrev pub EndsShort : {X : Type 0} → Result X Fault → ℕ → Type 0
EndsShort result block = result ≡ Err (fault.Build (build.SourceShort block))
