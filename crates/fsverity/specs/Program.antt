-- The program over any runtime: the settings that a command line chooses, what it prints, and what a value says of it
-- that a step answers.
-- For the private functions; not needed to read a public contract.
use Rattle.std.specs.Prelude.{◌≡◌, ◌≢◌, ◌||◌, Bool, true, ℕ, List, [], ◌∷◌, Option, Result, is_some, length, map, option_copied, option_map}
use Rattle.std.specs.Prelude.{string_bytes}
use Rattle.{std.specs.Io.KnownBytes.Appends, verity_plan.specs.Settings.TreeSettingsFields}
use Rattle.fsverity.specs.{Options.Settings.digest_settings, Runs.Digested.AreDigestLines, Texts.Lines.form_of, declared.program.done.Done.Done}
use Rattle.fsverity.specs.declared.{runs.{digest.Printed.Printed, outputs.Written.Written}, options.option_fault.FsOptionFault.FsOptionFault}
use Rattle.fsverity.specs.declared.{texts.digest_lines.Form.Form, words.line.Line.Line}
use Rattle.fsverity.specs.declared.program.done.Done.TheVariants as done

-- whether the line names an output file
abbrev pub names_output : Line → Bool
names_output line = is_some line.out_merkle_tree || is_some line.out_descriptor

-- the settings that a line's options give, or the first option that is refused
abbrev pub line_settings : Line → Result TreeSettingsFields FsOptionFault
line_settings line = digest_settings (option_map string_bytes line.hash_alg) (option_map string_bytes line.block_size)
    (option_map string_bytes line.salt) (length line.files.items) (names_output line)

-- each file of these names has its line, in order; which bytes the files have isn't told
abbrev pub PrintsDigestLines : TreeSettingsFields → Form → List (List ℕ) → Option (List ℕ) → Option (List ℕ) → Type 0
PrintsDigestLines s form names out out' = (lines : List ℕ)
    × AreDigestLines (record { settings = s; form = form; names = names }) ⊥ [] (length names) lines
    × Appends out out' lines

-- what a command line asks to be printed: each file that it names has its line, in its form
abbrev pub CarriesOut : TreeSettingsFields → Line → Option (List ℕ) → Option (List ℕ) → Type 0
CarriesOut s line = PrintsDigestLines s (form_of line.compact line.for_builtin_sig) (map string_bytes line.files.items)

-- the value says that by these settings and in the line's form as many lines were written as the line names files, and
-- that it names no output file of one of them
pub record SaysPrintedFor (s : TreeSettingsFields) (line : Line) (done : Printed) : Type 0 where
  pub settings : done.settings ≡ s
  pub form : done.form ≡ form_of line.compact line.for_builtin_sig
  pub lines : done.lines ≡ length line.files.items
  pub no_output : names_output line ≡ true → length line.files.items ≢ 1

-- the value says that all that the line asks for was written: of its one file, by these settings and in its form, to
-- the output files that it names
pub record SaysWrittenFor (s : TreeSettingsFields) (line : Line) (done : Written) : Type 0 where
  pub settings : done.task.settings ≡ s
  pub form : done.task.form ≡ form_of line.compact line.for_builtin_sig
  pub name : done.task.name.now ∷ [] ≡ map string_bytes line.files.items
  pub wants_tree : done.task.wants_tree ≡ is_some line.out_merkle_tree
  pub wants_descriptor : done.task.wants_descriptor ≡ is_some line.out_descriptor
  pub tree : option_copied done.names.tree ≡ option_map string_bytes line.out_merkle_tree
  pub descriptor : option_copied done.names.descriptor ≡ option_map string_bytes line.out_descriptor

-- the value says that what the line asks for was done
abbrev pub SaysDone : TreeSettingsFields → Line → Done → Type 0
SaysDone s line (done.Printed done) = SaysPrintedFor s line done
SaysDone s line (done.Written done) = SaysWrittenFor s line done
