-- What a writer holds after a text or a message was written, if the writer's contents are known.
use Rattle.std.specs.Prelude.{ℕ, ◌<◌, List, length, take, Option, Result, Ok, Err}
use Rattle.std.specs.Io.KnownBytes.{Appends, Keeps}
use Rattle.command_line.specs.declared.writing.print_fault.PrintFault.{PrintFault, TheVariants.{Memory, Output}}

-- some of the text's first bytes are added, perhaps none and perhaps all
abbrev pub AppendsPrefix : List ℕ → Option (List ℕ) → Option (List ℕ) → Type 0
AppendsPrefix text before after = (count : ℕ) × Appends before after (take count text)

-- the text is added whole; without memory nothing is added; only its first bytes if a write fails
abbrev pub WritesText : Result (Unit {0}) PrintFault → List ℕ → Option (List ℕ) → Option (List ℕ) → Type 0
WritesText (Ok done) text before after = Appends before after text
WritesText (Err Memory) text before after = Keeps before after
WritesText (Err (Output count)) text before after = (count < length text) × Appends before after (take count text)
