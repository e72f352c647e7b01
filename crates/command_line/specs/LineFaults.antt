-- Why a command line is refused: clap refuses it, perhaps because clap itself has no memory; or clap accepts it, and
-- there is no memory for the copies of its words.
use Rattle.std.specs.Prelude.{◌≡◌, []}
use Rattle.clap.specs.{Kinds.{HasKind, Kinds}, Words.kind_of, declared.error.ErrorKind.TheVariants.OutOfMemory}
use Rattle.command_line.specs.declared.words.line_fault.LineFault.{LineFault, TheVariants.{Refused, Memory}}

-- there is no memory, for clap or for the copies
abbrev pub LacksMemory : LineFault → Type 0
LacksMemory (Refused e) = kind_of e ≡ OutOfMemory
LacksMemory Memory = Unit {0}

-- clap refuses the line with one of these kinds of error, or has no memory; or there is no memory for the copies of a
-- line that has none of them
abbrev pub HasCause : Kinds → LineFault → Type 0
HasCause kinds (Refused e) = HasKind kinds e
HasCause kinds Memory = kinds ≡ []
