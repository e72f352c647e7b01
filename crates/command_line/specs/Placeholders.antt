-- What is held open in place of standard streams that may be closed; this project's own.
use Rattle.std.specs.Prelude.{IsSome}
use Rattle.command_line.specs.declared.files.placeholders.Placeholders.{Placeholders}

-- each of the three could be opened
abbrev pub AreOpen : {F : Type 0} → Placeholders F → Type 0
AreOpen placeholders = IsSome placeholders.first × IsSome placeholders.second × IsSome placeholders.third
