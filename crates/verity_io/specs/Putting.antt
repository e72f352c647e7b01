-- Where the writing of a text stopped.
use Rattle.std.specs.Prelude.{ℕ}
use Rattle.verity_io.specs.declared.putting.PutFault.{PutFault}

-- how many bytes of the text were taken
abbrev pub bytes_taken : PutFault → ℕ
bytes_taken fault = fault.0
