-- The messages of `fsverity digest`, one line each; this project's own. Numbers are decimal, and names are left as they
-- are.
use Rattle.std.specs.Prelude.{ℕ, List, [], ◌∷◌, codes}
use Rattle.{std.specs.{List.concat, Fmt.decimal}, fsverity.specs.declared.runs.digest_fault.DigestFault.DigestFault}
use Rattle.fsverity.specs.declared.runs.digest_fault.DigestFault.TheVariants.{TooLarge, SourceShort, SourceFailed, DeviceFailed, Memory}
use Rattle.fsverity.specs.declared.options.option_fault.FsOptionFault.{TheVariants.{UnknownHash, BadBlockSize, BadSalt, OneFileOnly}, FsOptionFault}

abbrev pub memory_message : List ℕ
memory_message = codes "fsverity: out of memory.\n"

-- a file that can't be opened, or whose length can't be found
abbrev pub unopened_message : List ℕ → List ℕ
unopened_message name = concat (codes "fsverity: cannot open " ∷ name ∷ codes ".\n" ∷ [])

abbrev pub unwritten_descriptor_message : List ℕ
unwritten_descriptor_message = codes "fsverity: cannot write descriptor.\n"

abbrev pub unwritten_output_message : List ℕ
unwritten_output_message = codes "fsverity: cannot write output.\n"

-- why a file of this name has no digest
abbrev pub digest_message : DigestFault → List ℕ → List ℕ
digest_message TooLarge name = concat (codes "fsverity: file is too large: " ∷ name ∷ codes ".\n" ∷ [])
digest_message (SourceShort i) name =
    concat (codes "fsverity: file ends before the end of block " ∷ decimal i ∷ codes ": " ∷ name ∷ codes ".\n" ∷ [])
digest_message (SourceFailed i) name =
    concat (codes "fsverity: cannot read block " ∷ decimal i ∷ codes ": " ∷ name ∷ codes ".\n" ∷ [])
digest_message (DeviceFailed level block) name = concat
    (codes "fsverity: cannot write tree block " ∷ decimal block ∷ codes " of level " ∷ decimal level ∷ codes ".\n" ∷ [])
digest_message Memory name = memory_message

-- why the options are refused
abbrev pub option_message : FsOptionFault → List ℕ
option_message UnknownHash = codes "fsverity: unknown hash algorithm.\n"
option_message BadBlockSize = codes "fsverity: block size is not valid.\n"
option_message BadSalt = codes "fsverity: salt is not valid.\n"
option_message OneFileOnly = codes "fsverity: output files need exactly one input file.\n"
