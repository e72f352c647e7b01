-- The lines that `fsverity digest` prints, one for each file (fsverity(1), "fsverity digest"). That the file's name
-- follows a formatted digest that isn't compact is this project's own.
use Rattle.std.specs.Prelude.{◌≡◌, ℕ, ◌<◌, Bool, true, false, List, [], ◌∷◌, length, codes}
use Rattle.{std.specs.List.concat, hex.specs.Hex.encode_lower, verity_format.specs.Descriptors.{algorithm_number, formatted_digest}}
use Rattle.verity_hash.specs.{Hashing.{digest_len_of, name_of}, declared.algorithm.Algorithm.Algorithm}
use Rattle.fsverity.specs.declared.texts.digest_lines.Form.{Form, TheVariants.{Full, Compact, Builtin, CompactBuiltin}}

-- the form that `--compact` and `--for-builtin-sig` ask for
abbrev pub form_of : Bool → Bool → Form
form_of false false = Full
form_of true false = Compact
form_of false true = Builtin
form_of true true = CompactBuiltin

-- the line of a file digest
abbrev pub digest_line : Form → Algorithm → List ℕ → List ℕ → List ℕ
digest_line Full algorithm digest name =
    concat (name_of algorithm ∷ codes ":" ∷ encode_lower digest ∷ codes " " ∷ name ∷ codes "\n" ∷ [])
digest_line Compact algorithm digest name = concat (encode_lower digest ∷ codes "\n" ∷ [])
digest_line Builtin algorithm digest name =
    concat (encode_lower (formatted_digest algorithm digest) ∷ codes " " ∷ name ∷ codes "\n" ∷ [])
digest_line CompactBuiltin algorithm digest name = concat (encode_lower (formatted_digest algorithm digest) ∷ codes "\n" ∷ [])

-- a digest of this algorithm has a formatted digest
abbrev pub IsFormattable : Algorithm → List ℕ → Type 0
IsFormattable algorithm digest = (0 < algorithm_number algorithm) × (length digest ≡ digest_len_of algorithm)

-- what a form asks of a digest: for the builtin forms it must have a formatted digest
abbrev pub FitsForm : Form → Algorithm → List ℕ → Type 0
FitsForm Full algorithm digest = Unit {0}
FitsForm Compact algorithm digest = Unit {0}
FitsForm Builtin algorithm digest = IsFormattable algorithm digest
FitsForm CompactBuiltin algorithm digest = IsFormattable algorithm digest
