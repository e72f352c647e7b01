-- What a form asks of a digest.
use Rattle.{std.proofs.Common.{◌≡◌, ℕ, ◌<◌, List, length, true, arith}, verity_format.specs.Descriptors.algorithm_number}
use Rattle.verity_hash.specs.{Hashing.digest_len_of, declared.algorithm.Algorithm.{Algorithm, TheVariants.{Sha256, Sha512, Sha1, Sha224, Sha384}}}
use Rattle.verity_plan.specs.Settings.{is_of_fsverity}
use Rattle.fsverity.specs.{Texts.Lines.FitsForm, declared.texts.digest_lines.Form.{Form, TheVariants.{Full, Compact, Builtin, CompactBuiltin}}}

-- an algorithm of fs-verity has a number
has_number : (a : Algorithm) → is_of_fsverity a ≡ true → 0 < algorithm_number a
has_number Sha256 known = omega arith
has_number Sha512 known = omega arith
has_number Sha1 known = absurd cc
has_number Sha224 known = absurd cc
has_number Sha384 known = absurd cc

-- a digest of an algorithm of fs-verity fits each form
pub fits_form : (form : Form) (a : Algorithm) (digest : List ℕ) → is_of_fsverity a ≡ true →
    length digest ≡ digest_len_of a → FitsForm form a digest
fits_form Full a digest known long = tt
fits_form Compact a digest known long = tt
fits_form Builtin a digest known long = (has_number a known, long)
fits_form CompactBuiltin a digest known long = (has_number a known, long)
