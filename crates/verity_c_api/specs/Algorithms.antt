-- What the library for C says of a hash function by its number in verity.h: the length of its digests, its name, and
-- the form in which a file digest by it is signed.
use Rattle.std.specs.Prelude.{ℕ, ◌+◌, ◌==◌, ◌&&◌, List, length, Option, Some, None, Result, Ok, Err, if◌then◌else◌}
use Rattle.{verity_format.specs.Descriptors.formatted_digest, verity_plan.specs.Settings.is_of_fsverity}
use Rattle.verity_hash.specs.{Hashing.{digest_len_of, name_of}, declared.algorithm.Algorithm.Algorithm}
use Rattle.verity_c_api.specs.{Parameters.number_of, Texts.{text_length_in, with_text}, declared.fault.Fault.Fault}
use Rattle.verity_c_api.specs.declared.fault.Fault.TheVariants as fault

-- the length of its digests
abbrev pub digest_length_in : Option Algorithm → Result ℕ Fault
digest_length_in None = Err fault.Algorithm
digest_length_in (Some algorithm) = Ok (digest_len_of algorithm)

-- a buffer with its name and a zero at its beginning, and the name's length, if there is room for both
abbrev pub name_in : Option Algorithm → List ℕ → Result (List ℕ) Fault
name_in None buffer = Err fault.Algorithm
name_in (Some algorithm) buffer = with_text (name_of algorithm) buffer

abbrev pub name_length_in : Option Algorithm → List ℕ → Result ℕ Fault
name_length_in None buffer = Err fault.Algorithm
name_length_in (Some algorithm) buffer = text_length_in (name_of algorithm) buffer

-- the number of the function that a name is of
abbrev pub number_in_name : Option Algorithm → Result ℕ Fault
number_in_name None = Err fault.Algorithm
number_in_name (Some algorithm) = Ok (number_of algorithm)

-- the formatted digest, if fs-verity has the function, the digest is as long as its digests, and there is room for just
-- it
abbrev pub formatted_if : Algorithm → List ℕ → ℕ → Result (List ℕ) Fault
formatted_if algorithm digest room =
    if (length digest == digest_len_of algorithm) && (room == 12 + digest_len_of algorithm)
    then Ok (formatted_digest algorithm digest) else Err fault.Length

abbrev pub formatted_in : Option Algorithm → List ℕ → ℕ → Result (List ℕ) Fault
formatted_in None digest room = Err fault.Algorithm
formatted_in (Some algorithm) digest room =
    if is_of_fsverity algorithm then formatted_if algorithm digest room else Err fault.Algorithm
