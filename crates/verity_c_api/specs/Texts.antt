-- The texts of the library for C: what a status means, and the name of a hash function; and a buffer that a text is
-- written into, with a zero after it, as texts of C end.
use Rattle.std.specs.Prelude.{ℕ, ℤ, pos, int_lt, unsigned_abs, ◌+◌, ◌==◌, List, ◌∷◌, ◌++◌, codes, drop, length, nat_lt, Option, Some, None, Result}
use Rattle.std.specs.Prelude.{Ok, Err, if◌then◌else◌}
use Rattle.verity_c_api.specs.declared.fault.Fault.{Fault, TheVariants.{TooLarge, Short, Signature}}
use Rattle.verity_c_api.specs.declared.fault.Fault.TheVariants.{Version, TooLong, TooShort, Waiting, Part, Differs, Index, Level, Length, Root}
use Rattle.verity_c_api.specs.declared.fault.Fault.TheVariants.{Algorithm, HashType, DataBlockSize, HashBlockSize, SaltSize, HashOffset, NoData}

-- what a fault is, in words
abbrev pub text_of_fault : Fault → List ℕ
text_of_fault Differs = codes "block, root hash or parameters differ"
text_of_fault Index = codes "no such data block"
text_of_fault Level = codes "no such level"
text_of_fault Length = codes "wrong length of a block, path, digest, memory or buffer"
text_of_fault Root = codes "wrong length of the root hash"
text_of_fault Algorithm = codes "unknown hash algorithm, or not one of fs-verity"
text_of_fault HashType = codes "unknown hash type"
text_of_fault DataBlockSize = codes "invalid data block size"
text_of_fault HashBlockSize = codes "invalid hash block size"
text_of_fault SaltSize = codes "invalid salt size"
text_of_fault HashOffset = codes "invalid hash offset"
text_of_fault NoData = codes "no data blocks"
text_of_fault TooLarge = codes "data or hash area too large"
text_of_fault Short = codes "fewer bytes than a superblock has"
text_of_fault Signature = codes "no superblock signature"
text_of_fault Version = codes "unknown superblock version"
text_of_fault TooLong = codes "more data than the parameters say"
text_of_fault TooShort = codes "less data than the parameters say"
text_of_fault Waiting = codes "a hash block, or the rest of a piece, is still to come"
text_of_fault Part = codes "no such part"

-- the fault whose status is minus this number, if there is one
abbrev pub fault_numbered : ℕ → Option Fault
fault_numbered number = if number == 1 then Some Differs
    else (if number == 2 then Some Index
    else (if number == 3 then Some Level
    else (if number == 4 then Some Length
    else (if number == 5 then Some Root
    else (if number == 6 then Some Algorithm
    else (if number == 7 then Some HashType
    else (if number == 8 then Some DataBlockSize
    else (if number == 9 then Some HashBlockSize
    else (if number == 10 then Some SaltSize
    else (if number == 11 then Some HashOffset
    else (if number == 12 then Some NoData
    else (if number == 13 then Some TooLarge
    else (if number == 14 then Some Short
    else (if number == 15 then Some Signature
    else (if number == 16 then Some Version
    else (if number == 17 then Some TooLong
    else (if number == 18 then Some TooShort
    else (if number == 19 then Some Waiting
    else (if number == 20 then Some Part else None)))))))))))))))))))

-- a status in words: 0 or minus a number
abbrev pub text_of_fault_or_none : Option Fault → List ℕ
text_of_fault_or_none (Some fault) = text_of_fault fault
text_of_fault_or_none None = codes "unknown status"

abbrev pub text_of_number : ℕ → List ℕ
text_of_number number = if number == 0 then codes "success" else text_of_fault_or_none (fault_numbered number)

abbrev pub text_of_status : ℤ → List ℕ
text_of_status status =
    if int_lt (pos 0) status then codes "unknown status" else text_of_number (unsigned_abs status)

-- a buffer with a text and a zero after it at its beginning, if both have room
abbrev pub with_text : List ℕ → List ℕ → Result (List ℕ) Fault
with_text text buffer = if nat_lt (length text) (length buffer)
    then Ok (text ++ 0 ∷ drop (length text + 1) buffer) else Err Length

-- the text's length, if it has room in such a buffer
abbrev pub text_length_in : List ℕ → List ℕ → Result ℕ Fault
text_length_in text buffer = if nat_lt (length text) (length buffer) then Ok (length text) else Err Length
