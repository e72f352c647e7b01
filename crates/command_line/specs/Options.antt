-- What the texts of options mean, with the defaults of both programs (veritysetup(8); fsverity(1)). How a number is
-- written is this project's own, since both pages leave it open.
use Rattle.std.specs.Prelude.{ℕ, ◌+◌, ◌-◌, ◌*◌, ◌/◌, ◌^◌, ◌&&◌, List, [], ◌∷◌, length, Option, Some, None, Result, Ok, Err, if◌then◌else◌, nat_le}
use Rattle.std.specs.Prelude.{nat_lt}
use Rattle.{std.specs.{Result.result_ok, Str.all_ascii_digits}, hex.specs.Hex.decode_of}
use Rattle.verity_hash.specs.{Hashing.algorithm_named, declared.algorithm.Algorithm.{Algorithm, TheVariants.Sha256}}

-- the sum of the digits by powers of ten
abbrev pub number : List ℕ → ℕ
number [] = 0
number (c ∷ cs) = (c - 48) * 10 ^ length cs + number cs

-- one ASCII digit or more, leading zeros allowed, of a value below 2 ^ 64
abbrev pub number_of : List ℕ → Option ℕ
number_of text =
    if all_ascii_digits text && (nat_lt 0 (length text) && nat_lt (number text) (2 ^ 64))
    then Some (number text) else None

-- a number, or its default
abbrev pub number_or : ℕ → Option (List ℕ) → Option ℕ
number_or default None = Some default
number_or default (Some text) = number_of text

-- the size of a block in bytes if none is given
abbrev pub default_block_size : ℕ
default_block_size = 4096

-- the bytes of a salt in hexadecimal digits of either case, two digits a byte, no more bytes than the most
abbrev pub salt_of : ℕ → List ℕ → Option (List ℕ)
salt_of most text = if nat_le (length text / 2) most then result_ok (decode_of text) else None

-- the algorithm of this name, by default SHA-256
abbrev pub algorithm_or_default : Option (List ℕ) → Option Algorithm
algorithm_or_default None = Some Sha256
algorithm_or_default (Some name) = algorithm_named name

-- one step after another, up to the first that fails
infixl 10 ◌>>=◌
abbrev pub ◌>>=◌ : {X Y E : Type 0} → Result X E → (X → Result Y E) → Result Y E
(Ok x) >>= next = next x
(Err fault) >>= next = Err fault
