-- Hash functions (FIPS 180-4, as the crates sha1 and sha2 define them, with the names of veritysetup(8) and
-- fsverity(1)), and the salted hash of a block (Linux kernel, dm-verity page, "Construction Parameters", `<version>`
-- and `<salt>`, and fs-verity page, "Merkle tree").
use Rattle.std.specs.Prelude.{ℕ, List, codes, Option, Some, None, if◌then◌else◌, ◌≡◌, ◌-◌, ◌≤◌, ◌++◌, length, take, replicate}
use Rattle.{std.specs.{Str.bytes_eq, Int.next_multiple_of}, sha1.specs.Sha1.sha1, sha2.specs.{Sha256.{sha224, sha256}, Sha512.{sha384, sha512}}}
use Rattle.verity_hash.specs.declared.{algorithm.Algorithm.{Algorithm, TheVariants.{Sha256, Sha512, Sha1, Sha224, Sha384}}, salting.SaltRule.SaltRule}
use Rattle.verity_hash.specs.declared.salting.SaltRule.TheVariants.{Before, After, PaddedBefore}

-- the hash function, from a message to its digest
abbrev pub hash_of : Algorithm → List ℕ → List ℕ
hash_of Sha256 message = sha256 message
hash_of Sha512 message = sha512 message
hash_of Sha1 message = sha1 message
hash_of Sha224 message = sha224 message
hash_of Sha384 message = sha384 message

-- the length of a digest in bytes
abbrev pub digest_len_of : Algorithm → ℕ
digest_len_of Sha256 = 32
digest_len_of Sha512 = 64
digest_len_of Sha1 = 20
digest_len_of Sha224 = 28
digest_len_of Sha384 = 48

-- the length of the function's input blocks in bytes
abbrev pub input_block_of : Algorithm → ℕ
input_block_of Sha256 = 64
input_block_of Sha512 = 128
input_block_of Sha1 = 64
input_block_of Sha224 = 64
input_block_of Sha384 = 128

-- the name of an algorithm
abbrev pub name_of : Algorithm → List ℕ
name_of Sha256 = codes "sha256"
name_of Sha512 = codes "sha512"
name_of Sha1 = codes "sha1"
name_of Sha224 = codes "sha224"
name_of Sha384 = codes "sha384"

-- the algorithm with this name
abbrev pub algorithm_named : List ℕ → Option Algorithm
algorithm_named name = if bytes_eq name (codes "sha256") then Some Sha256
    else (if bytes_eq name (codes "sha512") then Some Sha512
    else (if bytes_eq name (codes "sha1") then Some Sha1
    else (if bytes_eq name (codes "sha224") then Some Sha224
    else (if bytes_eq name (codes "sha384") then Some Sha384 else None))))

-- the bytes, and zeros after them up to a length of n
abbrev pub with_zeros : ℕ → List ℕ → List ℕ
with_zeros n bytes = bytes ++ replicate (n - length bytes) 0

-- a buffer of this size, of which the first len bytes count and the others are zeros
pub record IsPadded (size : ℕ) (bytes : List ℕ) (len : ℕ) : Type 0 where
  pub whole : length bytes ≡ size
  pub most : len ≤ size
  pub zeros : bytes ≡ with_zeros size (take len bytes)

-- what is hashed for a block: the salt, padded with zeros if the rule says so, before the block or after it
abbrev pub salted_input : Algorithm → SaltRule → List ℕ → List ℕ → List ℕ
salted_input algorithm Before salt block = salt ++ block
salted_input algorithm After salt block = block ++ salt
salted_input algorithm PaddedBefore salt block =
    with_zeros (next_multiple_of (length salt) (input_block_of algorithm)) salt ++ block

-- the salted hash of a block
abbrev pub salted_hash : Algorithm → SaltRule → List ℕ → List ℕ → List ℕ
salted_hash algorithm rule salt block = hash_of algorithm (salted_input algorithm rule salt block)
