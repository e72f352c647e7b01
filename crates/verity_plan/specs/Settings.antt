-- What a tree is made by: the construction parameters of the Linux kernel's dm-verity page and the tree parameters of
-- its fs-verity page; how wide a slot of a hash block is and how many slots a hash block has; and the limits of these
-- parameters.
use Rattle.std.specs.Prelude.{◌≡◌, ℕ, zero, suc, ◌+◌, ◌*◌, ◌/◌, ◌^◌, ◌≤◌, ◌&&◌, Bool, true, false, List, length, nat_le, nat_lt}
use Rattle.{std.specs.Int.is_power_of_two, verity_plan.specs.declared.hash_type.HashType.{HashType, TheVariants.{Original, Current}}}
use Rattle.verity_hash.specs.{declared.salting.SaltRule.TheVariants.{Before, After, PaddedBefore}, Hashing.{digest_len_of, with_zeros, salted_hash}}
use Rattle.verity_hash.specs.declared.{algorithm.Algorithm.{Algorithm, TheVariants.{Sha256, Sha512}}, salting.SaltRule.SaltRule}

-- block sizes are in bytes
pub record TreeSettingsFields : Type 0 where
  pub algorithm : Algorithm
  pub rule : SaltRule
  pub salt : List ℕ
  pub data_block : ℕ
  pub hash_block : ℕ

-- the salted hash of a block
unfoldable pub hash : TreeSettingsFields → List ℕ → List ℕ
hash s block = salted_hash s.algorithm s.rule s.salt block

-- the length of a digest
abbrev pub digest_len : TreeSettingsFields → ℕ
digest_len s = digest_len_of s.algorithm

-- the first of least, least + 1, .. that passes a test; least + fuel if none before it does
unfoldable pub least_from : (ℕ → Bool) → ℕ → ℕ → ℕ
least_from passes least zero = least
least_from passes least (suc fuel) = elim (passes least) [ true ↦ least | false ↦ least_from passes (suc least) fuel ]

-- the least number that passes, if one up to most does
abbrev pub least_up_to : ℕ → (ℕ → Bool) → ℕ
least_up_to most passes = least_from passes 0 most

-- the binary logarithm, rounded down: the least k with n < 2 ^ (k + 1)
unfoldable pub log2 : ℕ → ℕ
log2 n = least_up_to n (λ k. nat_lt n (2 ^ (k + 1)))

-- the number of slots of a hash block: as many digests as have room in it, rounded down to a power of two
unfoldable pub slot_count : ℕ → ℕ → ℕ
slot_count digest_len hash_block = 2 ^ log2 (hash_block / digest_len)

-- the least power of two that is not below a length
unfoldable pub least_power : ℕ → ℕ
least_power len = 2 ^ least_up_to len (λ k. nat_le len (2 ^ k))

-- the width of a slot: the digest's length, in dm-verity's hash type 1 rounded up to a power of two
abbrev pub width_by : SaltRule → ℕ → ℕ
width_by Before digest_len = least_power digest_len
width_by After digest_len = digest_len
width_by PaddedBefore digest_len = digest_len

unfoldable pub slot_width : TreeSettingsFields → ℕ
slot_width s = width_by s.rule (digest_len s)

-- a digest in its slot: the digest, and zeros
abbrev pub slot : TreeSettingsFields → List ℕ → List ℕ
slot s digest = with_zeros (slot_width s) digest

-- the number of slots of a hash block
unfoldable pub fan : TreeSettingsFields → ℕ
fan s = slot_count (digest_len s) s.hash_block

-- the largest block size (of dm-verity, and for fs-verity this project's own); of dm-verity the smallest block size and
-- the longest salt (cryptsetup's on-disk format page)
abbrev pub most_block : ℕ
most_block = 524288

abbrev pub least_verity_block : ℕ
least_verity_block = 512

abbrev pub most_verity_salt : ℕ
most_verity_salt = 256

-- by the place of the salt: the longest salt, and the smallest block size for digests of a length
abbrev pub most_salt : SaltRule → ℕ
most_salt Before = most_verity_salt
most_salt After = most_verity_salt
most_salt PaddedBefore = 32

abbrev pub least_block : SaltRule → ℕ → ℕ
least_block Before digest_len = least_verity_block
least_block After digest_len = least_verity_block
least_block PaddedBefore digest_len = 2 * digest_len

-- a power of two within limits
abbrev pub is_block_size : ℕ → ℕ → Bool
is_block_size least size = is_power_of_two size && (nat_le least size && nat_le size most_block)

-- fs-verity knows the algorithm (fsverity(1), `--hash-alg`)
abbrev pub is_of_fsverity : Algorithm → Bool
is_of_fsverity Sha256 = true
is_of_fsverity Sha512 = true
is_of_fsverity _ = false

-- settings that a tree can be made by
pub record IsValid (s : TreeSettingsFields) : Type 0 where
  pub data_block_size : is_block_size (least_block s.rule (digest_len s)) s.data_block ≡ true
  pub hash_block_size : is_block_size (least_block s.rule (digest_len s)) s.hash_block ≡ true
  pub salt_most : length s.salt ≤ most_salt s.rule
  pub one_size : s.rule ≡ PaddedBefore → s.data_block ≡ s.hash_block
  pub known : s.rule ≡ PaddedBefore → is_of_fsverity s.algorithm ≡ true

-- where the salt goes in a hash type
abbrev pub rule_of : HashType → SaltRule
rule_of Original = After
rule_of Current = Before

-- the number of a hash type (cryptsetup's on-disk format page, "hash type")
abbrev pub type_number : HashType → ℕ
type_number Original = 0
type_number Current = 1
