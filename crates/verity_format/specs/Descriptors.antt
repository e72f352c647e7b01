-- The fs-verity descriptor and the file digest (Linux kernel, fs-verity page, "fs-verity descriptor" and "File digest
-- computation"), and what is signed of a file digest (the same page, "Built-in signature verification", struct
-- fsverity_formatted_digest).
use Rattle.std.specs.Prelude.{◌≡◌, ℕ, ◌^◌, ◌<◌, List, [], ◌∷◌, ◌++◌, length, replicate, codes}
use Rattle.{byteorder.specs.Endian.little_bytes, verity_hash.specs.declared.algorithm.Algorithm.TheVariants.{Sha256, Sha512, Sha1, Sha224, Sha384}}
use Rattle.verity_hash.specs.{Hashing.{hash_of, with_zeros}, declared.{algorithm.Algorithm.Algorithm, salting.SaltRule.TheVariants.PaddedBefore}}
use Rattle.verity_plan.specs.Settings.{log2, TreeSettingsFields, IsValid, digest_len}

-- how the tree is made, the file's size in bytes, and the root hash
pub record DescriptorFields : Type 0 where
  pub tree : TreeSettingsFields
  pub size : ℕ
  pub root : List ℕ

-- settings of fs-verity, and a digest of their algorithm
abbrev pub IsDescribed : TreeSettingsFields → List ℕ → Type 0
IsDescribed tree root = (tree.rule ≡ PaddedBefore) × (length root ≡ digest_len tree)

pub record IsValidDescriptor (v : DescriptorFields) : Type 0 where
  pub tree : IsValid v.tree
  pub described : IsDescribed v.tree v.root
  pub size : v.size < 2 ^ 64

-- the number of an algorithm in the kernel's interface (FS_VERITY_HASH_ALG_* of <linux/fsverity.h>), 0 if it has none
abbrev pub algorithm_number : Algorithm → ℕ
algorithm_number Sha256 = 1
algorithm_number Sha512 = 2
algorithm_number Sha1 = 0
algorithm_number Sha224 = 0
algorithm_number Sha384 = 0

-- the 256 bytes of a descriptor: version, algorithm, logarithm of the block size, salt size, four zeros, the file's
-- size, 64 bytes of root hash, the salt as it was given, and zeros
unfoldable pub descriptor_bytes : DescriptorFields → List ℕ
descriptor_bytes v = with_zeros 256
    (1 ∷ algorithm_number v.tree.algorithm ∷ log2 v.tree.data_block ∷ length v.tree.salt ∷ []
    ++ replicate 4 0
    ++ little_bytes 8 v.size
    ++ with_zeros 64 v.root
    ++ v.tree.salt)

-- the file digest: the hash of the descriptor, without a salt
abbrev pub digest_of_file : DescriptorFields → List ℕ
digest_of_file v = hash_of v.tree.algorithm (descriptor_bytes v)

-- the eight letters, the algorithm's number and the digest's length in two bytes each, the lowest first, the digest
abbrev pub formatted_digest : Algorithm → List ℕ → List ℕ
formatted_digest algorithm digest = codes "FSVerity"
    ++ little_bytes 2 (algorithm_number algorithm)
    ++ little_bytes 2 (length digest)
    ++ digest
