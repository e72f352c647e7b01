-- The superblock's bytes, and what bytes say as a superblock (cryptsetup's on-disk format page, "dm-verity header").
--
--   offset  length  field                  written                 read
--        0       8  signature              "verity" and two zeros  must be these bytes
--        8       4  version                1                       must be 1
--       12       4  hash type              its number              must be a type's number
--       16      16  UUID                   its bytes               any
--       32      32  algorithm              name, then zeros        a known name, then a zero
--       64       4  data block size        in bytes                a power of two, 512 to 524288
--       68       4  hash block size        in bytes                a power of two, 512 to 524288
--       72       8  number of data blocks                          at least 1, and at most 2 ^ 63 - 1 bytes of data
--       80       2  salt size              0 to 256                0 to 256
--       82       6  pad                    zeros                   ignored
--       88     256  salt                   salt, then zeros        the first salt size bytes
--      344     168  pad                    zeros                   ignored
use Rattle.std.specs.Prelude.{ℕ, ◌==◌, List, length, take, drop, position, unwrap_or, ◌≡◌, ◌*◌, ◌<◌, ◌≤◌, [], ◌∷◌, ◌++◌, replicate, codes}
use Rattle.{byteorder.specs.Endian.{little_number, little_bytes}, verity_hash.specs.Hashing.{name_of, with_zeros}, verity_io.specs.Writing.most_bytes}
use Rattle.verity_plan.specs.{declared.hash_type.HashType.HashType, Settings.{TreeSettingsFields, IsValid, rule_of, type_number}}
use Rattle.verity_plan.specs.Plans.{superblock_size}

-- the n bytes from offset `at`
abbrev pub field : ℕ → ℕ → List ℕ → List ℕ
field at n block = take n (drop at block)

-- the number in the n bytes from offset `at`, the lowest byte first
unfoldable pub number_at : ℕ → ℕ → List ℕ → ℕ
number_at at n block = little_number n (drop at block)

-- the bytes before the first zero, or all of them if there is none
abbrev pub until_zero : List ℕ → List ℕ
until_zero bytes = take (unwrap_or (position (λ byte. byte == 0) bytes) (length bytes)) bytes

-- the hash type, how the tree is made, the UUID's 16 bytes, and the number of data blocks
pub record SuperblockFields : Type 0 where
  pub hash_type : HashType
  pub tree : TreeSettingsFields
  pub uuid : List ℕ
  pub blocks : ℕ

-- what a superblock can say: settings of its hash type, a UUID of 16 bytes, and at least one data block and at most
-- 2 ^ 63 - 1 bytes of data
pub record IsValidSuperblock (v : SuperblockFields) : Type 0 where
  pub tree : IsValid v.tree
  pub of_type : v.tree.rule ≡ rule_of v.hash_type
  pub uuid : length v.uuid ≡ 16
  pub some : 0 < v.blocks
  pub within : v.blocks * v.tree.data_block ≤ most_bytes

abbrev pub signature : List ℕ
signature = codes "verity" ++ 0 ∷ 0 ∷ []

-- the version of the format, the only one there is
abbrev pub superblock_version : ℕ
superblock_version = 1

-- the 512 bytes of a superblock
unfoldable pub superblock_bytes : SuperblockFields → List ℕ
superblock_bytes v = with_zeros superblock_size (signature
    ++ little_bytes 4 superblock_version
    ++ little_bytes 4 (type_number v.hash_type)
    ++ v.uuid
    ++ with_zeros 32 (name_of v.tree.algorithm)
    ++ little_bytes 4 v.tree.data_block
    ++ little_bytes 4 v.tree.hash_block
    ++ little_bytes 8 v.blocks
    ++ little_bytes 2 (length v.tree.salt)
    ++ replicate 6 0
    ++ v.tree.salt)

-- the bytes say this superblock, field by field, and it is one that a superblock can say
pub record IsSuperblock (s : List ℕ) (v : SuperblockFields) : Type 0 where
  pub long : superblock_size ≤ length s
  pub signed : take 8 s ≡ signature
  pub version : number_at 8 4 s ≡ superblock_version
  pub hash_type : number_at 12 4 s ≡ type_number v.hash_type
  pub uuid : field 16 16 s ≡ v.uuid
  pub algorithm : until_zero (field 32 32 s) ≡ name_of v.tree.algorithm
  pub data_block : number_at 64 4 s ≡ v.tree.data_block
  pub hash_block : number_at 68 4 s ≡ v.tree.hash_block
  pub blocks : number_at 72 8 s ≡ v.blocks
  pub salt_size : number_at 80 2 s ≡ length v.tree.salt
  pub salt : field 88 (length v.tree.salt) s ≡ v.tree.salt
  pub valid : IsValidSuperblock v
