-- The steps of reading a superblock: its type, then the settings, then the number of data blocks.
-- For the private functions; not needed to read a public contract.
use Rattle.std.specs.Prelude.{ℕ, ◌≡◌, Bool, List, length, take, drop, Some}
use Rattle.{verity_hash.specs.Hashing.algorithm_named, verity_plan.specs.Settings.TreeSettingsFields}
use Rattle.verity_format.specs.{Superblocks.{field, number_at, until_zero}, CheckedSuperblocks.superblock_tests}
use Rattle.verity_format.specs.declared.super_fault.SuperFault.{SuperFault}

-- the bytes say these settings
pub record AreSettings (s : List ℕ) (tree : TreeSettingsFields) : Type 0 where
  pub name : algorithm_named (until_zero (field 32 32 s)) ≡ Some tree.algorithm
  pub data_block : number_at 64 4 s ≡ tree.data_block
  pub hash_block : number_at 68 4 s ≡ tree.hash_block
  pub salt_size : number_at 80 2 s ≡ length tree.salt
  pub salt : field 88 (length tree.salt) s ≡ tree.salt

-- the tests by step: the first four, the next four, and the last two
abbrev pub type_tests : List ℕ → List (Bool × SuperFault)
type_tests s = take 4 (superblock_tests s)

abbrev pub settings_tests : List ℕ → List (Bool × SuperFault)
settings_tests s = take 4 (drop 4 (superblock_tests s))

abbrev pub blocks_tests : List ℕ → List (Bool × SuperFault)
blocks_tests s = drop 8 (superblock_tests s)
