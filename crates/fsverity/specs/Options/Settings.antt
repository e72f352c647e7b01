-- The settings that the options of `fsverity digest` give (fsverity(1), "fsverity digest"; Linux kernel, fs-verity
-- page, "FS_IOC_ENABLE_VERITY"). Without options they are SHA-256, blocks of 4096 bytes and no salt.
use Rattle.std.specs.Prelude.{ℕ, ◌&&◌, Bool, nat_lt, List, [], Option, Some, None, Result, Ok, Err, ok_or, unwrap_or, option_and_then, if◌then◌else◌}
use Rattle.verity_hash.specs.{Hashing.digest_len_of, declared.{algorithm.Algorithm.Algorithm, salting.SaltRule.TheVariants.PaddedBefore}}
use Rattle.verity_plan.specs.Settings.{TreeSettingsFields, is_block_size, is_of_fsverity, least_block, most_salt}
use Rattle.command_line.specs.Options.{algorithm_or_default, default_block_size, number_or, salt_of, ◌>>=◌}
use Rattle.fsverity.specs.declared.options.option_fault.FsOptionFault.{FsOptionFault, TheVariants.{UnknownHash, BadBlockSize, BadSalt, OneFileOnly}}

-- the algorithm itself, if fs-verity has it
abbrev pub algorithm_of_fsverity : Algorithm → Option Algorithm
algorithm_of_fsverity algorithm = if is_of_fsverity algorithm then Some algorithm else None

-- the block size itself, if it is within the limits
abbrev pub checked_block_size : Algorithm → ℕ → Option ℕ
checked_block_size algorithm size =
    if is_block_size (least_block PaddedBefore (digest_len_of algorithm)) size then Some size else None

-- the salt of these digits, by default empty; none if they are no salt of fs-verity
abbrev pub salt_bytes_of : Option (List ℕ) → Option (List ℕ)
salt_bytes_of text = salt_of (most_salt PaddedBefore) (unwrap_or text [])

-- what the tree is made by, with this block size and this salt if they are numbers and salts, or the first fault of
-- algorithm, block size and salt
abbrev pub tree_of : Algorithm → Option ℕ → Option (List ℕ) → Result TreeSettingsFields FsOptionFault
tree_of algorithm size given = do
  known ← ok_or (algorithm_of_fsverity algorithm) UnknownHash
  block ← ok_or (option_and_then (checked_block_size known) size) BadBlockSize
  salt ← ok_or given BadSalt
  Ok (record {
    algorithm = known;
    rule = PaddedBefore;
    salt = salt;
    data_block = block;
    hash_block = block;
  })

-- the settings, or the first option that is refused, for so many input files and for an output file or none
abbrev pub digest_settings : Option (List ℕ) → Option (List ℕ) → Option (List ℕ) → ℕ → Bool
    → Result TreeSettingsFields FsOptionFault
digest_settings hash_alg block_size salt files out_files = do
  algorithm ← ok_or (algorithm_or_default hash_alg) UnknownHash
  tree ← tree_of algorithm (number_or default_block_size block_size) (salt_bytes_of salt)
  if out_files && nat_lt 1 files then Err OneFileOnly else Ok tree
