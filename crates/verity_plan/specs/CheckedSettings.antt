-- Which parameters make settings, and the first that is past its limits; and the hash type of a number.
use Rattle.std.specs.Prelude.{ℕ, ◌==◌, Bool, not, List, length, Option, Some, None, Result, Ok, Err, if◌then◌else◌, nat_lt}
use Rattle.verity_hash.specs.{Hashing.digest_len_of, declared.{algorithm.Algorithm.Algorithm, salting.SaltRule.TheVariants.PaddedBefore}}
use Rattle.verity_plan.specs.declared.{hash_type.HashType.{HashType, TheVariants.{Original, Current}}, setting_fault.SettingFault.SettingFault}
use Rattle.verity_plan.specs.Settings.{rule_of, TreeSettingsFields, least_verity_block, most_salt, least_block, is_block_size, is_of_fsverity}
use Rattle.verity_plan.specs.declared.setting_fault.SettingFault.TheVariants.{SaltSize}
use Rattle.verity_plan.specs.declared.setting_fault.SettingFault.TheVariants.{Algorithm as OtherAlgorithm, DataBlockSize, HashBlockSize}

-- a block size of dm-verity
abbrev pub is_verity_block_size : ℕ → Bool
is_verity_block_size size = is_block_size least_verity_block size

-- the hash type of a number (cryptsetup's on-disk format page, "hash type")
abbrev pub type_of_number : ℕ → Option HashType
type_of_number number = if number == 0 then Some Original else (if number == 1 then Some Current else None)

-- the settings, or the first parameter past its limits: those of dm-verity (block sizes 512 to 524288, salts of up to
-- 256 bytes; cryptsetup's on-disk format page) and of fs-verity (block sizes are powers of two that hold at least two
-- digests, fsverity(1), `--block-size`, and Linux kernel, fs-verity page, "FS_IOC_ENABLE_VERITY"; salts of up to 32
-- bytes, the same page). That fs-verity's blocks have at most 524288 bytes is this project's own limit.
abbrev pub checked_settings : TreeSettingsFields → Result TreeSettingsFields SettingFault
checked_settings s =
    if not (is_block_size (least_block s.rule (digest_len_of s.algorithm)) s.data_block) then Err DataBlockSize
    else (if not (is_block_size (least_block s.rule (digest_len_of s.algorithm)) s.hash_block) then Err HashBlockSize
    else (if nat_lt (most_salt s.rule) (length s.salt) then Err SaltSize else Ok s))

-- settings of dm-verity
abbrev pub verity_settings : Algorithm → HashType → List ℕ → ℕ → ℕ → Result TreeSettingsFields SettingFault
verity_settings algorithm hash_type salt data_block hash_block = checked_settings (record {
  algorithm = algorithm;
  rule = rule_of hash_type;
  salt = salt;
  data_block = data_block;
  hash_block = hash_block;
})

-- settings of fs-verity: data and tree blocks have one size, and the algorithm is one that fs-verity knows
abbrev pub fsverity_settings : Algorithm → List ℕ → ℕ → Result TreeSettingsFields SettingFault
fsverity_settings algorithm salt block =
    if not (is_of_fsverity algorithm) then Err OtherAlgorithm
    else (checked_settings
    (record { algorithm = algorithm; rule = PaddedBefore; salt = salt; data_block = block; hash_block = block }))
