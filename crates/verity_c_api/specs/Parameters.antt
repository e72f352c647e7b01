-- What the parameters of the library for C say: the settings and the plan that they make, or the first fault; and the
-- parameters that a superblock says, or for which nothing is chosen. Numbers of hash functions are the Linux kernel's
-- for fs-verity (`FS_VERITY_HASH_ALG_*`) and go on from there.
use Rattle.std.specs.Prelude.{ℕ, ◌==◌, length, take, replicate, nat_le, Option, Some, None, Result, Ok, Err, if◌then◌else◌}
use Rattle.verity_hash.specs.{Hashing.with_zeros, declared.{algorithm.Algorithm.Algorithm, salting.SaltRule.TheVariants.PaddedBefore}}
use Rattle.{verity_format.specs.Superblocks.SuperblockFields, verity_c_api.specs.declared.parameters.VerityParams.VerityParams}
use Rattle.verity_plan.specs.{Plans.{PlanFields, multiple_of, offset_unit, plan_at, plan_for_bytes}, declared.hash_type.HashType.HashType}
use Rattle.verity_plan.specs.{Settings.{TreeSettingsFields, most_verity_salt, type_number, most_salt}, declared.plan_fault.PlanFault.PlanFault}
use Rattle.verity_plan.specs.{CheckedSettings.{fsverity_settings, type_of_number, verity_settings}, declared.setting_fault.SettingFault.SettingFault}
use Rattle.verity_c_api.specs.{Statuses.{fault_of_plan, fault_of_setting}, declared.{fault.Fault.Fault, parameters.FsverityParams.FsverityParams}}
use Rattle.verity_hash.specs.declared.algorithm.Algorithm.TheVariants as algorithm
use Rattle.verity_plan.specs.declared.setting_fault.SettingFault.TheVariants as setting
use Rattle.verity_c_api.specs.declared.fault.Fault.TheVariants as fault

-- the number of a hash function, and the hash function of a number
abbrev pub number_of : Algorithm → ℕ
number_of algorithm.Sha256 = 1
number_of algorithm.Sha512 = 2
number_of algorithm.Sha1 = 3
number_of algorithm.Sha224 = 4
number_of algorithm.Sha384 = 5

abbrev pub algorithm_of : ℕ → Option Algorithm
algorithm_of number = if number == 1 then Some algorithm.Sha256
    else (if number == 2 then Some algorithm.Sha512
    else (if number == 3 then Some algorithm.Sha1
    else (if number == 4 then Some algorithm.Sha224
    else (if number == 5 then Some algorithm.Sha384 else None))))

-- the settings, if no more bytes of the salt are to count than there can be
abbrev pub if_salt_fits : Result TreeSettingsFields SettingFault → ℕ → ℕ → Result TreeSettingsFields Fault
if_salt_fits (Err fault) size most = Err (fault_of_setting fault)
if_salt_fits (Ok tree) size most = if nat_le size most then Ok tree else Err fault.SaltSize

-- the settings of dm-verity that parameters make, or the first fault
abbrev pub tree_by : Option Algorithm → Option HashType → VerityParams → Result TreeSettingsFields Fault
tree_by None hash_type params = Err fault.Algorithm
tree_by (Some algorithm) None params = Err fault.HashType
tree_by (Some algorithm) (Some hash_type) params = if_salt_fits
    (verity_settings algorithm hash_type (take params.salt_size params.salt) params.data_block_size
    params.hash_block_size)
    params.salt_size most_verity_salt

abbrev pub tree_of : VerityParams → Result TreeSettingsFields Fault
tree_of params = tree_by (algorithm_of params.hash_algorithm) (type_of_number params.hash_type) params

-- a plan, or its fault
abbrev pub planned : Result PlanFields PlanFault → Result PlanFields Fault
planned (Ok plan) = Ok plan
planned (Err fault) = Err (fault_of_plan fault)

-- the plan of a tree at the hash offset, if that is a multiple of its unit
abbrev pub plan_if : Option ℕ → TreeSettingsFields → VerityParams → Result PlanFields Fault
plan_if None tree params = Err fault.HashOffset
plan_if (Some offset) tree params =
    planned (plan_at tree params.data_blocks offset (params.no_superblock == 0))

abbrev pub plan_by : Result TreeSettingsFields Fault → VerityParams → Result PlanFields Fault
plan_by (Err fault) params = Err fault
plan_by (Ok tree) params =
    plan_if (multiple_of (offset_unit (params.no_superblock == 0) tree.hash_block) params.hash_offset) tree params

-- the plan of dm-verity that parameters make, or the first fault
abbrev pub plan_of : VerityParams → Result PlanFields Fault
plan_of params = plan_by (tree_of params) params

-- the settings of fs-verity that parameters make, whether or not there are as many bytes of the salt as are to count
abbrev pub fsverity_settings_by : Option Algorithm → FsverityParams → Result TreeSettingsFields SettingFault
fsverity_settings_by None params = Err setting.Algorithm
fsverity_settings_by (Some algorithm) params =
    fsverity_settings algorithm (take params.salt_size params.salt) params.block_size

abbrev pub fsverity_settings_of : FsverityParams → Result TreeSettingsFields SettingFault
fsverity_settings_of params = fsverity_settings_by (algorithm_of params.hash_algorithm) params

-- the settings of fs-verity that parameters make, or the first fault
abbrev pub fsverity_tree_by : Option Algorithm → FsverityParams → Result TreeSettingsFields Fault
fsverity_tree_by None params = Err fault.Algorithm
fsverity_tree_by (Some algorithm) params = if_salt_fits
    (fsverity_settings algorithm (take params.salt_size params.salt) params.block_size)
    params.salt_size (most_salt PaddedBefore)

abbrev pub fsverity_tree_of : FsverityParams → Result TreeSettingsFields Fault
fsverity_tree_of params = fsverity_tree_by (algorithm_of params.hash_algorithm) params

-- the plan of fs-verity that parameters make, or the first fault
abbrev pub fsverity_plan_by : Result TreeSettingsFields Fault → ℕ → Result PlanFields Fault
fsverity_plan_by (Err fault) size = Err fault
fsverity_plan_by (Ok tree) size = planned (plan_for_bytes tree size 0)

abbrev pub fsverity_plan_of : FsverityParams → Result PlanFields Fault
fsverity_plan_of params = fsverity_plan_by (fsverity_tree_of params) params.size

-- the parameters that a superblock at this hash offset says
abbrev pub parameters_of : SuperblockFields → ℕ → VerityParams
parameters_of v offset = record {
  hash_algorithm = number_of v.tree.algorithm;
  hash_type = type_number v.hash_type;
  data_block_size = v.tree.data_block;
  hash_block_size = v.tree.hash_block;
  data_blocks = v.blocks;
  hash_offset = offset;
  no_superblock = 0;
  salt_size = length v.tree.salt;
  salt = with_zeros most_verity_salt v.tree.salt;
  uuid = v.uuid;
}

-- the parameters of a tree over so many data blocks where no option of `veritysetup format` says otherwise
-- (veritysetup(8)), without a salt, and with a UUID of zeros
abbrev pub default_params : ℕ → VerityParams
default_params blocks = record {
  hash_algorithm = number_of algorithm.Sha256;
  hash_type = 1;
  data_block_size = 4096;
  hash_block_size = 4096;
  data_blocks = blocks;
  hash_offset = 0;
  no_superblock = 0;
  salt_size = 0;
  salt = replicate most_verity_salt 0;
  uuid = replicate 16 0;
}
