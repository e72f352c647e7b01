-- What the options choose, or the first fault, in this order: numbers, hash algorithm, hash type, block sizes, salt,
-- UUID, hash offset, then whether the data makes a plan and leaves the hash area alone, and the root hash. The order is
-- this project's own.
use Rattle.std.specs.Prelude.{ℕ, ◌/◌, ◌&&◌, Bool, not, nat_lt, List, Option, Result, Ok, Err, ok_or, unwrap_or, if◌then◌else◌}
use Rattle.verity_plan.specs.{Settings.{TreeSettingsFields, rule_of}, CheckedSettings.type_of_number, declared.hash_type.HashType.HashType}
use Rattle.verity_plan.specs.{declared.plan_fault.PlanFault.PlanFault, Plans.{PlanFields, multiple_of, offset_unit, plan_at, superblock_size}}
use Rattle.{verity_hash.specs.declared.algorithm.Algorithm.Algorithm, command_line.specs.Options.{algorithm_or_default, default_block_size, ◌>>=◌}}
use Rattle.veritysetup.specs.Options.OptionTexts.{OptionTexts, superblock_uuid, block_size_of, number_if_given, number_option, root_if_given}
use Rattle.veritysetup.specs.Options.{OptionTexts.{salt_or_random, uuid_or_random}, Settings.SettingsFields}
use Rattle.veritysetup.specs.declared.options.option_fault.OptionName.TheVariants.{Format, DataBlockSize, HashBlockSize, DataBlocks, HashOffset}
use Rattle.veritysetup.specs.declared.options.option_fault.OptionFault.{OptionFault}
use Rattle.veritysetup.specs.declared.options.option_fault.OptionFault.TheVariants.{BadNumber, UnknownHash, BadHashType, BadBlockSize, BadSalt}
use Rattle.veritysetup.specs.declared.options.option_fault.OptionFault.TheVariants.{BadUuid, BadHashOffset, NoData, TooLarge, Overlap, BadRoot}
use Rattle.verity_plan.specs.declared.plan_fault.PlanFault.TheVariants as plan

-- what the tree is made by, with this salt if there is one, or the first fault of block sizes and salt
abbrev pub tree_of : Algorithm → HashType → ℕ → ℕ → Option (List ℕ) → Result TreeSettingsFields OptionFault
tree_of algorithm hash_type data_block_size hash_block_size given = do
  data_block ← ok_or (block_size_of data_block_size) (BadBlockSize DataBlockSize)
  hash_block ← ok_or (block_size_of hash_block_size) (BadBlockSize HashBlockSize)
  salt ← ok_or given BadSalt
  Ok (record {
    algorithm = algorithm;
    rule = rule_of hash_type;
    salt = salt;
    data_block = data_block;
    hash_block = hash_block;
  })

-- the plan, or why there is none. If data and hash area are in one file, the hash area must not begin within the
-- covered data
abbrev pub accepted_plan : Bool → ℕ → Result PlanFields PlanFault → Result PlanFields OptionFault
accepted_plan same_file offset (Ok planned) = if same_file && nat_lt offset planned.wanted then Err Overlap else Ok planned
accepted_plan same_file offset (Err plan.NoData) = Err NoData
accepted_plan same_file offset (Err plan.TooLarge) = Err TooLarge

-- what the options choose for data of this length in bytes, or the first fault. By default the hash type is 1, blocks
-- have 4096 bytes, the hash area begins at byte 0, and there are as many data blocks as the data has whole ones. Without
-- a superblock a hash offset is a multiple of the hash block size, and there is no UUID.
abbrev pub settings_of : OptionTexts → ℕ → Option (List ℕ) → Result SettingsFields OptionFault
settings_of texts length random = do
  format ← number_option Format 1 texts.format
  data_block_size ← number_option DataBlockSize default_block_size texts.data_block_size
  hash_block_size ← number_option HashBlockSize default_block_size texts.hash_block_size
  blocks ← ok_or (number_if_given texts.data_blocks) (BadNumber DataBlocks)
  bytes ← number_option HashOffset 0 texts.hash_offset
  algorithm ← ok_or (algorithm_or_default texts.hash) UnknownHash
  hash_type ← ok_or (type_of_number format) BadHashType
  tree ← tree_of algorithm hash_type data_block_size hash_block_size (salt_or_random texts.salt random)
  uuid ← ok_or (uuid_or_random texts.uuid random) BadUuid
  let superblock = not texts.no_superblock
  offset ← ok_or (multiple_of (offset_unit superblock tree.hash_block) bytes) BadHashOffset
  planned ← accepted_plan texts.same_file offset
      (plan_at tree (unwrap_or blocks (length / tree.data_block)) offset superblock)
  root ← ok_or (root_if_given algorithm texts.root) BadRoot
  Ok (record {
    hash_type = hash_type;
    uuid = superblock_uuid superblock uuid;
    offset = offset;
    superblock = superblock;
    plan = planned;
    root = root;
  })

-- by the option's text, the byte at which the superblock stands that a command reads; by default the first byte of the
-- hash device
abbrev pub offset_of : Option (List ℕ) → Result ℕ OptionFault
offset_of text = do
  offset ← number_option HashOffset 0 text
  ok_or (multiple_of superblock_size offset) BadHashOffset
