-- What a report says, given again as options (veritysetup(8)).
use Rattle.std.specs.Prelude.{ℕ, Bool, false, not, List, [], ◌++◌, Option, Some, None, codes, unwrap_or, if◌then◌else◌}
use Rattle.{std.specs.Fmt.decimal, verity_format.specs.Superblocks.SuperblockFields, verity_hash.specs.Hashing.name_of}
use Rattle.{verity_plan.specs.Settings.type_number, veritysetup.specs.Options.{OptionTexts.{OptionTexts, superblock_uuid}, Settings.SettingsFields}}
use Rattle.veritysetup.specs.Texts.Reports.{no_uuid_text, report_line, root_line, salt_text, title, uuid_text}

-- the texts of a report's values as options, with this hash offset; without a superblock with `--no-superblock`, and
-- without `--uuid`. The last is whether data and hash area are in one file
abbrev pub printed_options : SuperblockFields → ℕ → Bool → Bool → OptionTexts
printed_options v offset superblock same_file = record {
  hash = Some (name_of v.tree.algorithm);
  format = Some (decimal (type_number v.hash_type));
  data_block_size = Some (decimal v.tree.data_block);
  hash_block_size = Some (decimal v.tree.hash_block);
  data_blocks = Some (decimal v.blocks);
  salt = Some (salt_text v.tree.salt);
  uuid = if superblock then Some (uuid_text v.uuid) else None;
  hash_offset = Some (decimal offset);
  root = None;
  no_superblock = not superblock;
  same_file = same_file;
}

-- the report whose values are the texts of these options, with `-` in place of a UUID that isn't there
abbrev pub report_of_options : List ℕ → OptionTexts → Option (List ℕ) → List ℕ
report_of_options path texts root = title path
    ++ report_line (codes "UUID:") (unwrap_or texts.uuid no_uuid_text)
    ++ report_line (codes "Hash type:") (unwrap_or texts.format [])
    ++ report_line (codes "Data blocks:") (unwrap_or texts.data_blocks [])
    ++ report_line (codes "Data block size:") (unwrap_or texts.data_block_size [])
    ++ report_line (codes "Hash block size:") (unwrap_or texts.hash_block_size [])
    ++ report_line (codes "Hash algorithm:") (unwrap_or texts.hash [])
    ++ report_line (codes "Salt:") (unwrap_or texts.salt [])
    ++ root_line root

-- settings without a root hash; without a superblock with no UUID
abbrev pub without_root : SettingsFields → SettingsFields
without_root s = record {
  hash_type = s.hash_type;
  uuid = superblock_uuid s.superblock s.uuid;
  offset = s.offset;
  superblock = s.superblock;
  plan = s.plan;
  root = None;
}

-- options of format, given to verify: with this number of data blocks, the salt that the report prints, and the text of
-- a root hash, and without a UUID, which verify doesn't take. Verify reads them without a superblock, and doesn't ask
-- whether data and hash area are in one file
abbrev pub verify_options : OptionTexts → Option (List ℕ) → List ℕ → List ℕ → OptionTexts
verify_options texts blocks salt root = record {
  hash = texts.hash;
  format = texts.format;
  data_block_size = texts.data_block_size;
  hash_block_size = texts.hash_block_size;
  data_blocks = blocks;
  salt = Some (salt_text salt);
  uuid = None;
  hash_offset = texts.hash_offset;
  root = Some root;
  no_superblock = texts.no_superblock;
  same_file = false;
}
