-- The settings of a hash device, which the options choose (veritysetup(8), "format", "root_hash"; cryptsetup's on-disk
-- format page). A root hash is written in hexadecimal digits of either case, two for each byte of a digest.
use Rattle.std.specs.Prelude.{ℕ, ◌*◌, ◌%◌, ◌==◌, List, length, Option, None, if◌then◌else◌, ◌≡◌, Bool, Some}
use Rattle.{std.specs.Result.result_ok, hex.specs.Hex.decode_of, verity_hash.specs.{Hashing.digest_len_of, declared.algorithm.Algorithm.Algorithm}}
use Rattle.verity_plan.specs.{Settings.rule_of, Plans.{PlanFields, base_of, offset_unit}, declared.hash_type.HashType.HashType}

-- the bytes that the text of a root hash stands for, if it has two digits for each byte of a digest
abbrev pub read_root : Algorithm → List ℕ → Option (List ℕ)
read_root algorithm text = if length text == 2 * digest_len_of algorithm then result_ok (decode_of text) else None

-- the settings of a hash device: the hash type, the UUID's bytes, the hash offset in bytes, whether a superblock stands
-- there, the tree's plan, and the root hash if one was given
pub record SettingsFields : Type 0 where
  pub hash_type : HashType
  pub uuid : List ℕ
  pub offset : ℕ
  pub superblock : Bool
  pub plan : PlanFields
  pub root : Option (List ℕ)

-- the tree is of the hash type, over whole data blocks, and begins after the superblock at the offset, or without one at
-- the offset. The offset is a multiple of a superblock's size, or without one of a hash block's
pub record PartsAgree (s : SettingsFields) : Type 0 where
  pub of_type : s.plan.settings.rule ≡ rule_of s.hash_type
  pub whole : s.plan.wanted ≡ s.plan.blocks * s.plan.settings.data_block
  pub based : base_of s.offset s.superblock s.plan.settings.hash_block ≡ Some s.plan.base
  pub aligned : s.offset % offset_unit s.superblock s.plan.settings.hash_block ≡ 0
