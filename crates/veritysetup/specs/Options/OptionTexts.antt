-- What the texts of options stand for, one by one, with the defaults of veritysetup(8).
use Rattle.std.specs.Prelude.{ℕ, Bool, true, false, List, [], replicate, take, drop, codes, Option, Some, None, option_map, if◌then◌else◌, Result}
use Rattle.std.specs.Prelude.{ok_or}
use Rattle.{std.specs.Str.bytes_eq, uuid.specs.Text.parsed, verity_plan.specs.{Settings.most_salt, CheckedSettings.is_verity_block_size}}
use Rattle.verity_hash.specs.declared.{algorithm.Algorithm.Algorithm, salting.SaltRule.TheVariants.Before}
use Rattle.command_line.specs.Options.{number_of, number_or, salt_of}
use Rattle.veritysetup.specs.{Options.{Uuids.random_uuid, Settings.read_root}, declared.options.option_fault.OptionName.OptionName}
use Rattle.veritysetup.specs.declared.options.{option_fault.OptionFault.{OptionFault, TheVariants.BadNumber}, raw_options.RawOptions.RawOptions}

-- the texts of the options, each None if it is not given
pub record OptionTexts : Type 0 where
  pub hash : Option (List ℕ)
  pub format : Option (List ℕ)
  pub data_block_size : Option (List ℕ)
  pub hash_block_size : Option (List ℕ)
  pub data_blocks : Option (List ℕ)
  pub salt : Option (List ℕ)
  pub uuid : Option (List ℕ)
  pub hash_offset : Option (List ℕ)
  pub root : Option (List ℕ)
  pub no_superblock : Bool
  pub same_file : Bool

-- the texts themselves, without the references to them
abbrev pub option_texts : RawOptions → OptionTexts
option_texts raw = record {
  hash = option_map (λ t. t.now) raw.hash;
  format = option_map (λ t. t.now) raw.format;
  data_block_size = option_map (λ t. t.now) raw.data_block_size;
  hash_block_size = option_map (λ t. t.now) raw.hash_block_size;
  data_blocks = option_map (λ t. t.now) raw.data_blocks;
  salt = option_map (λ t. t.now) raw.salt;
  uuid = option_map (λ t. t.now) raw.uuid;
  hash_offset = option_map (λ t. t.now) raw.hash_offset;
  root = option_map (λ t. t.now) raw.root;
  no_superblock = raw.no_superblock;
  same_file = raw.same_file;
}

-- the number of an option, or its default; or that the option is no number
abbrev pub number_option : OptionName → ℕ → Option (List ℕ) → Result ℕ OptionFault
number_option name default text = ok_or (number_or default text) (BadNumber name)

-- the number of a text that may be missing; there is no answer if the text is no number
abbrev pub number_if_given : Option (List ℕ) → Option (Option ℕ)
number_if_given None = Some None
number_if_given (Some text) = option_map (λ number. Some number) (number_of text)

-- a block size of dm-verity
abbrev pub block_size_of : ℕ → Option ℕ
block_size_of number = if is_verity_block_size number then Some number else None

-- a salt, in which `-` means the empty one; by default the first 32 random bytes
abbrev pub salt_or_random : Option (List ℕ) → Option (List ℕ) → Option (List ℕ)
salt_or_random (Some text) random = if bytes_eq text (codes "-") then Some [] else salt_of (most_salt Before) text
salt_or_random None (Some random) = Some (take 32 random)
salt_or_random None None = None

-- what stands for a UUID if there is none
abbrev pub no_uuid : List ℕ
no_uuid = replicate 16 0

-- a UUID; by default that of the 16 random bytes after the salt's, and zeros if there are no random bytes
abbrev pub uuid_or_random : Option (List ℕ) → Option (List ℕ) → Option (List ℕ)
uuid_or_random (Some text) random = parsed text
uuid_or_random None (Some random) = Some (random_uuid (take 16 (drop 32 random)))
uuid_or_random None None = Some no_uuid

-- the UUID of a hash area with a superblock; without one it has none, which is all zeros
abbrev pub superblock_uuid : Bool → List ℕ → List ℕ
superblock_uuid true uuid = uuid
superblock_uuid false uuid = no_uuid

-- the root hash of a text that may be missing; there is no answer if the text is no digest of the algorithm
abbrev pub root_if_given : Algorithm → Option (List ℕ) → Option (Option (List ℕ))
root_if_given algorithm None = Some None
root_if_given algorithm (Some text) = option_map (λ root. Some root) (read_root algorithm text)
