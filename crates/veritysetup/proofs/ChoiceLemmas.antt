-- What options choose, step by step.
use Rattle.std.{proofs.Common.{◌≡◌, ℕ, ◌/◌, not, List, Option, Some, None, Result, Ok, Err, ◌∙◌, ap, refl}, specs.Prelude.{ok_or, unwrap_or}}
use Rattle.{command_line.specs.Options.{algorithm_or_default, default_block_size, ◌>>=◌}, verity_hash.specs.declared.algorithm.Algorithm.Algorithm}
use Rattle.verity_plan.specs.{CheckedSettings.type_of_number, Plans.{PlanFields, multiple_of, offset_unit, plan_at}}
use Rattle.verity_plan.specs.{Settings.{TreeSettingsFields, rule_of}, declared.hash_type.HashType.HashType}
use Rattle.veritysetup.specs.Options.{Choices.{accepted_plan, settings_of, tree_of}, OptionTexts.{superblock_uuid, uuid_or_random}}
use Rattle.veritysetup.specs.Options.OptionTexts.{block_size_of, number_if_given, number_option, root_if_given, OptionTexts, salt_or_random}
use Rattle.veritysetup.specs.{Options.Settings.SettingsFields, declared.options.option_fault.OptionFault.OptionFault}
use Rattle.veritysetup.specs.declared.options.option_fault.OptionName.TheVariants.{Format, DataBlockSize, HashBlockSize, DataBlocks, HashOffset}
use Rattle.veritysetup.specs.declared.options.option_fault.OptionFault.TheVariants as option

abbrev pub Chosen : Type 0 → Type 0
Chosen X = Result X OptionFault

abbrev pub chosen : {X : Type 0} → X → Chosen X
chosen x = Ok x

pub step : {X Y : Type 0} (r : Chosen X) (x : X) (next : X → Chosen Y) (y : Chosen Y) → r ≡ chosen x → next x ≡ y
    → (r >>= next) ≡ y
step {X = X} r x next y is rest = ap (λ (q : Chosen X). q >>= next) is ∙ rest

pub unstep : {X Y : Type 0} (r : Chosen X) (next : X → Chosen Y) (y : Y) → (r >>= next) ≡ chosen y
    → (x : X) × ((r ≡ chosen x) × (next x ≡ chosen y))
unstep (Ok x) next y e = (x, (refl, e))
unstep (Err f) next y e = cc

pub one-chosen : {X : Type 0} (x y : X) → chosen x ≡ chosen y → x ≡ y
one-chosen x y e = cc

pub given-chosen : {X : Type 0} (o : Option X) (f : OptionFault) (x : X) → ok_or o f ≡ chosen x → o ≡ Some x
given-chosen (Some y) f x e = cc
given-chosen None f x e = cc

-- the rest of `tree_of`, once each part is known
module _ (algorithm : Algorithm) (hash_type : HashType) where
  abbrev pub tree_with : ℕ → ℕ → List ℕ → Chosen TreeSettingsFields
  tree_with data_block hash_block salt = Ok (record {
    algorithm = algorithm;
    rule = rule_of hash_type;
    salt = salt;
    data_block = data_block;
    hash_block = hash_block;
  })

  abbrev pub tree_by_hash : Option (List ℕ) → ℕ → ℕ → Chosen TreeSettingsFields
  tree_by_hash given data_block hash_block = ok_or given option.BadSalt >>= tree_with data_block hash_block

  abbrev pub tree_by_data : ℕ → Option (List ℕ) → ℕ → Chosen TreeSettingsFields
  tree_by_data hash_block_size given data_block =
      ok_or (block_size_of hash_block_size) (option.BadBlockSize HashBlockSize) >>= tree_by_hash given data_block

-- the rest of `settings_of`, once each choice is known
module _ (texts : OptionTexts) (size : ℕ) (random : Option (List ℕ)) where
  abbrev pub with_root : HashType → List ℕ → ℕ → PlanFields → Option (List ℕ) → Chosen SettingsFields
  with_root hash_type uuid offset plan root = Ok (record {
    hash_type = hash_type;
    uuid = superblock_uuid (not texts.no_superblock) uuid;
    offset = offset;
    superblock = not texts.no_superblock;
    plan = plan;
    root = root;
  })

  abbrev pub with_plan : Algorithm → HashType → List ℕ → ℕ → PlanFields → Chosen SettingsFields
  with_plan algorithm hash_type uuid offset plan =
      ok_or (root_if_given algorithm texts.root) option.BadRoot >>= with_root hash_type uuid offset plan

  abbrev pub with_offset : Algorithm → HashType → TreeSettingsFields → Option ℕ → List ℕ → ℕ → Chosen SettingsFields
  with_offset algorithm hash_type tree blocks uuid offset = accepted_plan texts.same_file offset
      (plan_at tree (unwrap_or blocks (size / tree.data_block)) offset (not texts.no_superblock))
      >>= with_plan algorithm hash_type uuid offset

  abbrev pub with_uuid : Algorithm → HashType → TreeSettingsFields → Option ℕ → ℕ → List ℕ → Chosen SettingsFields
  with_uuid algorithm hash_type tree blocks bytes uuid =
      ok_or (multiple_of (offset_unit (not texts.no_superblock) tree.hash_block) bytes) option.BadHashOffset
      >>= with_offset algorithm hash_type tree blocks uuid

  abbrev pub with_tree : Algorithm → HashType → Option ℕ → ℕ → TreeSettingsFields → Chosen SettingsFields
  with_tree algorithm hash_type blocks bytes tree =
      ok_or (uuid_or_random texts.uuid random) option.BadUuid >>= with_uuid algorithm hash_type tree blocks bytes

  abbrev pub with_type : ℕ → ℕ → Option ℕ → ℕ → Algorithm → HashType → Chosen SettingsFields
  with_type data_block_size hash_block_size blocks bytes algorithm hash_type =
      tree_of algorithm hash_type data_block_size hash_block_size (salt_or_random texts.salt random)
      >>= with_tree algorithm hash_type blocks bytes

  abbrev pub with_algorithm : ℕ → ℕ → ℕ → Option ℕ → ℕ → Algorithm → Chosen SettingsFields
  with_algorithm format data_block_size hash_block_size blocks bytes algorithm =
      ok_or (type_of_number format) option.BadHashType
      >>= with_type data_block_size hash_block_size blocks bytes algorithm

  abbrev pub with_bytes : ℕ → ℕ → ℕ → Option ℕ → ℕ → Chosen SettingsFields
  with_bytes format data_block_size hash_block_size blocks bytes =
      ok_or (algorithm_or_default texts.hash) option.UnknownHash
      >>= with_algorithm format data_block_size hash_block_size blocks bytes

  abbrev pub with_blocks : ℕ → ℕ → ℕ → Option ℕ → Chosen SettingsFields
  with_blocks format data_block_size hash_block_size blocks =
      number_option HashOffset 0 texts.hash_offset >>= with_bytes format data_block_size hash_block_size blocks

  abbrev pub with_hash_block_size : ℕ → ℕ → ℕ → Chosen SettingsFields
  with_hash_block_size format data_block_size hash_block_size =
      ok_or (number_if_given texts.data_blocks) (option.BadNumber DataBlocks)
      >>= with_blocks format data_block_size hash_block_size

  abbrev pub with_data_block_size : ℕ → ℕ → Chosen SettingsFields
  with_data_block_size format data_block_size =
      number_option HashBlockSize default_block_size texts.hash_block_size
      >>= with_hash_block_size format data_block_size

  abbrev pub with_format : ℕ → Chosen SettingsFields
  with_format format =
      number_option DataBlockSize default_block_size texts.data_block_size >>= with_data_block_size format

  -- it is all of it
  by-steps : settings_of texts size random ≡ (number_option Format 1 texts.format >>= with_format)
  by-steps = refl

  -- each choice gives the settings
  pub all-steps : (format data_block_size hash_block_size : ℕ) (blocks : Option ℕ) (bytes : ℕ) (algorithm : Algorithm)
      (hash_type : HashType) (tree : TreeSettingsFields) (uuid : List ℕ) (offset : ℕ) (plan : PlanFields)
      (root : Option (List ℕ)) → number_option Format 1 texts.format ≡ chosen format
      → number_option DataBlockSize default_block_size texts.data_block_size ≡ chosen data_block_size
      → number_option HashBlockSize default_block_size texts.hash_block_size ≡ chosen hash_block_size
      → ok_or (number_if_given texts.data_blocks) (option.BadNumber DataBlocks) ≡ chosen blocks
      → number_option HashOffset 0 texts.hash_offset ≡ chosen bytes
      → ok_or (algorithm_or_default texts.hash) option.UnknownHash ≡ chosen algorithm
      → ok_or (type_of_number format) option.BadHashType ≡ chosen hash_type
      → tree_of algorithm hash_type data_block_size hash_block_size (salt_or_random texts.salt random) ≡ chosen tree
      → ok_or (uuid_or_random texts.uuid random) option.BadUuid ≡ chosen uuid
      → ok_or (multiple_of (offset_unit (not texts.no_superblock) tree.hash_block) bytes) option.BadHashOffset
      ≡ chosen offset
      → accepted_plan texts.same_file offset
      (plan_at tree (unwrap_or blocks (size / tree.data_block)) offset (not texts.no_superblock)) ≡ chosen plan
      → ok_or (root_if_given algorithm texts.root) option.BadRoot ≡ chosen root
      → settings_of texts size random ≡ with_root hash_type uuid offset plan root
  all-steps format data_block_size hash_block_size blocks bytes algorithm hash_type tree uuid offset plan root
      e1 e2 e3 e4 e5 e6 e7 e8 e9 e10 e11 e12 =
      let y = with_root hash_type uuid offset plan root in
      by-steps
      ∙ step (number_option Format 1 texts.format) format with_format y e1
      (step (number_option DataBlockSize default_block_size texts.data_block_size) data_block_size
      (with_data_block_size format) y e2
      (step (number_option HashBlockSize default_block_size texts.hash_block_size) hash_block_size
      (with_hash_block_size format data_block_size) y e3
      (step (ok_or (number_if_given texts.data_blocks) (option.BadNumber DataBlocks)) blocks
      (with_blocks format data_block_size hash_block_size) y e4
      (step (number_option HashOffset 0 texts.hash_offset) bytes
      (with_bytes format data_block_size hash_block_size blocks) y e5
      (step (ok_or (algorithm_or_default texts.hash) option.UnknownHash) algorithm
      (with_algorithm format data_block_size hash_block_size blocks bytes) y e6
      (step (ok_or (type_of_number format) option.BadHashType) hash_type
      (with_type data_block_size hash_block_size blocks bytes algorithm) y e7
      (step (tree_of algorithm hash_type data_block_size hash_block_size (salt_or_random texts.salt random)) tree
      (with_tree algorithm hash_type blocks bytes) y e8
      (step (ok_or (uuid_or_random texts.uuid random) option.BadUuid) uuid
      (with_uuid algorithm hash_type tree blocks bytes) y e9
      (step (ok_or (multiple_of (offset_unit (not texts.no_superblock) tree.hash_block) bytes) option.BadHashOffset)
      offset (with_offset algorithm hash_type tree blocks uuid) y e10
      (step (accepted_plan texts.same_file offset
      (plan_at tree (unwrap_or blocks (size / tree.data_block)) offset (not texts.no_superblock))) plan
      (with_plan algorithm hash_type uuid offset) y e11
      (step (ok_or (root_if_given algorithm texts.root) option.BadRoot) root (with_root hash_type uuid offset plan) y e12
      refl)))))))))))
