-- The parameters that are read of a superblock make its plan.
use Rattle.std.proofs.Common.{◌≡◌, ℕ, ◌%◌, ◌≤◌, true, List, ◌++◌, length, take, drop, replicate, arith, ap, refl, sym, ◌∙◌}
use Rattle.std.{proofs.lemmas.{Bool.Decides.nat_tests, List.{drop-replicate, take_at}}, specs.Prelude.{◌-◌, ◌==◌, Some, Result, Ok, nat_le}}
use Rattle.verity_hash.specs.{Hashing.with_zeros, declared.{algorithm.Algorithm.Algorithm, salting.SaltRule.{TheVariants.{Before, After}, SaltRule}}}
use Rattle.verity_hash.specs.declared.algorithm.Algorithm.TheVariants.{Sha256, Sha512, Sha1, Sha224, Sha384}
use Rattle.verity_format.{specs.Superblocks.{IsValidSuperblock, SuperblockFields}, proofs.{NameLemmas.numbered-back, ReadLemmas.verity_settings-ok}}
use Rattle.verity_plan.specs.{Plans.{plan_at, superblock_size}, Settings.{IsValid, TreeSettingsFields, rule_of}, CheckedSettings.verity_settings}
use Rattle.verity_plan.specs.declared.{setting_fault.SettingFault.SettingFault, hash_type.HashType.{HashType, TheVariants.{Original, Current}}}
use Rattle.verity_c_api.specs.Parameters.{algorithm_of, number_of, parameters_of, plan_of, planned, tree_of}

-- a hash function's number is its own
algorithm_of-number_of : (algorithm : Algorithm) → algorithm_of (number_of algorithm) ≡ Some algorithm
algorithm_of-number_of Sha256 = refl
algorithm_of-number_of Sha512 = refl
algorithm_of-number_of Sha1 = refl
algorithm_of-number_of Sha224 = refl
algorithm_of-number_of Sha384 = refl

abbrev settings_with : TreeSettingsFields → SaltRule → Result TreeSettingsFields SettingFault
settings_with tree rule = Ok (record {
  algorithm = tree.algorithm;
  rule = rule;
  salt = tree.salt;
  data_block = tree.data_block;
  hash_block = tree.hash_block;
})

-- settings with their own rule
with-rule : (tree : TreeSettingsFields) (rule : SaltRule) → rule ≡ tree.rule
    → settings_with tree rule ≡ Ok tree
with-rule tree rule is = ap (settings_with tree) is

-- valid settings of a hash type are those of their parts
settings-of_parts : (tree : TreeSettingsFields) (hash_type : HashType) → IsValid tree → tree.rule ≡ rule_of hash_type
    → verity_settings tree.algorithm hash_type tree.salt tree.data_block tree.hash_block ≡ Ok tree
settings-of_parts tree Original valid of_type =
    verity_settings-ok tree.algorithm Original tree.salt tree.data_block tree.hash_block
    (rw of_type at valid.data_block_size)
    (rw of_type at valid.hash_block_size)
    (rw of_type at valid.salt_most)
    ∙ with-rule tree After (sym of_type)
settings-of_parts tree Current valid of_type =
    verity_settings-ok tree.algorithm Current tree.salt tree.data_block tree.hash_block
    (rw of_type at valid.data_block_size)
    (rw of_type at valid.hash_block_size)
    (rw of_type at valid.salt_most)
    ∙ with-rule tree Before (sym of_type)

-- a field of zeros, with a salt written over its front
pub filled : (salt front : List ℕ) → front ≡ salt
    → front ++ drop (length salt) (replicate 256 0) ≡ with_zeros 256 salt
filled salt front same =
    ap (λ (xs : List ℕ). xs ++ drop (length salt) (replicate 256 0)) same
    ∙ ap (λ (xs : List ℕ). salt ++ xs) (drop-replicate (length salt) 256 0)

-- the salt that counts is the salt
salt-read : (salt : List ℕ) → take (length salt) (with_zeros 256 salt) ≡ salt
salt-read salt = take_at salt (replicate (256 - length salt) 0) (length salt) refl

salt-short : (tree : TreeSettingsFields) (hash_type : HashType) → IsValid tree → tree.rule ≡ rule_of hash_type
    → length tree.salt ≤ 256
salt-short tree Original valid of_type = rw of_type at valid.salt_most
salt-short tree Current valid of_type = rw of_type at valid.salt_most

-- the settings that are read
pub tree-read : (v : SuperblockFields) (offset : ℕ) → IsValidSuperblock v → tree_of (parameters_of v offset) ≡ Ok v.tree
tree-read v offset valid =
    let t = v.tree in
    let short : length t.salt ≤ 256 = salt-short t v.hash_type valid.tree valid.of_type in
    let fits : nat_le (length t.salt) 256 ≡ true = grind (arith, nat_tests, short) in
    rw (
      algorithm_of-number_of t.algorithm,
      numbered-back v.hash_type,
      salt-read t.salt,
      settings-of_parts t v.hash_type valid.tree valid.of_type,
      fits,
    ) refl

-- and the plan
pub plan-read : (v : SuperblockFields) (offset : ℕ) → IsValidSuperblock v → offset % superblock_size ≡ 0
    → plan_of (parameters_of v offset) ≡ planned (plan_at v.tree v.blocks offset true)
plan-read v offset valid whole =
    let even : (offset % superblock_size == 0) ≡ true = grind (arith, nat_tests, whole) in
    rw (tree-read v offset valid, even) refl
