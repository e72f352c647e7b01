-- What parameters that make settings and a plan say.
use Rattle.std.proofs.Common.{◌≡◌, ℕ, ◌≤◌, Bool, true, false, take, length, Option, Some, None, Result, Ok, Err, IfOk, if◌then◌else◌, nat_le, arith}
use Rattle.std.{proofs.{Common.{ap, refl, sym, subst, ◌∙◌}, lemmas.Bool.Decides.nat_tests}, specs.Prelude.{◌==◌, not, nat_lt}}
use Rattle.verity_plan.{proofs.PlanLemmas.{IsPlan-checked_plan, IsPlan-plan_from, planned_is}, specs.declared.hash_type.HashType.HashType}
use Rattle.verity_plan.specs.Plans.{IsPlan, PlanFields, base_of, checked_plan, multiple_of, offset_unit, plan_at, plan_from, plan_of_file}
use Rattle.verity_plan.specs.Settings.{IsValid, TreeSettingsFields, is_block_size, is_of_fsverity, least_block, most_salt, rule_of}
use Rattle.verity_plan.specs.CheckedSettings.{checked_settings, fsverity_settings, type_of_number, verity_settings}
use Rattle.verity_plan.specs.declared.{plan_fault.PlanFault.{TheVariants.{NoData, TooLarge}, PlanFault}, setting_fault.SettingFault.SettingFault}
use Rattle.verity_plan.specs.declared.{setting_fault.SettingFault.TheVariants.SaltSize, hash_type.HashType.TheVariants.{Current, Original}}
use Rattle.verity_hash.specs.{Hashing.digest_len_of, declared.{algorithm.Algorithm.Algorithm, salting.SaltRule.TheVariants.PaddedBefore}}
use Rattle.verity_c_api.specs.Parameters.{algorithm_of, fsverity_plan_by, fsverity_plan_of, fsverity_tree_by, fsverity_tree_of, if_salt_fits, plan_by}
use Rattle.verity_c_api.specs.{Parameters.{plan_if, plan_of, planned, tree_by, tree_of}, declared.fault.Fault.Fault}
use Rattle.verity_c_api.specs.declared.parameters.{FsverityParams.FsverityParams, VerityParams.VerityParams}
use Rattle.verity_plan.specs.declared.setting_fault.SettingFault.TheVariants.{Algorithm as OtherAlgorithm, DataBlockSize, HashBlockSize}
use Rattle.verity_c_api.specs.declared.fault.Fault.TheVariants as fault

-- a result has one value
pub one_value : {A : Type 0} → (r : Result A Fault) (x y : A) → r ≡ Ok x → r ≡ Ok y → x ≡ y
one_value r x y is also = cc

-- what holds of a plan that is made
pub of_plan : (made : Result PlanFields Fault) (p : PlanFields) (holds : PlanFields → Type 0) → made ≡ Ok p
    → IfOk made holds → holds p
of_plan made p holds is fact = rw is at fact

-- settings that pass their tests are those that were asked for
pub settings_are : (asked tree : TreeSettingsFields) → checked_settings asked ≡ Ok tree → tree ≡ asked
settings_are asked tree made =
    by_tests (not (is_block_size (least_block asked.rule (digest_len_of asked.algorithm)) asked.data_block))
    (not (is_block_size (least_block asked.rule (digest_len_of asked.algorithm)) asked.hash_block))
    (nat_lt (most_salt asked.rule) (length asked.salt))
    made
  where
    by_tests : (data_block_size hash_block_size salt_size : Bool)
        → (if data_block_size then Err DataBlockSize
        else (if hash_block_size then Err HashBlockSize else (if salt_size then Err SaltSize else Ok asked)))
        ≡ Ok tree
        → tree ≡ asked
    by_tests true hash_block_size salt_size e = absurd cc
    by_tests false true salt_size e = absurd cc
    by_tests false false true e = absurd cc
    by_tests false false false e = cc

-- they are valid, if those of fs-verity have one block size and one of its hash functions
checked-valid : (asked tree : TreeSettingsFields) → checked_settings asked ≡ Ok tree
    → (asked.rule ≡ PaddedBefore → asked.data_block ≡ asked.hash_block)
    → (asked.rule ≡ PaddedBefore → is_of_fsverity asked.algorithm ≡ true) → IsValid asked
checked-valid asked tree made one_size known =
    by_tests (is_block_size (least_block asked.rule (digest_len_of asked.algorithm)) asked.data_block)
    (is_block_size (least_block asked.rule (digest_len_of asked.algorithm)) asked.hash_block)
    (nat_lt (most_salt asked.rule) (length asked.salt))
    refl refl refl made
  where
    by_tests : (data_block_size hash_block_size salt_size : Bool)
        → is_block_size (least_block asked.rule (digest_len_of asked.algorithm)) asked.data_block ≡ data_block_size
        → is_block_size (least_block asked.rule (digest_len_of asked.algorithm)) asked.hash_block ≡ hash_block_size
        → nat_lt (most_salt asked.rule) (length asked.salt) ≡ salt_size
        → (if not data_block_size then Err DataBlockSize
        else (if not hash_block_size then Err HashBlockSize else (if salt_size then Err SaltSize else Ok asked)))
        ≡ Ok tree
        → IsValid asked
    by_tests true true false sized hash_sized salt e = record {
      data_block_size = sized;
      hash_block_size = hash_sized;
      salt_most = grind (arith, nat_tests, salt);
      one_size = one_size;
      known = known;
    }
    by_tests true true true sized hash_sized salt e = absurd cc
    by_tests true false salt_size sized hash_sized salt e = absurd cc
    by_tests false hash_block_size salt_size sized hash_sized salt e = absurd cc

abbrev checked : TreeSettingsFields → Result TreeSettingsFields SettingFault
checked tree = Ok tree

-- settings whose salt fits, and that it fits
if_salt_fits-both : (made : Result TreeSettingsFields SettingFault) (size most : ℕ) (tree : TreeSettingsFields)
    → if_salt_fits made size most ≡ Ok tree → (made ≡ Ok tree) × (nat_le size most ≡ true)
if_salt_fits-both (Err fault) size most tree e = absurd cc
if_salt_fits-both (Ok asked) size most tree e = by_test (nat_le size most) refl e
  where
    by_test : (fits : Bool) → nat_le size most ≡ fits → (if fits then Ok asked else Err fault.SaltSize) ≡ Ok tree
        → (checked asked ≡ Ok tree) × (nat_le size most ≡ true)
    by_test true test is = let same : asked ≡ tree = cc in (ap checked same, test)
    by_test false test is = absurd cc

-- what parameters of dm-verity say that make settings
pub record AreMadeBy (params : VerityParams) (tree : TreeSettingsFields) : Type 0 where
  pub algorithm : Algorithm
  pub hash_type : HashType
  pub numbered : algorithm_of params.hash_algorithm ≡ Some algorithm
  pub typed : type_of_number params.hash_type ≡ Some hash_type
  pub fits : nat_le params.salt_size 256 ≡ true
  pub made : verity_settings algorithm hash_type (take params.salt_size params.salt) params.data_block_size
      params.hash_block_size
      ≡ Ok tree

tree_by-made : (algorithm : Option Algorithm) (hash_type : Option HashType) (params : VerityParams)
    (tree : TreeSettingsFields)
    → algorithm_of params.hash_algorithm ≡ algorithm → type_of_number params.hash_type ≡ hash_type
    → tree_by algorithm hash_type params ≡ Ok tree → AreMadeBy params tree
tree_by-made None hash_type params tree numbered typed made = absurd cc
tree_by-made (Some algorithm) None params tree numbered typed made = absurd cc
tree_by-made (Some algorithm) (Some hash_type) params tree numbered typed made =
    let both = if_salt_fits-both _ _ _ tree made in
    record {
      algorithm = algorithm;
      hash_type = hash_type;
      numbered = numbered;
      typed = typed;
      fits = both.1;
      made = both.0;
    }

pub tree-made : (params : VerityParams) (tree : TreeSettingsFields) → tree_of params ≡ Ok tree → AreMadeBy params tree
tree-made params tree made =
    tree_by-made (algorithm_of params.hash_algorithm) (type_of_number params.hash_type) params tree refl refl made

-- their rule is that of the hash type
pub made-rule : (params : VerityParams) (tree : TreeSettingsFields) (made : AreMadeBy params tree)
    → tree.rule ≡ rule_of made.hash_type
made-rule params tree made = ap (λ (s : TreeSettingsFields). s.rule) (settings_are _ tree made.made)

-- they are valid
valid_of_type : (asked tree : TreeSettingsFields) (hash_type : HashType) → asked.rule ≡ rule_of hash_type
    → checked_settings asked ≡ Ok tree → IsValid asked
valid_of_type asked tree Original of_type made =
    checked-valid asked tree made (λ padded. absurd cc) (λ padded. absurd cc)
valid_of_type asked tree Current of_type made =
    checked-valid asked tree made (λ padded. absurd cc) (λ padded. absurd cc)

pub made-valid : (params : VerityParams) (tree : TreeSettingsFields) → AreMadeBy params tree → IsValid tree
made-valid params tree made =
    subst (λ (s : TreeSettingsFields). IsValid s) (sym (settings_are _ tree made.made))
    (valid_of_type _ tree made.hash_type refl made.made)

-- their block sizes are those of the parameters, and their data blocks have at least 512 bytes
pub made-hash_block : (params : VerityParams) (tree : TreeSettingsFields) → AreMadeBy params tree
    → tree.hash_block ≡ params.hash_block_size
made-hash_block params tree made = ap (λ (s : TreeSettingsFields). s.hash_block) (settings_are _ tree made.made)

least_of_type : (tree : TreeSettingsFields) (hash_type : HashType) → tree.rule ≡ rule_of hash_type → IsValid tree
    → 512 ≤ tree.data_block
least_of_type tree Original of_type valid =
    let size = rw of_type at valid.data_block_size in grind (arith, nat_tests, size)
least_of_type tree Current of_type valid =
    let size = rw of_type at valid.data_block_size in grind (arith, nat_tests, size)

pub made-data_least : (params : VerityParams) (tree : TreeSettingsFields) → AreMadeBy params tree
    → 512 ≤ tree.data_block
made-data_least params tree made =
    least_of_type tree made.hash_type (made-rule params tree made) (made-valid params tree made)

-- a plan's settings and blocks are those that it was made of
plan_from-is : (tree : TreeSettingsFields) (blocks : ℕ) (base : Option ℕ) (p : PlanFields)
    → plan_from tree blocks base ≡ Ok p → (p.settings ≡ tree) × (p.blocks ≡ blocks)
plan_from-is tree blocks (Some base) p made =
    let same = planned_is _ p (sym made) in
    (ap (λ (q : PlanFields). q.settings) same, ap (λ (q : PlanFields). q.blocks) same)
plan_from-is tree blocks None p made = by_test (blocks == 0) made
  where
    by_test : (none : Bool) → (if none then Err NoData else Err TooLarge) ≡ Ok p
        → (p.settings ≡ tree) × (p.blocks ≡ blocks)
    by_test true e = absurd cc
    by_test false e = absurd cc

pub planned-ok : (made : Result PlanFields PlanFault) (p : PlanFields) → planned made ≡ Ok p → made ≡ Ok p
planned-ok (Ok q) p e = cc
planned-ok (Err fault) p e = absurd cc

plan_if-is : (offset : Option ℕ) (tree : TreeSettingsFields) (params : VerityParams) (p : PlanFields)
    → plan_if offset tree params ≡ Ok p → (p.settings ≡ tree) × (p.blocks ≡ params.data_blocks)
plan_if-is None tree params p made = absurd cc
plan_if-is (Some offset) tree params p made =
    plan_from-is tree params.data_blocks (base_of offset (params.no_superblock == 0) tree.hash_block) p
    (planned-ok (plan_at tree params.data_blocks offset (params.no_superblock == 0)) p made)

plan_by-is : (tree : Result TreeSettingsFields Fault) (params : VerityParams) (p : PlanFields)
    → plan_by tree params ≡ Ok p → (tree ≡ Ok p.settings) × (p.blocks ≡ params.data_blocks)
plan_by-is (Err fault) params p made = absurd cc
plan_by-is (Ok tree) params p made =
    let offset = multiple_of (offset_unit (params.no_superblock == 0) tree.hash_block) params.hash_offset in
    let same = plan_if-is offset tree params p made in
    (ap (λ (s : TreeSettingsFields). Ok s) (sym same.0), same.1)

-- a plan that parameters make can be carried out
plan_if-planned : (offset : Option ℕ) (tree : TreeSettingsFields) (params : VerityParams) (p : PlanFields)
    → IsValid tree
    → plan_if offset tree params ≡ Ok p → IsPlan p
plan_if-planned None tree params p valid made = absurd cc
plan_if-planned (Some offset) tree params p valid made =
    IsPlan-plan_from tree params.data_blocks (base_of offset (params.no_superblock == 0) tree.hash_block) p valid
    (planned-ok (plan_at tree params.data_blocks offset (params.no_superblock == 0)) p made)

plan_by-planned : (tree : Result TreeSettingsFields Fault) (params : VerityParams) (p : PlanFields)
    → ((s : TreeSettingsFields) → tree ≡ Ok s → IsValid s) → plan_by tree params ≡ Ok p → IsPlan p
plan_by-planned (Err fault) params p valid made = absurd cc
plan_by-planned (Ok tree) params p valid made =
    plan_if-planned (multiple_of (offset_unit (params.no_superblock == 0) tree.hash_block) params.hash_offset) tree
    params p (valid tree refl) made

-- what parameters of dm-verity say that make a plan
pub record MakesPlan (params : VerityParams) (p : PlanFields) : Type 0 where
  pub settings : AreMadeBy params p.settings
  pub tree : tree_of params ≡ Ok p.settings
  pub blocks : p.blocks ≡ params.data_blocks
  pub planned : IsPlan p

pub plan-made : (params : VerityParams) (p : PlanFields) → plan_of params ≡ Ok p → MakesPlan params p
plan-made params p made =
    let same = plan_by-is (tree_of params) params p made in
    record {
      settings = tree-made params p.settings same.0;
      tree = same.0;
      blocks = same.1;
      planned = plan_by-planned (tree_of params) params p
          (λ s is. made-valid params s (tree-made params s is)) made;
    }

-- what parameters of fs-verity say that make settings
fsverity-asked : Algorithm → FsverityParams → TreeSettingsFields
fsverity-asked algorithm params = record {
  algorithm = algorithm;
  rule = PaddedBefore;
  salt = take params.salt_size params.salt;
  data_block = params.block_size;
  hash_block = params.block_size;
}

pub record AreFileSettings (params : FsverityParams) (tree : TreeSettingsFields) : Type 0 where
  pub valid : IsValid tree
  pub rule : tree.rule ≡ PaddedBefore
  pub data_block : tree.data_block ≡ params.block_size
  pub hash_block : tree.hash_block ≡ params.block_size

fsverity-checked : (algorithm : Algorithm) (params : FsverityParams) (tree : TreeSettingsFields)
    → fsverity_settings algorithm (take params.salt_size params.salt) params.block_size ≡ Ok tree
    → AreFileSettings params tree
unfolding fsverity-asked
fsverity-checked algorithm params tree made = by_test (is_of_fsverity algorithm) refl made
  where
    by_test : (known : Bool) → is_of_fsverity algorithm ≡ known
        → (if not known then Err OtherAlgorithm else checked_settings (fsverity-asked algorithm params)) ≡ Ok tree
        → AreFileSettings params tree
    by_test false known e = absurd cc
    by_test true known e =
        let is : tree ≡ fsverity-asked algorithm params = settings_are (fsverity-asked algorithm params) tree e in
        record {
          valid = subst (λ (s : TreeSettingsFields). IsValid s) (sym is)
              (checked-valid (fsverity-asked algorithm params) tree e (λ padded. refl) (λ padded. known));
          rule = ap (λ (s : TreeSettingsFields). s.rule) is;
          data_block = ap (λ (s : TreeSettingsFields). s.data_block) is;
          hash_block = ap (λ (s : TreeSettingsFields). s.hash_block) is;
        }

fsverity_tree_by-made : (algorithm : Option Algorithm) (params : FsverityParams) (tree : TreeSettingsFields)
    → fsverity_tree_by algorithm params ≡ Ok tree → AreFileSettings params tree
fsverity_tree_by-made None params tree made = absurd cc
fsverity_tree_by-made (Some algorithm) params tree made =
    fsverity-checked algorithm params tree (if_salt_fits-both _ _ _ tree made).0

pub file_settings-made : (params : FsverityParams) (tree : TreeSettingsFields) → fsverity_tree_of params ≡ Ok tree
    → AreFileSettings params tree
file_settings-made params tree made = fsverity_tree_by-made (algorithm_of params.hash_algorithm) params tree made

-- a file's settings don't go by its size
tree-sized : (algorithm : Option Algorithm) (params : FsverityParams) (size : ℕ)
    → fsverity_tree_by algorithm (record params { size = size }) ≡ fsverity_tree_by algorithm params
tree-sized None params size = refl
tree-sized (Some algorithm) params size = refl

pub tree_of_sized : (params : FsverityParams) (size : ℕ)
    → fsverity_tree_of (record params { size = size }) ≡ fsverity_tree_of params
tree_of_sized params size = tree-sized (algorithm_of params.hash_algorithm) params size

-- what parameters of fs-verity say that make a plan: it is that of a file
pub record MakesFilePlan (params : FsverityParams) (p : PlanFields) : Type 0 where
  pub tree : fsverity_tree_of params ≡ Ok p.settings
  pub is : p ≡ plan_of_file p.settings params.size
  pub planned : IsPlan p

fsverity_plan_by-made : (made : Result TreeSettingsFields Fault) (params : FsverityParams) (p : PlanFields)
    → fsverity_tree_of params ≡ made → fsverity_plan_by made params.size ≡ Ok p → MakesFilePlan params p
fsverity_plan_by-made (Err fault) params p is e = absurd cc
fsverity_plan_by-made (Ok tree) params p is e =
    let checked = planned-ok (checked_plan (plan_of_file tree params.size)) p e in
    let same : p ≡ plan_of_file tree params.size = planned_is (plan_of_file tree params.size) p (sym checked) in
    let settings : p.settings ≡ tree = ap (λ (q : PlanFields). q.settings) same in
    record {
      tree = is ∙ ap (λ (s : TreeSettingsFields). Ok s) (sym settings);
      is = same ∙ ap (λ (s : TreeSettingsFields). plan_of_file s params.size) (sym settings);
      planned = IsPlan-checked_plan (plan_of_file tree params.size) p checked (file_settings-made params tree is).valid
          refl;
    }

pub file_plan-made : (params : FsverityParams) (p : PlanFields) → fsverity_plan_of params ≡ Ok p
    → MakesFilePlan params p
file_plan-made params p made = fsverity_plan_by-made (fsverity_tree_of params) params p refl made
