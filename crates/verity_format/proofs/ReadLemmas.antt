-- Reading a superblock: which test fails first, and what is made of the parts that pass.
use Rattle.std.proofs.Common.{◌≡◌, ℕ, ◌*◌, ◌<◌, ◌≤◌, ◌&&◌, Bool, true, false, List, [], ◌∷◌, ◌++◌, length, Option, Some, None, Ok, if◌then◌else◌}
use Rattle.{verity_hash.specs.declared.algorithm.Algorithm.Algorithm, verity_io.specs.Writing.most_bytes, std.proofs.lemmas.Bool.Decides.nat_tests}
use Rattle.verity_plan.specs.{Settings.{TreeSettingsFields, IsValid, rule_of}, declared.hash_type.HashType.TheVariants.{Original, Current}}
use Rattle.verity_plan.specs.{CheckedSettings.{is_verity_block_size, verity_settings, type_of_number}, declared.hash_type.HashType.HashType}
use Rattle.verity_format.specs.Superblocks.{SuperblockFields, field, number_at, until_zero, IsSuperblock, signature}
use Rattle.verity_format.specs.CheckedSuperblocks.{superblock_of, superblock_of_type, hash_type_of, superblock_fault, first_failed}
use Rattle.verity_format.specs.{SuperblockSteps.{AreSettings, blocks_tests, type_tests, settings_tests}, declared.super_fault.SuperFault.SuperFault}
use Rattle.{verity_format.proofs.NameLemmas.{named-is, numbered-is}, std.proofs.Common.{nat_le, nat_lt, take, arith, sym, ap, ◌∙◌, refl, subst}}

-- if these tests pass, those after them decide
first_failed-passed : (xs ys : List (Bool × SuperFault)) → first_failed xs ≡ None
    → first_failed (xs ++ ys) ≡ first_failed ys
first_failed-passed [] ys passed = refl
first_failed-passed ((true, fault) ∷ xs) ys passed = first_failed-passed xs ys passed
first_failed-passed ((false, fault) ∷ xs) ys passed = cc

-- a test that fails decides
first_failed-found : (xs ys : List (Bool × SuperFault)) (fault : SuperFault) → first_failed xs ≡ Some fault
    → first_failed (xs ++ ys) ≡ Some fault
first_failed-found [] ys fault found = cc
first_failed-found ((true, other) ∷ xs) ys fault found = first_failed-found xs ys fault found
first_failed-found ((false, other) ∷ xs) ys fault found = found

-- the header passes, and the settings do not
pub superblock_fault-settings : (s : List ℕ) (fault : SuperFault) → first_failed (type_tests s) ≡ None
    → first_failed (settings_tests s) ≡ Some fault
    → superblock_fault s ≡ Some fault
superblock_fault-settings s fault header found =
    first_failed-found (type_tests s ++ settings_tests s) (blocks_tests s) fault
    (first_failed-passed (type_tests s) (settings_tests s) header ∙ found)

-- the header and the settings pass
pub superblock_fault-blocks : (s : List ℕ) → first_failed (type_tests s) ≡ None → first_failed (settings_tests s) ≡ None
    → superblock_fault s ≡ first_failed (blocks_tests s)
superblock_fault-blocks s header settings =
    first_failed-passed (type_tests s ++ settings_tests s) (blocks_tests s)
    (first_failed-passed (type_tests s) (settings_tests s) header ∙ settings)

-- parts within dm-verity's limits make settings
pub verity_settings-ok : (algorithm : Algorithm) (hash_type : HashType) (salt : List ℕ) (data_block hash_block : ℕ)
    → is_verity_block_size data_block ≡ true → is_verity_block_size hash_block ≡ true → length salt ≤ 256
    → verity_settings algorithm hash_type salt data_block hash_block
    ≡ Ok (record {
      algorithm = algorithm;
      rule = rule_of hash_type;
      salt = salt;
      data_block = data_block;
      hash_block = hash_block;
    })
verity_settings-ok algorithm Original salt data_block hash_block sized hash_sized short =
    let fits : nat_lt 256 (length salt) ≡ false = grind (arith, nat_tests, short) in
    rw (sized, hash_sized, fits) refl
verity_settings-ok algorithm Current salt data_block hash_block sized hash_sized short =
    let fits : nat_lt 256 (length salt) ≡ false = grind (arith, nat_tests, short) in
    rw (sized, hash_sized, fits) refl

-- such settings are valid
pub IsValid-verity : (algorithm : Algorithm) (hash_type : HashType) (salt : List ℕ) (data_block hash_block : ℕ)
    → is_verity_block_size data_block ≡ true → is_verity_block_size hash_block ≡ true → length salt ≤ 256
    → IsValid (record {
      algorithm = algorithm;
      rule = rule_of hash_type;
      salt = salt;
      data_block = data_block;
      hash_block = hash_block;
    })
IsValid-verity algorithm Original salt data_block hash_block sized hash_sized short =
    record {
      data_block_size = sized;
      hash_block_size = hash_sized;
      salt_most = short;
      one_size = λ other. cc;
      known = λ other. cc;
    }
IsValid-verity algorithm Current salt data_block hash_block sized hash_sized short =
    record {
      data_block_size = sized;
      hash_block_size = hash_sized;
      salt_most = short;
      one_size = λ other. cc;
      known = λ other. cc;
    }

-- the type of a type's rule
pub hash_type_of-rule_of : (hash_type : HashType) → hash_type_of (rule_of hash_type) ≡ Some hash_type
hash_type_of-rule_of Original = refl
hash_type_of-rule_of Current = refl

choice-some : {A : Type 0} (test : Bool) (x y : A) → (if test then Some x else None) ≡ Some y → (test ≡ true) × (x ≡ y)
choice-some true x y h = (refl, cc)
choice-some false x y h = cc

choice-none : {A : Type 0} (test : Bool) (x : A) → (if test then Some x else None) ≡ None → test ≡ false
choice-none true x h = cc
choice-none false x h = refl

typed : (hash_type : HashType) (tree : TreeSettingsFields) (uuid : List ℕ) (blocks : ℕ) → tree.rule ≡ rule_of hash_type
    → superblock_of tree uuid blocks ≡ superblock_of_type (Some hash_type) tree uuid blocks
typed hash_type tree uuid blocks rule =
    ap (λ (t : Option HashType). superblock_of_type t tree uuid blocks) (ap hash_type_of rule ∙ hash_type_of-rule_of hash_type)

-- what a new superblock is
pub superblock_of-some : (hash_type : HashType) (tree : TreeSettingsFields) (uuid : List ℕ) (blocks : ℕ) (v : SuperblockFields)
    → tree.rule ≡ rule_of hash_type → superblock_of tree uuid blocks ≡ Some v
    → (record { hash_type = hash_type; tree = tree; uuid = uuid; blocks = blocks } ≡ v) × (0 < blocks)
    × (blocks * tree.data_block ≤ most_bytes)
superblock_of-some hash_type tree uuid blocks v rule made =
    let both = choice-some (nat_lt 0 blocks && nat_le (blocks * tree.data_block) most_bytes) _ v
    (sym (typed hash_type tree uuid blocks rule) ∙ made) in
    let test = both.0 in
    (both.1, grind (arith, nat_tests, test), grind (arith, nat_tests, test))

-- bytes whose parts make a superblock say it
pub IsSuperblock-made : (s : List ℕ) (hash_type : HashType) (tree : TreeSettingsFields) (uuid : List ℕ) (blocks : ℕ)
    (v : SuperblockFields)
    → IsValid tree → tree.rule ≡ rule_of hash_type → length uuid ≡ 16 → superblock_of tree uuid blocks ≡ Some v
    → 512 ≤ length s → take 8 s ≡ signature → number_at 8 4 s ≡ 1 → type_of_number (number_at 12 4 s) ≡ Some hash_type
    → field 16 16 s ≡ uuid → AreSettings s tree → number_at 72 8 s ≡ blocks → IsSuperblock s v
IsSuperblock-made s hash_type tree uuid blocks v valid rule sixteen made long signed version typed_as identity settings
    counted =
    let all = superblock_of-some hash_type tree uuid blocks v rule made in
    let P : SuperblockFields → Type 0 = λ w. IsSuperblock s w in
    subst P all.0 (record {
      long = long;
      signed = signed;
      version = version;
      hash_type = numbered-is (number_at 12 4 s) hash_type typed_as;
      uuid = identity;
      algorithm = named-is (until_zero (field 32 32 s)) tree.algorithm settings.name;
      data_block = settings.data_block;
      hash_block = settings.hash_block;
      blocks = counted;
      salt_size = settings.salt_size;
      salt = settings.salt;
      valid = record { tree = valid; of_type = rule; uuid = sixteen; some = all.1; within = all.2 };
    })

-- settings with a type and some blocks make no superblock: there is too much data
pub superblock_of-none : (hash_type : HashType) (tree : TreeSettingsFields) (uuid : List ℕ) (blocks : ℕ)
    → tree.rule ≡ rule_of hash_type → 0 < blocks → superblock_of tree uuid blocks ≡ None
    → nat_le (blocks * tree.data_block) most_bytes ≡ false
superblock_of-none hash_type tree uuid blocks rule some made =
    let test = choice-none (nat_lt 0 blocks && nat_le (blocks * tree.data_block) most_bytes) _
    (sym (typed hash_type tree uuid blocks rule) ∙ made) in
    let first : nat_lt 0 blocks ≡ true = grind (arith, nat_tests, some) in
    rw first at test
