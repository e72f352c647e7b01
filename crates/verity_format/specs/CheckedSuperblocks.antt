-- Which settings have a superblock, and the tests by which bytes are one (cryptsetup's on-disk format page, "dm-verity
-- header"). The order of the tests is this project's own.
use Rattle.std.specs.Prelude.{ℕ, ◌==◌, List, length, take, ◌*◌, ◌&&◌, nat_le, nat_lt, Option, Some, None, if◌then◌else◌, Bool, [], ◌∷◌, is_some}
use Rattle.{std.specs.Str.bytes_eq, verity_io.specs.Writing.most_bytes, verity_format.specs.declared.super_fault.SuperFault.SuperFault}
use Rattle.verity_format.specs.Superblocks.{field, number_at, until_zero, SuperblockFields, signature, superblock_version}
use Rattle.verity_hash.specs.{Hashing.algorithm_named, declared.salting.SaltRule.{SaltRule, TheVariants.{Before, After, PaddedBefore}}}
use Rattle.verity_plan.specs.{Settings.{TreeSettingsFields, most_salt}, CheckedSettings.{is_verity_block_size, type_of_number}, Plans.superblock_size}
use Rattle.verity_plan.specs.declared.hash_type.HashType.{HashType, TheVariants.{Original, Current}}
use Rattle.verity_format.specs.declared.super_fault.SuperFault.TheVariants as fault

-- the hash type that puts its salt there; fs-verity's settings have none
abbrev pub hash_type_of : SaltRule → Option HashType
hash_type_of Before = Some Current
hash_type_of After = Some Original
hash_type_of PaddedBefore = None

-- the superblock of a tree over this many data blocks, if there is one
abbrev pub superblock_of_type : Option HashType → TreeSettingsFields → List ℕ → ℕ → Option SuperblockFields
superblock_of_type None tree uuid blocks = None
superblock_of_type (Some hash_type) tree uuid blocks =
    if nat_lt 0 blocks && nat_le (blocks * tree.data_block) most_bytes
    then Some (record { hash_type = hash_type; tree = tree; uuid = uuid; blocks = blocks }) else None

abbrev pub superblock_of : TreeSettingsFields → List ℕ → ℕ → Option SuperblockFields
superblock_of tree uuid blocks = superblock_of_type (hash_type_of tree.rule) tree uuid blocks

-- the tests of a superblock in the order in which they are made, each with the fault of bytes that fail it
abbrev pub superblock_tests : List ℕ → List (Bool × SuperFault)
superblock_tests s = (nat_le superblock_size (length s), fault.Short)
    ∷ (bytes_eq (take 8 s) signature, fault.Signature)
    ∷ (number_at 8 4 s == superblock_version, fault.Version (number_at 8 4 s))
    ∷ (is_some (type_of_number (number_at 12 4 s)), fault.HashType (number_at 12 4 s))
    ∷ (is_verity_block_size (number_at 64 4 s), fault.DataBlockSize (number_at 64 4 s))
    ∷ (is_verity_block_size (number_at 68 4 s), fault.HashBlockSize (number_at 68 4 s))
    ∷ (is_some (algorithm_named (until_zero (field 32 32 s))), fault.Algorithm)
    ∷ (nat_le (number_at 80 2 s) (most_salt Before), fault.SaltSize (number_at 80 2 s))
    ∷ (nat_lt 0 (number_at 72 8 s), fault.NoData)
    ∷ (nat_le (number_at 72 8 s * number_at 64 4 s) most_bytes, fault.TooLarge) ∷ []

-- the fault of the first test that fails
abbrev pub first_failed : List (Bool × SuperFault) → Option SuperFault
first_failed [] = None
first_failed (test ∷ tests) = if test.0 then first_failed tests else Some test.1

-- why the bytes are no superblock
abbrev pub superblock_fault : List ℕ → Option SuperFault
superblock_fault s = first_failed (superblock_tests s)
