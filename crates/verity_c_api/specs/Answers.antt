-- What each call of the library for C answers: its status, and what it leaves in what it was handed to fill. A fault leaves
-- that as it was.
use Rattle.std.specs.Prelude.{◌≡◌, ℕ, ℤ, ◌+◌, ◌*◌, ◌/◌, ◌^◌, ◌==◌, List, [], length, nat_le, not, Option, Some, None, Result, Ok, Err, if◌then◌else◌}
use Rattle.verity_format.specs.{Descriptors.{DescriptorFields, descriptor_bytes, digest_of_file}, CheckedSuperblocks.superblock_of}
use Rattle.verity_format.specs.{Superblocks.{IsSuperblock, SuperblockFields, superblock_bytes}, declared.super_fault.SuperFault.SuperFault}
use Rattle.verity_pass.specs.{declared.path.PathFault.{TheVariants.DiffersAt, PathFault}, Links.{checked_link, checked_top}, Paths.ChecksBlock}
use Rattle.verity_plan.specs.{Plans.{PlanFields, end_place_of, start_byte_of, superblock_size}, PlanCounts.{level_count_of, level_size_of}}
use Rattle.{verity_plan.specs.Settings.{TreeSettingsFields, digest_len, fan}, verity_c_api.specs.Parameters.{default_params, parameters_of, plan_of}}
use Rattle.verity_c_api.specs.{Statuses.{done, fault_of_superblock, fault_status, link_status, path_status}, declared.fault.Fault.Fault}
use Rattle.verity_c_api.specs.declared.{fault.Fault.TheVariants.{Index, Level, Length, Root}, parameters.VerityParams.VerityParams}

-- what a number or a buffer becomes by a value or a fault
abbrev pub value_or : {A : Type 0} → A → Result A Fault → A
value_or before (Ok value) = value
value_or before (Err _) = before

-- parameters that make a plan
abbrev pub if_planned : Result PlanFields Fault → VerityParams → Result VerityParams Fault
if_planned (Err fault) params = Err fault
if_planned (Ok p) params = Ok params

-- the parameters of a tree over so many data blocks for which nothing is chosen
abbrev pub default_params_in : ℕ → Result VerityParams Fault
default_params_in blocks = if_planned (plan_of (default_params blocks)) (default_params blocks)

-- a number that a plan has
abbrev pub number_in : Result PlanFields Fault → (PlanFields → ℕ) → Result ℕ Fault
number_in (Err fault) number = Err fault
number_in (Ok p) number = Ok (number p)

-- the plan, if it has this level
abbrev pub with_level : Result PlanFields Fault → ℕ → Result PlanFields Fault
with_level (Err fault) level = Err fault
with_level (Ok p) level = if nat_le (level_count_of p) level then Err Level else Ok p

-- the plan, if it has this data block and this level
abbrev pub with_block : Result PlanFields Fault → ℕ → ℕ → Result PlanFields Fault
with_block (Err fault) i level = Err fault
with_block (Ok p) i level = if nat_le p.blocks i then Err Index else with_level (Ok p) level

-- the number of levels of a plan
abbrev pub level_count_in : Result PlanFields Fault → Result ℕ Fault
level_count_in plan = number_in plan level_count_of

-- the byte at which a plan's hash area ends, after all hash blocks
abbrev pub hash_area_end_in : Result PlanFields Fault → Result ℕ Fault
hash_area_end_in plan = number_in plan (λ p. end_place_of p * p.settings.hash_block)

-- where a level begins, in bytes, and how many hash blocks it has
abbrev pub level_start_in : Result PlanFields Fault → ℕ → Result ℕ Fault
level_start_in plan level = number_in (with_level plan level) (λ p. start_byte_of p level 0)

abbrev pub level_blocks_in : Result PlanFields Fault → ℕ → Result ℕ Fault
level_blocks_in plan level = number_in (with_level plan level) (λ p. level_size_of p level)

-- the byte at which the hash block of a level stands that is above data block i
abbrev pub hash_block_start_in : Result PlanFields Fault → ℕ → ℕ → Result ℕ Fault
hash_block_start_in plan i level =
    number_in (with_block plan i level) (λ p. start_byte_of p level (i / fan p.settings ^ (level + 1)))

-- the status of a block that is checked by the hash block above it
abbrev pub link_status_in : Result PlanFields Fault → ℕ → ℕ → List ℕ → List ℕ → ℤ
link_status_in (Err fault) i level block above = fault_status fault
link_status_in (Ok p) i level block above = link_status (checked_link p i level block above)

-- the plan, if the root hash is as long as its digests
abbrev pub with_root : Result PlanFields Fault → List ℕ → Result PlanFields Fault
with_root (Err fault) root = Err fault
with_root (Ok p) root = if length root == digest_len p.settings then Ok p else Err Root

-- the status of a top block that is checked by the root hash
abbrev pub top_status_in : Result PlanFields Fault → ℕ → List ℕ → List ℕ → ℤ
top_status_in (Err fault) i block root = fault_status fault
top_status_in (Ok p) i block root = link_status (checked_top p i block root)

-- what the number of a level becomes: the lowest that differs, if one does
abbrev pub level_or : ℕ → Result Unit PathFault → ℕ
level_or before (Err (DiffersAt level)) = level
level_or before _ = before

-- the status of a data block that is checked by its path, and what the level becomes
pub record AnswersPath (p : PlanFields) (i : ℕ) (block path root : List ℕ) (status : ℤ) (before after : ℕ) : Type 0 where
  pub answer : Result Unit PathFault
  pub checked : ChecksBlock p i block path root answer
  pub status_is : status ≡ path_status answer
  pub level_is : after ≡ level_or before answer

pub record AnswersFault (fault : Fault) (status : ℤ) (before after : ℕ) : Type 0 where
  pub status_is : status ≡ fault_status fault
  pub level_is : after ≡ before

abbrev pub AnswersBlock : Result PlanFields Fault → ℕ → List ℕ → List ℕ → List ℕ → ℤ → ℕ → ℕ → Type 0
AnswersBlock (Err fault) i block path root status before after = AnswersFault fault status before after
AnswersBlock (Ok p) i block path root status before after = AnswersPath p i block path root status before after

-- the status of bytes that are read as a superblock
abbrev pub superblock_status : Option SuperFault → ℤ
superblock_status None = done
superblock_status (Some fault) = fault_status (fault_of_superblock fault)

-- what the parameters become by these bytes: those of the superblock at this hash offset
pub record AreRead (bytes : List ℕ) (offset : ℕ) (after : VerityParams) : Type 0 where
  pub superblock : SuperblockFields
  pub said : IsSuperblock bytes superblock
  pub parameters : after ≡ parameters_of superblock offset

abbrev pub ReadsParameters : Option SuperFault → List ℕ → ℕ → VerityParams → VerityParams → Type 0
ReadsParameters None bytes offset before after = AreRead bytes offset after
ReadsParameters (Some _) bytes offset before after = after ≡ before

-- the bytes of a superblock; parameters that make a plan always have one
abbrev pub written : Option SuperblockFields → List ℕ
written None = []
written (Some superblock) = superblock_bytes superblock

-- the bytes of the superblock of a plan's tree with this UUID, if there is room for just them
abbrev pub superblock_in : Result PlanFields Fault → List ℕ → ℕ → Result (List ℕ) Fault
superblock_in (Err fault) uuid room = Err fault
superblock_in (Ok p) uuid room =
    if room == superblock_size then Ok (written (superblock_of p.settings uuid p.blocks)) else Err Length

-- the descriptor of a file with these settings, this size and this root hash, if that is as long as its digests
abbrev pub descriptor_in : Result TreeSettingsFields Fault → ℕ → List ℕ → Result DescriptorFields Fault
descriptor_in (Err fault) size root = Err fault
descriptor_in (Ok tree) size root = if length root == digest_len tree
    then Ok (record { tree = tree; size = size; root = root }) else Err Root

-- its bytes, if there is room for just them
abbrev pub descriptor_bytes_in : Result DescriptorFields Fault → ℕ → Result (List ℕ) Fault
descriptor_bytes_in (Err fault) room = Err fault
descriptor_bytes_in (Ok descriptor) room = if room == 256 then Ok (descriptor_bytes descriptor) else Err Length

-- the digest of a file with these settings, this size and this root hash, if there is room for just it
abbrev pub file_digest_in : Result TreeSettingsFields Fault → ℕ → List ℕ → ℕ → Result (List ℕ) Fault
file_digest_in (Err fault) size root room = Err fault
file_digest_in (Ok tree) size root room = if not (length root == digest_len tree) then Err Root
    else (if not (room == digest_len tree) then Err Length
    else Ok (digest_of_file (record { tree = tree; size = size; root = root })))
