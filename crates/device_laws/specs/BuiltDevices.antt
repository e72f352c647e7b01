-- Hash devices that the library for C builds: the settings of veritysetup that say what its parameters say, the device
-- on which its calls have built a tree, and the superblock that it writes (cryptsetup's on-disk format page, "dm-verity
-- header").
use Rattle.std.specs.Prelude.{◌≡◌, ◌⊎◌, ℕ, ◌==◌, List, [], map, Some, Ok, if◌then◌else◌}
use Rattle.verity_c_api.specs.{Answers.{superblock_in, value_or}, BuildingLoop.{BuildsTree, FeedingCall, Kept, builder_call}, Parameters.plan_of}
use Rattle.verity_c_api.specs.{PartsLoop.{AreWrites, BuildsTreeFromParts, JoinCalls, PartCalls}, declared.parameters.VerityParams.VerityParams}
use Rattle.{verity_io.specs.Writing.put, verity_plan.specs.{CheckedSettings.type_of_number, Plans.{PlanFields, superblock_size}}}
use Rattle.{verity_builders.specs.Feeding.{FeedCall, written_all}, veritysetup.specs.Options.Settings.SettingsFields}

-- the settings say what the parameters say
pub record AreSettingsOf (params : VerityParams) (s : SettingsFields) : Type 0 where
  pub plan_is : plan_of params ≡ Ok s.plan
  pub type_is : type_of_number params.hash_type ≡ Some s.hash_type
  pub uuid_is : s.uuid ≡ params.uuid
  pub offset_is : s.offset ≡ params.hash_offset
  pub superblock_is : s.superblock ≡ (params.no_superblock == 0)

-- the calls of a build have built the tree above these bytes, and each hash block is written where the call said
pub record IsTreeByBuild (params : VerityParams) (p : PlanFields) (bytes before after : List ℕ) : Type 0 where
  pub calls : List FeedingCall
  pub kept : Kept
  pub builds : BuildsTree params p bytes calls kept
  pub written : after ≡ written_all p (map builder_call calls) before

-- the calls of the parts of a level and of their join have built it, and the hash blocks are written in any order, also
-- where a part was given up and built again
pub record IsTreeByParts (params : VerityParams) (p : PlanFields) (bytes before after : List ℕ) : Type 0 where
  pub level : ℕ
  pub parts : ℕ → PartCalls
  pub join : JoinCalls
  pub builds : BuildsTreeFromParts (plan_of params) p level bytes parts join
  pub writes : List FeedCall
  pub all_written : AreWrites p level bytes parts join writes
  pub written : after ≡ written_all p writes before

-- the device after one or the other
abbrev pub IsTreeByCalls : VerityParams → PlanFields → List ℕ → List ℕ → List ℕ → Type 0
IsTreeByCalls params p bytes before after =
    IsTreeByBuild params p bytes before after ⊎ IsTreeByParts params p bytes before after

-- a device with the superblock that verity_write_superblock writes at the hash offset, if the parameters have one
abbrev pub with_superblock_by : VerityParams → List ℕ → List ℕ
with_superblock_by params device = if params.no_superblock == 0
    then put device params.hash_offset (value_or [] (superblock_in (plan_of params) params.uuid superblock_size))
    else device
