-- The statuses of the library for C, by the numbers that verity.h gives them (this project's own).
use Rattle.std.specs.Prelude.{ℕ, ℤ, pos, neg_ℤ, Result, Ok, Err}
use Rattle.{verity_format.specs.declared.super_fault.SuperFault.SuperFault, verity_builders.specs.declared.feed_fault.FeedFault.FeedFault}
use Rattle.verity_plan.specs.declared.{plan_fault.PlanFault.PlanFault, setting_fault.SettingFault.SettingFault}
use Rattle.verity_pass.specs.declared.{link.LinkFault.LinkFault, path.PathFault.PathFault}
use Rattle.verity_c_api.specs.declared.fault.Fault.{Fault, TheVariants.{TooLong, TooShort, Waiting, Part}}
use Rattle.verity_c_api.specs.declared.fault.Fault.TheVariants.{Differs, Index, Level, Length, Root, Algorithm, HashType, DataBlockSize}
use Rattle.verity_c_api.specs.declared.fault.Fault.TheVariants.{HashBlockSize, SaltSize, HashOffset, NoData, TooLarge, Short, Signature, Version}
use Rattle.verity_format.specs.declared.super_fault.SuperFault.TheVariants as superblock
use Rattle.verity_plan.specs.declared.plan_fault.PlanFault.TheVariants as plan
use Rattle.verity_plan.specs.declared.setting_fault.SettingFault.TheVariants as setting
use Rattle.verity_builders.specs.declared.feed_fault.FeedFault.TheVariants as feed
use Rattle.verity_pass.specs.declared.link.LinkFault.TheVariants as link
use Rattle.verity_pass.specs.declared.path.PathFault.TheVariants as path

-- the status of a call that has done what it is for
abbrev pub done : ℤ
done = pos 0

-- the number -n
abbrev pub minus : ℕ → ℤ
minus n = neg_ℤ (pos n)

-- the status of a fault
abbrev pub fault_status : Fault → ℤ
fault_status Differs = minus 1
fault_status Index = minus 2
fault_status Level = minus 3
fault_status Length = minus 4
fault_status Root = minus 5
fault_status Algorithm = minus 6
fault_status HashType = minus 7
fault_status DataBlockSize = minus 8
fault_status HashBlockSize = minus 9
fault_status SaltSize = minus 10
fault_status HashOffset = minus 11
fault_status NoData = minus 12
fault_status TooLarge = minus 13
fault_status Short = minus 14
fault_status Signature = minus 15
fault_status Version = minus 16
fault_status TooLong = minus 17
fault_status TooShort = minus 18
fault_status Waiting = minus 19
fault_status Part = minus 20

-- the status of a value or a fault
abbrev pub status_of : {A : Type 0} → Result A Fault → ℤ
status_of (Ok _) = done
status_of (Err fault) = fault_status fault

-- the fault of settings, of a plan, of bytes that are no superblock, and of a builder
abbrev pub fault_of_setting : SettingFault → Fault
fault_of_setting setting.Algorithm = Algorithm
fault_of_setting setting.DataBlockSize = DataBlockSize
fault_of_setting setting.HashBlockSize = HashBlockSize
fault_of_setting setting.SaltSize = SaltSize

abbrev pub fault_of_plan : PlanFault → Fault
fault_of_plan plan.NoData = NoData
fault_of_plan plan.TooLarge = TooLarge

abbrev pub fault_of_superblock : SuperFault → Fault
fault_of_superblock superblock.Short = Short
fault_of_superblock superblock.Signature = Signature
fault_of_superblock (superblock.Version _) = Version
fault_of_superblock (superblock.HashType _) = HashType
fault_of_superblock (superblock.DataBlockSize _) = DataBlockSize
fault_of_superblock (superblock.HashBlockSize _) = HashBlockSize
fault_of_superblock superblock.Algorithm = Algorithm
fault_of_superblock (superblock.SaltSize _) = SaltSize
fault_of_superblock superblock.NoData = NoData
fault_of_superblock superblock.TooLarge = TooLarge

abbrev pub fault_of_feed : FeedFault → Fault
fault_of_feed feed.Level = Level
fault_of_feed feed.TooLong = TooLong
fault_of_feed (feed.TooShort _) = TooShort
fault_of_feed feed.Waiting = Waiting
fault_of_feed feed.TooLarge = TooLarge

-- the status of a data block that is checked by its path, and of one that is checked by the block above it
abbrev pub path_status : Result Unit PathFault → ℤ
path_status (Ok _) = done
path_status (Err path.Index) = fault_status Index
path_status (Err path.Length) = fault_status Length
path_status (Err (path.DiffersAt _)) = fault_status Differs

abbrev pub link_status : Result Unit LinkFault → ℤ
link_status (Ok _) = done
link_status (Err link.Index) = fault_status Index
link_status (Err link.Level) = fault_status Level
link_status (Err link.Length) = fault_status Length
link_status (Err link.Differs) = fault_status Differs
