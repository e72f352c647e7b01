-- What reading the superblock of a hash device gives, or why it gives none.
use Rattle.std.specs.Prelude.{◌≡◌, ℕ, List, Some, Result, Ok, Err}
use Rattle.verity_format.specs.{Superblocks.IsSuperblock, CheckedSuperblocks.superblock_fault, declared.superblock.Superblock.Superblock}
use Rattle.veritysetup.specs.{declared.fault.Fault.Fault, Runs.HashDevice.superblock_at}
use Rattle.veritysetup.specs.declared.fault.Fault.TheVariants as fault

-- the device can't be read, or what it holds is no superblock: the only faults of reading one
abbrev pub IsSuperblockFault : Fault → Type 0
IsSuperblockFault fault.SuperblockUnread = Unit {0}
IsSuperblockFault (fault.Superblock cause) = Unit {0}
IsSuperblockFault other = ⊥

-- the superblock that the bytes hold, or the reason why they hold none
abbrev pub ReadsSuperblock : Result Superblock Fault → ℕ → List ℕ → Type 0
ReadsSuperblock (Ok superblock) offset device = IsSuperblock (superblock_at offset device) superblock
ReadsSuperblock (Err (fault.Superblock cause)) offset device = superblock_fault (superblock_at offset device) ≡ Some cause
ReadsSuperblock (Err other) offset device = IsSuperblockFault other
