-- The file digest of fs-verity (Linux kernel, fs-verity page, "fs-verity descriptor" and "Merkle tree"), and the answer
-- of making one of a source's bytes.
use Rattle.std.specs.Prelude.{◌≡◌, ℕ, ◌+◌, ◌*◌, ◌/◌, ◌<◌, ◌≤◌, ◌==◌, min, List, [], length, Option, Some, None, IsNone, MatchOption, Result, Err}
use Rattle.std.specs.Prelude.{MatchResult, if◌then◌else◌}
use Rattle.{verity_format.specs.Descriptors.{descriptor_bytes, digest_of_file}, verity_io.specs.Counting.{Side, TheDevice, TheSource}}
use Rattle.{verity_blocks.specs.{Levels.{data_blocks, root_of_file}, TreeWriting.tree_on_device}, verity_io.specs.Reading.HasRead}
use Rattle.verity_pass.specs.{Building.BuildsOnDevice, Reading.ReadsUpTo, declared.building.BuildFault.BuildFault}
use Rattle.verity_plan.specs.{Plans.plan_of_file, Settings.{TreeSettingsFields, digest_len}}
use Rattle.fsverity.specs.{declared.runs.{digest_fault.DigestFault.DigestFault, file_digest.FileDigest.FileDigest}, Runs.Digested.descriptor_of}
use Rattle.fsverity.specs.declared.runs.digest_fault.DigestFault.TheVariants.{TooLarge, SourceShort, SourceFailed, DeviceFailed, Memory}
use Rattle.verity_pass.specs.declared.building.BuildFault.TheVariants as build

-- a device with the tree of the first size bytes; an empty file has none
abbrev pub with_tree : TreeSettingsFields → ℕ → List ℕ → List ℕ → List ℕ
with_tree s size bytes device = if size == 0 then device
    else tree_on_device (plan_of_file s size) (data_blocks (plan_of_file s size) bytes) device

-- the descriptor with this root hash, and its digest
pub record IsDigestOfRoot (s : TreeSettingsFields) (size : ℕ) (root : List ℕ) (made : FileDigest) : Type 0 where
  pub digest : made.digest ≡ digest_of_file (descriptor_of s size root)
  pub descriptor : made.descriptor ≡ descriptor_bytes (descriptor_of s size root)

-- the descriptor with a root hash of the settings' length, and its digest; it is the file's root hash if the source
-- tells these bytes
pub record IsDigestOfSource (s : TreeSettingsFields) (size : ℕ) (told : Type 0) (bytes : List ℕ) (made : FileDigest)
    : Type 0 where
  pub root : List ℕ
  pub root_length : length root ≡ digest_len s
  pub root_is : told → root ≡ root_of_file s size bytes
  pub by_root : IsDigestOfRoot s size root made

-- the descriptor of the first size bytes, and the file digest
abbrev pub IsFileDigest : TreeSettingsFields → ℕ → List ℕ → FileDigest → Type 0
IsFileDigest s size bytes made = IsDigestOfRoot s size (root_of_file s size bytes) made

-- whose call failed, if a file has no digest for that
abbrev pub side_of : DigestFault → Option Side
side_of TooLarge = None
side_of (SourceShort i) = None
side_of (SourceFailed i) = Some TheSource
side_of (DeviceFailed level block) = Some TheDevice
side_of Memory = None

-- the fault of building the tree, if it is one
abbrev pub build_fault : DigestFault → Option BuildFault
build_fault TooLarge = None
build_fault (SourceShort i) = Some (build.SourceShort i)
build_fault (SourceFailed i) = Some (build.SourceFailed i)
build_fault (DeviceFailed level block) = Some (build.DeviceFailed level block)
build_fault Memory = None

-- what a fault says of a source whose first size bytes are wanted, and how much was read
abbrev pub FaultsIn : TreeSettingsFields → ℕ → List ℕ → List ℕ → DigestFault → Type 0
FaultsIn s size before after TooLarge = after ≡ before
FaultsIn s size before after (SourceShort i) =
    (length before < size) × (i ≡ length before / s.data_block) × (after ≡ [])
FaultsIn s size before after (SourceFailed i) =
    (count : ℕ) × (i * s.data_block ≤ count) × (count < min ((i + 1) * s.data_block) size) × HasRead count before after
FaultsIn s size before after (DeviceFailed level block) = ReadsUpTo (plan_of_file s size) level block before after
FaultsIn s size before after Memory = after ≡ before

-- the answer for the first size bytes of a source, and how much was read
abbrev pub GivesDigest : TreeSettingsFields → ℕ → Result FileDigest DigestFault → List ℕ → List ℕ → Type 0
GivesDigest s size result before after = MatchResult result
    (λ made. IsFileDigest s size before made × HasRead size before after) (FaultsIn s size before after)

-- what stands on the tree's device after a fault: of the tree above the first `size` bytes, the hash blocks that closed
-- before it
abbrev pub StandsAfter : TreeSettingsFields → ℕ → List ℕ → List ℕ → List ℕ → DigestFault → Type 0
StandsAfter s size bytes before after fault = MatchOption (build_fault fault) (after ≡ before)
    (λ f. BuildsOnDevice (plan_of_file s size) (data_blocks (plan_of_file s size) bytes) (Err f) before after)

-- what stands on the tree's device, by the answer
abbrev pub Stands : {X : Type 0} → TreeSettingsFields → ℕ → List ℕ → Result X DigestFault → List ℕ → List ℕ → Type 0
Stands s size bytes result before after =
    MatchResult result (λ _. after ≡ with_tree s size bytes before) (StandsAfter s size bytes before after)

-- a fault that comes before any read
abbrev pub ComesBeforeReading : DigestFault → Type 0
ComesBeforeReading fault = IsNone (build_fault fault)
