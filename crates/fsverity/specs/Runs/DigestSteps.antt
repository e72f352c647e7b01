-- The steps of a run: the digest of one file, and its line.
-- For the private functions; not needed to read a public contract.
use Rattle.std.specs.Prelude.{◌≡◌, ◌⊎◌, ℕ, ◌<◌, true, List, length, take, Option, Some, None, slice_get, Result, Ok, Err, MatchResult}
use Rattle.{std.specs.Io.KnownBytes.{Appends, Keeps}, verity_hash.specs.declared.digest.Digest.Digest, verity_plan.specs.Settings.TreeSettingsFields}
use Rattle.{verity_io.specs.{Counting.CountRose, Reading.HasRead}, verity_blocks.specs.Levels.root_of_file}
use Rattle.fsverity.specs.Runs.{FileDigest.FaultsIn, Digest.{FailsAt, IsLargeAt, has_digest}, Digested.{DigestInput, IsDigestAt}}
use Rattle.fsverity.specs.{Openers.Opening.OpenerChange, declared.{fault.Fault.Fault, runs.digest_fault.DigestFault.DigestFault}}
use Rattle.fsverity.specs.declared.runs.digest_fault.DigestFault.TheVariants.{TooLarge, SourceShort, SourceFailed, DeviceFailed, Memory}
use Rattle.command_line.specs.declared.writing.print_fault.PrintFault.TheVariants.{Output}
use Rattle.fsverity.specs.declared.fault.Fault.TheVariants as fault

-- the root hash for the first size bytes of a source, and how much was read
abbrev pub GivesRoot : TreeSettingsFields → ℕ → Result Digest DigestFault → List ℕ → List ℕ → Type 0
GivesRoot s size result before after = MatchResult result
    (λ root. (root ≡ root_of_file s size before) × HasRead size before after) (FaultsIn s size before after)

-- the file of this index is there, and not too large
abbrev pub HasDigestAt : TreeSettingsFields → List (Option (List ℕ)) → ℕ → Type 0
HasDigestAt s files f = (bytes : List ℕ) × (slice_get files f ≡ Some (Some bytes)) × (has_digest s (Some bytes) ≡ true)

-- why a step ends the run at the file that was next
abbrev pub StopsStep : TreeSettingsFields → OpenerChange → Fault → Type 0
StopsStep s opener (fault.Unopened name) =
    (opener.told × (slice_get opener.files opener.next_before ≡ Some None))
    ⊎ CountRose opener.failures_before opener.failures_after
StopsStep s opener (fault.Digest TooLarge name) = opener.told → IsLargeAt s opener.files opener.next_before
StopsStep s opener (fault.Digest (SourceShort i) name) = opener.told → ⊥
StopsStep s opener (fault.Digest (SourceFailed i) name) =
    (opener.told → HasDigestAt s opener.files opener.next_before) × CountRose opener.failures_before opener.failures_after
StopsStep s opener (fault.Digest (DeviceFailed level block) name) = ⊥
StopsStep s opener (fault.Digest Memory name) = opener.told → HasDigestAt s opener.files opener.next_before
StopsStep s opener (fault.DigestLine cause) = opener.told → HasDigestAt s opener.files opener.next_before
StopsStep s opener other = ⊥

-- the fault of a step comes before the line is made
abbrev pub ComesBeforeLine : Fault → Type 0
ComesBeforeLine (fault.Unopened name) = Unit {0}
ComesBeforeLine (fault.Digest cause name) = Unit {0}
ComesBeforeLine other = ⊥

-- what a step writes of the line of file i: all of it, or its first bytes if a write failed; otherwise nothing
abbrev pub WritesStep : TreeSettingsFields → (List ℕ → List ℕ) → Type 0 → List (Option (List ℕ)) → ℕ
    → Result (Unit {0}) Fault → Option (List ℕ) → Option (List ℕ) → Type 0
WritesStep s line_of told files i (Ok done) old new = (digest : List ℕ) × IsDigestAt s told files i digest
    × Appends old new (line_of digest)
WritesStep s line_of told files i (Err (fault.DigestLine (Output count))) old new = (digest : List ℕ)
    × IsDigestAt s told files i digest
    × (count < length (line_of digest)) × Appends old new (take count (line_of digest))
WritesStep s line_of told files i (Err cause) old new = Keeps old new

-- a run ends early only at a file
abbrev pub StopsRun : DigestInput → OpenerChange → Option (List ℕ) → Option (List ℕ) → Fault → Type 0
StopsRun run opener out out' cause = (f : ℕ) × FailsAt run opener out out' f cause
