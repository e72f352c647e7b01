-- A run of `fsverity digest` over files, one after another (fsverity(1), "fsverity digest"): a line for each, up to the
-- first that fails.
use Rattle.std.specs.Prelude.{◌≡◌, ◌⊎◌, ℕ, ◌+◌, ◌<◌, ◌≤◌, Bool, true, false, not, List, [], ◌++◌, length, take, Option, IfSome, Some, None, slice_get}
use Rattle.std.specs.Prelude.{slice_index_or}
use Rattle.{std.specs.{List.prefix_len, Io.KnownBytes.Appends}, verity_io.specs.Counting.{Counts, CountRose, TheSource, is_call_of}}
use Rattle.command_line.specs.{Writing.AppendsPrefix, declared.writing.print_fault.PrintFault.TheVariants.Output}
use Rattle.{verity_plan.specs.Settings.TreeSettingsFields, fsverity.specs.declared.fault.Fault.TheVariants.{Unopened, Digest, DigestLine}}
use Rattle.fsverity.specs.{Faults.{IsAtFile, message_of, side_of}, Openers.Opening.OpenerChange, declared.fault.Fault.Fault}
use Rattle.fsverity.specs.Runs.Digested.{is_too_large, DigestInput, IsDigestAt, digest_line_at, AreDigestLines}
use Rattle.fsverity.specs.declared.runs.digest_fault.DigestFault.TheVariants.{TooLarge, SourceShort, SourceFailed, DeviceFailed, Memory}

-- the file is there, and not too large
abbrev pub has_digest : TreeSettingsFields → Option (List ℕ) → Bool
has_digest s None = false
has_digest s (Some bytes) = not (is_too_large s (length bytes))

-- the index of the first file that is absent or too large, or the number of files if there is none
abbrev pub first_without_digest : TreeSettingsFields → List (Option (List ℕ)) → ℕ
first_without_digest s files = prefix_len (has_digest s) files

-- the file of this index is there, and too large
abbrev pub IsLargeAt : TreeSettingsFields → List (Option (List ℕ)) → ℕ → Type 0
IsLargeAt s files f =
    (bytes : List ℕ) × (slice_get files f ≡ Some (Some bytes)) × (is_too_large s (length bytes) ≡ true)

-- why a run ends at file f. Unopened: f is the first absent file, or a call failed. TooLarge: f is there and too large.
-- SourceShort: only if the bytes aren't told. SourceFailed, Memory, DigestLine: f is there and not too large, and at
-- SourceFailed a call failed. No other fault ends a run, not even DeviceFailed, for there is no device
abbrev pub HasReason : TreeSettingsFields → OpenerChange → ℕ → Fault → Type 0
HasReason s opener f (Unopened name) =
    (opener.told × (slice_get opener.files f ≡ Some None) × (first_without_digest s opener.files ≡ f))
    ⊎ CountRose opener.failures_before opener.failures_after
HasReason s opener f (Digest TooLarge name) =
    opener.told → IsLargeAt s opener.files f × (first_without_digest s opener.files ≡ f)
HasReason s opener f (Digest (SourceShort i) name) = opener.told → ⊥
HasReason s opener f (Digest (SourceFailed i) name) =
    (opener.told → f < first_without_digest s opener.files) × CountRose opener.failures_before opener.failures_after
HasReason s opener f (Digest (DeviceFailed level block) name) = ⊥
HasReason s opener f (Digest Memory name) = opener.told → f < first_without_digest s opener.files
HasReason s opener f (DigestLine cause) = opener.told → f < first_without_digest s opener.files
HasReason s opener f other = ⊥

-- what is written of the line of file f, at which a run ended: if a write failed its first bytes, so many as were
-- taken and fewer than all, and otherwise nothing
abbrev pub IsPartOfDigestLine : DigestInput → Type 0 → List (Option (List ℕ)) → ℕ → Fault → List ℕ → Type 0
IsPartOfDigestLine run told files f (DigestLine (Output count)) part = (digest : List ℕ)
    × IsDigestAt run.settings told files f digest
    × (count < length (digest_line_at run f digest)) × (part ≡ take count (digest_line_at run f digest))
IsPartOfDigestLine run told files f fault part = part ≡ []

-- how the opener's count changes with a fault: a failed read raises it by one, and otherwise only a file that is not
-- opened may raise it
abbrev pub CountsFault : Fault → ℕ → ℕ → Type 0
CountsFault (Unopened name) before after = before ≤ after
CountsFault fault before after = Counts (is_call_of TheSource (side_of fault)) before after

-- file f ended a run: it is the one that the fault names, the next file is after it, and no file before it is absent or
-- too large; the lines of the files before it are written, and of its own perhaps a part
pub record FailsAt (run : DigestInput) (opener : OpenerChange) (out out' : Option (List ℕ)) (f : ℕ) (fault : Fault)
    : Type 0 where
  pub has_name : f < length run.names
  pub at_file : IsAtFile (slice_index_or run.names f []) fault
  pub is_next : opener.next_after ≡ f + 1
  pub within : opener.told → f ≤ first_without_digest run.settings opener.files
  pub reason : HasReason run.settings opener f fault
  pub counted : CountsFault fault opener.failures_before opener.failures_after
  pub lines : List ℕ
  pub lines_are : AreDigestLines run opener.told opener.files f lines
  pub part : List ℕ
  pub part_is : IsPartOfDigestLine run opener.told opener.files f fault part
  pub written : Appends out out' (lines ++ part)

-- a file ended the run, and its message is written, as far as the writer takes it
pub record EndsAt (run : DigestInput) (opener : OpenerChange) (out out' msgs msgs' : Option (List ℕ)) : Type 0 where
  pub f : ℕ
  pub fault : Fault
  pub fails : FailsAt run opener out out' f fault
  pub message : IfSome (message_of fault) (λ text. AppendsPrefix text msgs msgs')
