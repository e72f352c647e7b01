-- How a run ends: done, or at its first fault. The status and the message of each fault, and, if a call failed, whose
-- call it was (veritysetup(8); statuses and messages are this project's own).
use Rattle.std.specs.Prelude.{◌≤◌, ℕ, List, Option, Some, None, Result, Ok, Err, IfSome}
use Rattle.{std.specs.Io.KnownBytes.Keeps, verity_io.specs.Counting.{Side, TheDevice}, verity_pass.specs.declared.comparing.CompareFault.CompareFault}
use Rattle.veritysetup.specs.{declared.fault.Fault.Fault, Texts.Messages.{unwritten_output_message, unwritten_superblock_message}}
use Rattle.veritysetup.specs.Texts.Messages.{build_message, compare_message, incomplete_message, memory_message, no_random_message, option_message}
use Rattle.veritysetup.specs.Texts.Messages.{super_message, too_large_message, unopened_message, unread_superblock_message, unwritten_message}
use Rattle.command_line.specs.{Writing.AppendsPrefix, SystemWords.not_utf8_message, declared.writing.print_fault.PrintFault.PrintFault}
use Rattle.command_line.specs.declared.words.system_words.WordsFault.TheVariants as words
use Rattle.command_line.specs.declared.words.line_fault.LineFault.TheVariants as line
use Rattle.command_line.specs.declared.writing.print_fault.PrintFault.TheVariants as print
use Rattle.verity_pass.specs.Building as building
use Rattle.verity_pass.specs.Comparing as comparing
use Rattle.verity_pass.specs.declared.comparing.CompareFault.TheVariants as compare
use Rattle.veritysetup.specs.declared.fault.Fault.TheVariants as fault

-- all is done
abbrev pub status_done : ℕ
status_done = 0

-- the command line, an option, the superblock or the root hash is refused
abbrev pub status_refused : ℕ
status_refused = 1

-- the stored tree or the root hash differs
abbrev pub status_verification_failed : ℕ
status_verification_failed = 2

-- out of memory
abbrev pub status_no_memory : ℕ
status_no_memory = 3

-- a file can't be opened, read or written, there are no random bytes, the data is too short, or output can't be written
abbrev pub status_failed : ℕ
status_failed = 4

-- one of these
abbrev pub IsStatus : ℕ → Type 0
IsStatus status = status ≤ status_failed

-- the status of a comparison that ends with a fault
abbrev pub compare_status : CompareFault → ℕ
compare_status (compare.Differs level block part) = status_verification_failed
compare_status (compare.RootDiffers root) = status_verification_failed
compare_status (compare.SourceShort block) = status_failed
compare_status (compare.SourceFailed block) = status_failed
compare_status (compare.DeviceFailed level block) = status_failed

-- the status of a fault
abbrev pub status_of : Fault → ℕ
status_of (fault.Words (words.NotUtf8 number word)) = status_refused
status_of (fault.Words words.Memory) = status_no_memory
status_of (fault.Line (line.Refused error) usage) = status_refused
status_of (fault.Line line.Memory usage) = status_no_memory
status_of fault.IncompleteLine = status_refused
status_of (fault.Unopened path) = status_failed
status_of (fault.Unwritten path) = status_failed
status_of fault.NoRandomBytes = status_failed
status_of (fault.Option cause) = status_refused
status_of fault.SuperblockUnread = status_failed
status_of (fault.Superblock cause) = status_refused
status_of fault.HashAreaTooLarge = status_refused
status_of fault.Store = status_no_memory
status_of (fault.Build cause) = status_failed
status_of (fault.Compare cause) = compare_status cause
status_of fault.SuperblockUnwritten = status_failed
status_of (fault.Report print.Memory) = status_no_memory
status_of (fault.Report (print.Output count)) = status_failed

-- the message of a report that isn't printed whole
abbrev pub print_message : PrintFault → List ℕ
print_message print.Memory = memory_message
print_message (print.Output count) = unwritten_output_message

-- the message of a fault; clap's own text, for a line that it refuses, has no definition here
abbrev pub message_of : Fault → Option (List ℕ)
message_of (fault.Words (words.NotUtf8 number word)) = Some (not_utf8_message number word.items)
message_of (fault.Words words.Memory) = Some memory_message
message_of (fault.Line (line.Refused error) usage) = None
message_of (fault.Line line.Memory usage) = Some memory_message
message_of fault.IncompleteLine = Some incomplete_message
message_of (fault.Unopened path) = Some (unopened_message path.now)
message_of (fault.Unwritten path) = Some (unwritten_message path.now)
message_of fault.NoRandomBytes = Some no_random_message
message_of (fault.Option cause) = Some (option_message cause)
message_of fault.SuperblockUnread = Some unread_superblock_message
message_of (fault.Superblock cause) = Some (super_message cause)
message_of fault.HashAreaTooLarge = Some too_large_message
message_of fault.Store = Some memory_message
message_of (fault.Build cause) = Some (build_message cause)
message_of (fault.Compare cause) = Some (compare_message cause)
message_of fault.SuperblockUnwritten = Some unwritten_superblock_message
message_of (fault.Report cause) = Some (print_message cause)

-- whose call failed, the source's or the device's, if the fault is a failed call
abbrev pub side_of : Fault → Option Side
side_of (fault.Build cause) = building.side_of cause
side_of (fault.Compare cause) = comparing.side_of cause
side_of fault.SuperblockUnread = Some TheDevice
side_of fault.SuperblockUnwritten = Some TheDevice
side_of cause = None

-- the status of a run, by how it ended
abbrev pub result_status : {X : Type 0} → Result X Fault → ℕ
result_status (Ok done) = status_done
result_status (Err cause) = status_of cause

-- what a run tells, by how it ended: nothing if all is done, and otherwise the fault's message, or its first bytes
abbrev pub IsTold : {X : Type 0} → Result X Fault → Option (List ℕ) → Option (List ℕ) → Type 0
IsTold (Ok done) before after = Keeps before after
IsTold (Err cause) before after = IfSome (message_of cause) (λ text. AppendsPrefix text before after)
