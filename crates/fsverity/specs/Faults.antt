-- How a run ends: done, or at its first fault. The status and the message of each fault, and whose call it was
-- (fsverity(1); statuses and messages are this project's own).
use Rattle.std.specs.Prelude.{◌≡◌, ◌≤◌, ℕ, List, Option, Some, None, Result, Ok, Err, IfSome}
use Rattle.{std.specs.Io.KnownBytes.Keeps, verity_io.specs.Counting.{Side, TheOpener}}
use Rattle.command_line.specs.{Writing.AppendsPrefix, SystemWords.not_utf8_message, declared.writing.print_fault.PrintFault.PrintFault}
use Rattle.fsverity.specs.Texts.Messages.{digest_message, memory_message, option_message, unopened_message, unwritten_descriptor_message}
use Rattle.fsverity.specs.{Texts.Messages.unwritten_output_message, declared.fault.Fault.Fault}
use Rattle.command_line.specs.declared.words.system_words.WordsFault.TheVariants as words
use Rattle.command_line.specs.declared.words.line_fault.LineFault.TheVariants as line
use Rattle.command_line.specs.declared.writing.print_fault.PrintFault.TheVariants as print
use Rattle.fsverity.specs.Runs.FileDigest as digesting
use Rattle.fsverity.specs.declared.fault.Fault.TheVariants as fault

-- all is done
abbrev pub status_done : ℕ
status_done = 0

-- a file can't be opened, read or written, it has no digest, output can't be written, or there is no memory
abbrev pub status_failed : ℕ
status_failed = 1

-- the command line or an option is refused
abbrev pub status_refused : ℕ
status_refused = 2

-- one of these
abbrev pub IsStatus : ℕ → Type 0
IsStatus status = status ≤ status_refused

-- the status of a fault
abbrev pub status_of : Fault → ℕ
status_of (fault.Words (words.NotUtf8 number word)) = status_refused
status_of (fault.Words words.Memory) = status_failed
status_of (fault.Line (line.Refused error)) = status_refused
status_of (fault.Line line.Memory) = status_failed
status_of (fault.Option cause) = status_refused
status_of (fault.Unopened name) = status_failed
status_of (fault.Digest cause name) = status_failed
status_of (fault.Descriptor count) = status_failed
status_of (fault.DigestLine cause) = status_failed

-- the message of a line that isn't written whole
abbrev pub print_message : PrintFault → List ℕ
print_message print.Memory = memory_message
print_message (print.Output count) = unwritten_output_message

-- the message of a fault; clap's own text, for a line that it refuses, has no definition here
abbrev pub message_of : Fault → Option (List ℕ)
message_of (fault.Words (words.NotUtf8 number word)) = Some (not_utf8_message number word.items)
message_of (fault.Words words.Memory) = Some memory_message
message_of (fault.Line (line.Refused error)) = None
message_of (fault.Line line.Memory) = Some memory_message
message_of (fault.Option cause) = Some (option_message cause)
message_of (fault.Unopened name) = Some (unopened_message name.now)
message_of (fault.Digest cause name) = Some (digest_message cause name.now)
message_of (fault.Descriptor count) = Some unwritten_descriptor_message
message_of (fault.DigestLine cause) = Some (print_message cause)

-- whose call, of a source, a device or an opener, failed; an absent file isn't opened either
abbrev pub side_of : Fault → Option Side
side_of (fault.Unopened name) = Some TheOpener
side_of (fault.Digest cause name) = digesting.side_of cause
side_of cause = None

-- the file that a fault names, if it names one, has this name
abbrev pub IsAtFile : List ℕ → Fault → Type 0
IsAtFile file (fault.Unopened name) = name.now ≡ file
IsAtFile file (fault.Digest cause name) = name.now ≡ file
IsAtFile file cause = Unit {0}

-- the status of a run, by how it ended
abbrev pub result_status : {X : Type 0} → Result X Fault → ℕ
result_status (Ok done) = status_done
result_status (Err cause) = status_of cause

-- what a run tells, by how it ended: nothing if all is done, and otherwise the fault's message, or its first bytes
abbrev pub IsTold : {X : Type 0} → Result X Fault → Option (List ℕ) → Option (List ℕ) → Type 0
IsTold (Ok done) before after = Keeps before after
IsTold (Err cause) before after = IfSome (message_of cause) (λ text. AppendsPrefix text before after)
