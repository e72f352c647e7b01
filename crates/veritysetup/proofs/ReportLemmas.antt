-- What a writer holds after format printed its report.
use Rattle.{std.{proofs.Common.{ℕ, List, Option, Result, Ok, Err, [], take}, specs.Io.KnownBytes.Keeps}, command_line.proofs.Prefixes.appends_kept}
use Rattle.command_line.specs.{declared.writing.print_fault.PrintFault.{TheVariants.{Memory, Output}, PrintFault}, Writing.WritesText}
use Rattle.veritysetup.specs.{Runs.Format.PrintsReport, Texts.TextChanges.Grows, declared.fault.Fault.Fault}
use Rattle.veritysetup.specs.declared.fault.Fault.TheVariants as fault

Keeps-grows : (before after : Option (List ℕ)) → Keeps before after → Grows before after
Keeps-grows before after kept = ([], appends_kept before after kept)

WritesText-grows : (result : Result (Unit {0}) PrintFault) (text : List ℕ) (before after : Option (List ℕ))
    → WritesText result text before after → Grows before after
WritesText-grows (Ok done) text before after printed = (text, printed)
WritesText-grows (Err Memory) text before after printed = Keeps-grows before after printed
WritesText-grows (Err (Output count)) text before after printed = (take count text, printed.1)

-- what a run of format prints is added to what the writer held
pub PrintsReport-grows : {X : Type 0} (report : List ℕ) (outcome : Result X Fault) (before after : Option (List ℕ))
    → PrintsReport report outcome before after → Grows before after
PrintsReport-grows report (Ok done) before after printed = (report, printed)
PrintsReport-grows report (Err (fault.Report cause)) before after printed =
    WritesText-grows (Err cause) report before after printed
PrintsReport-grows report (Err fault.Store) before after printed = Keeps-grows before after printed
PrintsReport-grows report (Err (fault.Build cause)) before after printed = Keeps-grows before after printed
PrintsReport-grows report (Err fault.SuperblockUnwritten) before after printed = Keeps-grows before after printed
PrintsReport-grows report (Err other) before after printed = absurd printed
