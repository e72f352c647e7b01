use Rattle.{std.{proofs.Common.{IfOk, Result, subst}, specs.Prelude.OnOk}, verity_plan.specs.Settings.TreeSettingsFields}
use Rattle.fsverity.specs.{Program.{CarriesOut, SaysDone}, declared.options.option_fault.FsOptionFault.FsOptionFault}
use Rattle.fsverity.proofs.program.entry.run_line.Goals as goal

pub returns-in-Ok-clause-printed : goal.returns-in-Ok-clause-printed
returns-in-Ok-clause-printed g c =
    let line = c.args.line.now in
    let given = c.options.ensures in
    let read = rw (given.hash_alg, given.block_size, given.salt, given.files, given.out_files) at c.in-Ok.ensures.value in
    subst (λ (read : Result TreeSettingsFields FsOptionFault). IfOk read (λ settings.
    OnOk c.digest_files_of_line.result (CarriesOut settings line (g.O.Write.contents c.args.out.now)
    (g.O.Write.contents c.digest_files_of_line.new.out))))
    read c.digest_files_of_line.ensures.printed

pub returns-in-Ok-clause-value : goal.returns-in-Ok-clause-value
returns-in-Ok-clause-value g c =
    let line = c.args.line.now in
    let given = c.options.ensures in
    let read = rw (given.hash_alg, given.block_size, given.salt, given.files, given.out_files) at c.in-Ok.ensures.value in
    subst (λ (read : Result TreeSettingsFields FsOptionFault). IfOk read (λ settings.
    IfOk c.digest_files_of_line.result (SaysDone settings line)))
    read c.digest_files_of_line.ensures.value
