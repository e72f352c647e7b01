use Rattle.{std.proofs.Common.{subst, sym, Result}, verity_blocks.specs.Levels.data_blocks}
use Rattle.veritysetup.specs.Runs.{Format.{Formatted, PrintsReport, Reads, Writes}, Formatted.{IsFormattedDevice, format_report}}
use Rattle.veritysetup.{specs.declared.fault.Fault.Fault, proofs.{FormattedLemmas.written-formatted, SettingsLemmas.AreValid}}
use Rattle.veritysetup.proofs.runs.format.run_format.Goals as goal

pub returns-clause-formatted : goal.returns-clause-formatted
returns-clause-formatted g c = λ zero source_told device_told.
    let s = c.args.settings.now in
    let path = c.args.hash_path.now in
    let source = g.S.Source.remaining c.args.source.now in
    let rest = g.S.Source.remaining c.format-outcome.new.source in
    let before = g.D.Device.content c.args.device.now in
    let after = g.D.Device.content c.format-outcome.new.device in
    let done = (c.end_run.ensures.done zero).1 in
    let valid : AreValid s = record {
      planned = c.settings_are_valid.ensures.planned;
      agree = c.settings_are_valid.ensures.agree;
      uuid = c.settings_are_valid.ensures.uuid;
    } in
    let read = subst (λ (outcome : Result Formatted Fault). Reads s outcome source rest) done
    (c.format-outcome.ensures.read source_told) in
    let stands = subst (λ (outcome : Result Formatted Fault). Writes s (data_blocks s.plan source) outcome before after) done
    (c.format-outcome.ensures.stands source_told device_told) in
    let printed = c.format-outcome.ensures.printed in
    let report = subst (λ (outcome : Result Formatted Fault). PrintsReport (format_report s path printed.0) outcome
    (g.O.Write.contents c.args.out.now) (g.O.Write.contents c.format-outcome.new.out)) done printed.2 in
    record {
      read = read;
      stands = subst (IsFormattedDevice s source before) (sym stands) (written-formatted s source before valid read.enough);
      printed = rw (printed.1 source_told) at report;
    }

pub returns-clause-run : goal.returns-clause-run
returns-clause-run g c = record {
  outcome = c.format-outcome.result;
  status_is = c.end_run.ensures.status;
  read = c.format-outcome.ensures.read;
  stands = c.format-outcome.ensures.stands;
  root_hash = c.format-outcome.ensures.printed.0;
  root_is = c.format-outcome.ensures.printed.1;
  printed = c.format-outcome.ensures.printed.2;
  message = c.end_run.ensures.message;
  source_counted = c.format-outcome.ensures.source_count;
  device_counted = c.format-outcome.ensures.device_count;
}
