use Rattle.veritysetup.proofs.ReportLemmas.{PrintsReport-grows}
use Rattle.veritysetup.proofs.runs.format.format_opened.Goals as goal

pub returns-clause-grows : goal.returns-clause-grows
returns-clause-grows g c = PrintsReport-grows _ _ _ _ c.format.ensures.printed.2
