use Rattle.fsverity.proofs.RunLemmas.{of_done, status_either}
use Rattle.fsverity.proofs.runs.outputs.run_digest_to.Goals as goal

pub returns-clause-status : goal.returns-clause-status
returns-clause-status g c = rw c.end_run.ensures.status (status_either _ c.write_outputs-outcome.ensures.failed)

pub returns-clause-all : goal.returns-clause-all
returns-clause-all g c = λ zero t. of_done _ (c.end_run.ensures.done zero) c.write_outputs-outcome.ensures.all t

pub returns-clause-run : goal.returns-clause-run
returns-clause-run g c = record {
  outcome = c.write_outputs-outcome.result;
  possible = c.write_outputs-outcome.ensures.possible;
  status_is = c.end_run.ensures.status;
  too_large = c.write_outputs-outcome.ensures.too_large;
  read = c.write_outputs-outcome.ensures.read;
  stands = c.write_outputs-outcome.ensures.stands;
  outputs_written = c.write_outputs-outcome.ensures.written;
  told = c.end_run.ensures.message;
  source_counted = c.write_outputs-outcome.ensures.source_count;
  tree_counted = c.write_outputs-outcome.ensures.tree_count;
}
