use Rattle.fsverity.proofs.RunLemmas.{ended_with, of_done, status_either}
use Rattle.fsverity.proofs.runs.digest.run_digest.Goals as goal

pub returns-clause-status : goal.returns-clause-status
returns-clause-status g c = rw c.end_run.ensures.status (status_either _ c.write_digest_lines-result.ensures.failed)

pub returns-clause-done : goal.returns-clause-done
returns-clause-done g c = λ zero. of_done _ (c.end_run.ensures.done zero) c.write_digest_lines-result.ensures.done

pub returns-clause-no_failure : goal.returns-clause-no_failure
returns-clause-no_failure g c = λ zero.
    of_done _ (c.end_run.ensures.done zero) c.write_digest_lines-result.ensures.no_failure

pub returns-clause-all : goal.returns-clause-all
returns-clause-all g c = λ t zero. of_done _ (c.end_run.ensures.done zero) (c.write_digest_lines-result.ensures.all t)

pub returns-clause-printed : goal.returns-clause-printed
returns-clause-printed g c = λ zero. of_done _ (c.end_run.ensures.done zero) c.write_digest_lines-result.ensures.printed

pub returns-clause-ended : goal.returns-clause-ended
returns-clause-ended g c = λ one.
    ended_with _ _ _ _ _ _ _ _ c.end_run.ensures.status one c.write_digest_lines-result.ensures.ended
    c.end_run.ensures.message
