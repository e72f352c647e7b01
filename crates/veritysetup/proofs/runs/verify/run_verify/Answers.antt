use Rattle.{std.proofs.Common.{subst, Result}, verity_pass.proofs.HeldTree.right-holds_enough}
use Rattle.veritysetup.specs.{Runs.Verify.{Verified, Verifies}, declared.fault.Fault.Fault}
use Rattle.veritysetup.proofs.runs.verify.run_verify.Goals as goal

pub returns-clause-verified : goal.returns-clause-verified
returns-clause-verified g c = λ zero source_told device_told.
    let input = c.args.input.now in
    let device = g.D.Device.content c.args.device.now in
    let source = g.S.Source.remaining c.args.source.now in
    let rest = g.S.Source.remaining c.verify.new.source in
    let compared = subst (λ (outcome : Result Verified Fault). Verifies input device source rest outcome)
    (c.end_run.ensures.done zero).1 (c.verify.ensures.verdict source_told device_told) in
    record {
      plan = compared.plan;
      root = compared.root;
      trusted = compared.trusted;
      holds = right-holds_enough compared.plan _ _ compared.root compared.read.enough compared.verdict;
      read = compared.read;
    }

pub returns-clause-run : goal.returns-clause-run
returns-clause-run g c = record {
  outcome = c.verify.result;
  possible = c.verify.ensures.possible;
  status_is = c.end_run.ensures.status;
  verdict = c.verify.ensures.verdict;
  message = c.end_run.ensures.message;
  source_counted = c.verify.ensures.source_count;
  device_counted = c.verify.ensures.only_read.counted;
}
