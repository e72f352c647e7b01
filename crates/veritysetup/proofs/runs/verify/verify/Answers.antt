use Rattle.veritysetup.proofs.runs.verify.verify.Goals as goal

pub returns-in-Ok-compare-clause-verdict : goal.returns-in-Ok-compare-clause-verdict
returns-in-Ok-compare-clause-verdict g c = λ source_told device_told. record {
  plan = c.in-Ok.tree.plan;
  root = c.in-Ok.tree.root;
  trusted = c.in-Ok.ensures.trusted device_told;
  verdict = rw (c.in-Ok.ensures.only_read.stands device_told)
      at (c.in-Ok-compare.ensures.verdict source_told (c.in-Ok.ensures.only_read.told device_told));
  read = c.in-Ok-compare.ensures.read source_told;
}
