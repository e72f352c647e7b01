-- What one more write took follows what was taken before.
use Rattle.{std.proofs.{Common.arith, lemmas.{List.take_rest, Grind.common_steps}}, verity_io.proofs.KnownLemmas.appends_more}
use Rattle.verity_io.proofs.putting.put_all.Goals as goal

pub loop-start-preserved : goal.loop-start-preserved
loop-start-preserved g c = record {
  within = grind (arith, common_steps, c.in-Ok.ensures.bound);
  bytes = appends_more _ _ _ c.args.text.now c.loop-start.start c.in-Ok.count c.loop-start.invariant.bytes
      (rw take_rest at c.in-Ok.ensures.prefix);
}
