use Rattle.{std.proofs.{Common.arith, lemmas.Grind.common_steps}, verity_io.proofs.FilledBuffers.consumes_more}
use Rattle.verity_io.proofs.file_device.fill.Goals as goal

pub loop-end-preserved : goal.loop-end-preserved
loop-end-preserved g c = record {
  within = grind (arith, common_steps, c.in_ok-count.ensures.bound);
  bytes = consumes_more c.loop-end.end c.in_ok-count.count _ c.loop-end.buf c.read_some.new.buf _ _ _
      c.loop-end.invariant.within c.in_ok-count.ensures.bound c.loop-end.invariant.bytes
      c.in_ok-count.ensures.bytes.0;
}
