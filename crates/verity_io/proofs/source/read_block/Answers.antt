use Rattle.{std.proofs.{Common.arith, lemmas.Grind.common_steps}, verity_io.proofs.FilledBuffers.filled_more}
use Rattle.verity_io.proofs.source.read_block.Goals as goal

pub loop-end-preserved : goal.loop-end-preserved
loop-end-preserved g c = record {
  within = grind (arith, common_steps, c.in_ok-count.ensures.bound);
  count = grind (arith, c.in_ok-count.ensures.count);
  told = λ tells. c.in_ok-count.ensures.told (c.loop-end.invariant.told tells);
  bytes = λ tells. filled_more c.loop-end.end c.in_ok-count.count _ c.loop-end.buf c.read.new.buf _ _ _
      c.loop-end.invariant.within c.in_ok-count.ensures.bound (c.loop-end.invariant.bytes tells)
      (c.in_ok-count.ensures.bytes (c.loop-end.invariant.told tells)).0;
}
