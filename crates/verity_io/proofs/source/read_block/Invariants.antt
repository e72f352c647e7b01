use Rattle.std.proofs.Common.{length, ◌-◌, ◌≡◌, ◌≤◌, ◌++◌, take}
use Rattle.verity_io.proofs.source.read_block.Given as goal

abbrev pub invariant-loop-end : goal.invariant-loop-end
invariant-loop-end g l = record {
  within : l.end ≤ length l.buf;
  count : g.S.Source.failures l.source ≡ g.S.Source.failures l.fn.source;
  told : g.S.Source.tells l.fn.source → g.S.Source.tells l.source;
  bytes : g.S.Source.tells l.fn.source →
      g.S.Source.remaining l.fn.source ≡ take l.end l.buf ++ g.S.Source.remaining l.source;
}

abbrev pub decreases-loop-end : goal.decreases-loop-end
decreases-loop-end g l = length l.initial.buf - l.end
