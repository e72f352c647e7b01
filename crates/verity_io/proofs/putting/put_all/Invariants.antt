use Rattle.std.{proofs.Common.{length, ◌-◌, ◌≤◌, take}, specs.Io.KnownBytes.Appends}
use Rattle.verity_io.proofs.putting.put_all.Given as goal

abbrev pub invariant-loop-start : goal.invariant-loop-start
invariant-loop-start g l = record {
  within : l.start ≤ length l.text;
  bytes : Appends (g.W.Write.contents l.fn.writer) (g.W.Write.contents l.writer) (take l.start l.text);
}

abbrev pub decreases-loop-start : goal.decreases-loop-start
decreases-loop-start g l = length l.text - l.start
