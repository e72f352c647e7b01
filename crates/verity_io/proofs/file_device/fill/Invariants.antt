use Rattle.std.{proofs.Common.{length, ◌-◌, ◌≤◌, take}, specs.Io.KnownBytes.Consumes}
use Rattle.verity_io.proofs.file_device.fill.Given as goal

abbrev pub invariant-loop-end : goal.invariant-loop-end
invariant-loop-end g l = record {
  within : l.end ≤ length l.buf;
  bytes : Consumes (g.R.Read.remaining l.fn.reader) (g.R.Read.remaining l.reader) (take l.end l.buf);
}

abbrev pub decreases-loop-end : goal.decreases-loop-end
decreases-loop-end g l = length l.initial.buf - l.end
