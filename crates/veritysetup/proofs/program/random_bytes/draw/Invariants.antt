use Rattle.{std.proofs.Common.{◌≡◌, ◌*◌, take, length}, veritysetup.specs.Program.RandomBytes.number_bytes}
use Rattle.veritysetup.proofs.program.random_bytes.draw.Given as goal

abbrev pub invariant-loop-k : goal.invariant-loop-k
invariant-loop-k g l = record {
  long : length l.bytes ≡ 48;
  bytes : take (8 * l.k) l.bytes ≡ (number_bytes l.k (g.R.Rng.stream l.initial.rng)).0;
  stream : g.R.Rng.stream l.rng ≡ (number_bytes l.k (g.R.Rng.stream l.initial.rng)).1;
}
