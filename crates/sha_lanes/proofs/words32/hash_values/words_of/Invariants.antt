use Rattle.{std.proofs.Common.{◌≡◌, length, take}, sha_lanes.specs.Lanes.lane}
use Rattle.sha_lanes.proofs.words32.hash_values.words_of.Given as goal

abbrev pub invariant-loop-i : goal.invariant-loop-i
invariant-loop-i g l = record {
  long : length l.words ≡ length l.state;
  words : take l.i l.words ≡ take l.i (lane l.state l.j);
}
