use Rattle.{std.proofs.Common.{◌≡◌, ℕ, ◌<◌, length, take}, sha_lanes.specs.Lanes.lane}
use Rattle.sha2.specs.Sha256 as S256
use Rattle.sha_lanes.proofs.words32.schedule.load_same.Given as goal

abbrev pub invariant-loop-t : goal.invariant-loop-t
invariant-loop-t g l = record {
  long : length l.w ≡ g.row.N;
  words : (j : ℕ) → j < 8 → take l.t (lane l.w j) ≡ S256.first_words l.block l.t;
}
