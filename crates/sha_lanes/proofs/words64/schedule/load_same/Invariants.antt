use Rattle.{std.proofs.Common.{◌≡◌, ℕ, ◌<◌, length, take}, sha_lanes.specs.Lanes.lane}
use Rattle.sha2.specs.Sha512 as S512
use Rattle.sha_lanes.proofs.words64.schedule.load_same.Given as goal

abbrev pub invariant-loop-t : goal.invariant-loop-t
invariant-loop-t l = record {
  long : length l.w ≡ 80;
  words : (j : ℕ) → j < 4 → take l.t (lane l.w j) ≡ S512.first_words l.block l.t;
}
