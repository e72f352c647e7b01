use Rattle.{std.proofs.Common.{◌≡◌, ℕ, ◌<◌, ◌-◌, List, length, take}, sha_lanes.specs.{Lanes.lane, Words32.BeginsSchedule}}
use Rattle.sha1.specs.Sha1 as S1
use Rattle.sha_lanes.proofs.sha_1.schedule.schedule.Given as goal

abbrev pub invariant-loop-t : goal.invariant-loop-t
invariant-loop-t l = record {
  long : length l.w ≡ 80;
  words : (j : ℕ) → j < 8 → (b : List ℕ) → BeginsSchedule l.initial.w j b
      → take l.t (lane l.w j) ≡ S1.schedule b (l.t - 16);
}
