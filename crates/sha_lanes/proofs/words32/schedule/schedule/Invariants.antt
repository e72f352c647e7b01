use Rattle.{std.proofs.Common.{◌≡◌, ℕ, ◌<◌, ◌+◌, ◌-◌, ◌*◌, List, [], length, take, get_or}, sha_lanes.specs.{Lanes.lane, Words32.BeginsSchedule}}
use Rattle.sha2.specs.Sha256 as S256
use Rattle.sha_lanes.proofs.words32.schedule.schedule.Given as goal

abbrev pub invariant-loop-turn : goal.invariant-loop-turn
invariant-loop-turn l = record {
  long : length l.w ≡ 64;
  even : l.even ≡ get_or l.w (16 + 2 * l.turn - 2) [];
  odd : l.odd ≡ get_or l.w (16 + 2 * l.turn - 1) [];
  words : (j : ℕ) → j < 8 → (b : List ℕ) → BeginsSchedule l.initial.w j b
      → take (16 + 2 * l.turn) (lane l.w j) ≡ S256.schedule b (2 * l.turn);
}
