use Rattle.{std.proofs.Common.{◌≡◌, ℕ, ◌<◌, ◌≤◌, ◌+◌, ◌*◌, length, take, drop}, sha_lanes.specs.Lanes.lane}
use Rattle.sha2.specs.Sha512 as S512
use Rattle.sha_lanes.proofs.words64.schedule.load.Given as goal

abbrev pub invariant-loop-t : goal.invariant-loop-t
invariant-loop-t l = record {
  long : length l.w ≡ 80;
  words : (j : ℕ) → j < 4 → j * l.len + l.len ≤ length l.parts
      → take l.t (lane l.w j) ≡ S512.first_words (take 128 (drop (j * l.len + l.from) l.parts)) l.t;
}
