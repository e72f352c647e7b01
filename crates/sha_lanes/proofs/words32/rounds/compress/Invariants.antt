use Rattle.{std.proofs.Common.{◌≡◌, ℕ, ◌<◌, ◌*◌}, sha_lanes.specs.Lanes.lane}
use Rattle.sha2.specs.Sha256 as S256
use Rattle.sha_lanes.proofs.words32.rounds.compress.Given as goal

abbrev pub invariant-loop-turn : goal.invariant-loop-turn
invariant-loop-turn l = (j : ℕ) → j < 8 → lane l.v j ≡ S256.rounds (lane l.state j) (lane l.w j) (8 * l.turn)
