use Rattle.{std.proofs.Common.{◌≡◌, ◌*◌, ℕ, List}, sha_lanes.specs.Words64.AddsConstants}
use Rattle.sha2.specs.Sha512 as S512
use Rattle.sha_lanes.proofs.words64.plain_rounds.compress.Given as goal

abbrev pub invariant-loop-turn : goal.invariant-loop-turn
invariant-loop-turn l = (w : List ℕ) → AddsConstants l.kw l.j w → l.v ≡ S512.rounds l.state w (8 * l.turn)
