use Rattle.{std.proofs.Common.{◌≡◌, ◌+◌, ◌*◌, ℕ, List}, sha_lanes.specs.Sha1.{AddsConstants, first_round}}
use Rattle.sha1.specs.Sha1 as S1
use Rattle.sha_lanes.proofs.sha_1.plain_rounds.twenty_rounds.Given as goal

abbrev pub invariant-loop-turn : goal.invariant-loop-turn
invariant-loop-turn l = (w s : List ℕ) → AddsConstants l.kw l.j w → l.initial.v ≡ S1.rounds s w (first_round l.kind)
    → l.v ≡ S1.rounds s w (first_round l.kind + 5 * l.turn)
