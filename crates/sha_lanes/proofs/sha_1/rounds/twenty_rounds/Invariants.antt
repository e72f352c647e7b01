use Rattle.{std.proofs.Common.◌*◌, sha_lanes.specs.Sha1.{RoundsFrom, first_round}}
use Rattle.sha_lanes.proofs.sha_1.rounds.twenty_rounds.Given as goal

abbrev pub invariant-loop-turn : goal.invariant-loop-turn
invariant-loop-turn l = RoundsFrom l.w (first_round l.kind) (5 * l.turn) l.initial.v l.v
