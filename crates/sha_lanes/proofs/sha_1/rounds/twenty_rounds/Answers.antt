use Rattle.{std.proofs.Common.arith, sha_lanes.{specs.Lanes.lane, proofs.HashSha1.rounds_at}}
use Rattle.sha_lanes.proofs.sha_1.rounds.twenty_rounds.Goals as goal

pub loop-turn-preserved : goal.loop-turn-preserved
loop-turn-preserved c j lt s at =
    rounds_at s (lane c.args.w.now j)
    (c.five_rounds.ensures j lt s (rounds_at s (lane c.args.w.now j) (c.loop-turn.invariant j lt s at) (omega arith)))
    (omega arith)
