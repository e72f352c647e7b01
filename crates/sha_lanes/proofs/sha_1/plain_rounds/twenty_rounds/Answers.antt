use Rattle.{std.proofs.Common.arith, sha_lanes.proofs.HashSha1.rounds_at}
use Rattle.sha_lanes.proofs.sha_1.plain_rounds.twenty_rounds.Goals as goal

pub loop-turn-preserved : goal.loop-turn-preserved
loop-turn-preserved c w s adds at =
    rounds_at s w (c.five_rounds.ensures w s adds (rounds_at s w (c.loop-turn.invariant w s adds at) (omega arith))) (omega arith)
