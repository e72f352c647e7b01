use Rattle.std.proofs.Common.{◌+◌, sym, ◌∙◌, arith}
use Rattle.sha_lanes.{specs.Lanes.lane, proofs.{LaneWise.word_of_lane, HashSha1.{kind_constant, lane_of_five, round_next}}}
use Rattle.sha_lanes.proofs.sha_1.rounds.five_rounds.Goals as goal

pub returns : goal.returns
returns c j lt s at =
    let kind = c.args.kind in
    let w = lane c.args.w.now j in
    let t = c.args.t in
    let r1 = round_next kind s w t (t + 1) (omega arith) (omega arith) (omega arith) (sym (lane_of_five c.args.v.now j c.told-v) ∙ at)
    (kind_constant kind t (omega arith) (omega arith)) (word_of_lane c.args.w.now j t) (c.round.ensures j lt) in
    let r2 = round_next kind s w (t + 1) (t + 2) (omega arith) (omega arith) (omega arith) r1
    (kind_constant kind (t + 1) (omega arith) (omega arith)) (word_of_lane c.args.w.now j (t + 1)) (c.round-2.ensures j lt) in
    let r3 = round_next kind s w (t + 2) (t + 3) (omega arith) (omega arith) (omega arith) r2
    (kind_constant kind (t + 2) (omega arith) (omega arith)) (word_of_lane c.args.w.now j (t + 2)) (c.round-3.ensures j lt) in
    let r4 = round_next kind s w (t + 3) (t + 4) (omega arith) (omega arith) (omega arith) r3
    (kind_constant kind (t + 3) (omega arith) (omega arith)) (word_of_lane c.args.w.now j (t + 3)) (c.round-4.ensures j lt) in
    round_next kind s w (t + 4) (t + 5) (omega arith) (omega arith) (omega arith) r4
    (kind_constant kind (t + 4) (omega arith) (omega arith)) (word_of_lane c.args.w.now j (t + 4)) (c.round-5.ensures j lt)
