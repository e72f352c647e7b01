use Rattle.std.proofs.Common.{◌+◌, sym, refl, ◌∙◌, arith}
use Rattle.sha_lanes.{specs.Lanes.lane, proofs.{LaneWise.{word_of_lane, lane_of_eight}, Hash32.round_next}}
use Rattle.sha_lanes.proofs.words32.rounds.eight_rounds.Goals as goal

pub returns : goal.returns
returns c j lt s at =
    let r1 = round_next s (lane c.args.w.now j) c.args.t (c.args.t + 1) (omega arith) (sym (lane_of_eight c.args.v.now j c.told-v) ∙ at) refl
    (word_of_lane c.args.w.now j c.args.t) (c.round.ensures j lt) in
    let r2 = round_next s (lane c.args.w.now j) (c.args.t + 1) (c.args.t + 2) (omega arith) r1 refl
    (word_of_lane c.args.w.now j (c.args.t + 1)) (c.round-2.ensures j lt) in
    let r3 = round_next s (lane c.args.w.now j) (c.args.t + 2) (c.args.t + 3) (omega arith) r2 refl
    (word_of_lane c.args.w.now j (c.args.t + 2)) (c.round-3.ensures j lt) in
    let r4 = round_next s (lane c.args.w.now j) (c.args.t + 3) (c.args.t + 4) (omega arith) r3 refl
    (word_of_lane c.args.w.now j (c.args.t + 3)) (c.round-4.ensures j lt) in
    let r5 = round_next s (lane c.args.w.now j) (c.args.t + 4) (c.args.t + 5) (omega arith) r4 refl
    (word_of_lane c.args.w.now j (c.args.t + 4)) (c.round-5.ensures j lt) in
    let r6 = round_next s (lane c.args.w.now j) (c.args.t + 5) (c.args.t + 6) (omega arith) r5 refl
    (word_of_lane c.args.w.now j (c.args.t + 5)) (c.round-6.ensures j lt) in
    let r7 = round_next s (lane c.args.w.now j) (c.args.t + 6) (c.args.t + 7) (omega arith) r6 refl
    (word_of_lane c.args.w.now j (c.args.t + 6)) (c.round-7.ensures j lt) in
    let r8 = round_next s (lane c.args.w.now j) (c.args.t + 7) (c.args.t + 8) (omega arith) r7 refl
    (word_of_lane c.args.w.now j (c.args.t + 7)) (c.round-8.ensures j lt) in
    r8
