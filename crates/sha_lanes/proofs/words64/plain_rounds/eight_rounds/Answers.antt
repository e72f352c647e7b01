use Rattle.{std.proofs.Common.{◌+◌, sym, ◌∙◌, arith}, sha_lanes.proofs.{LaneWise.eight_words, Hash64.plain_round_next}}
use Rattle.sha_lanes.proofs.words64.plain_rounds.eight_rounds.Goals as goal

pub returns : goal.returns
returns c w s adds at =
    let t = c.args.t in
    let kw = c.args.kw.now in
    let j = c.args.j in
    let r1 = plain_round_next kw j s w adds t (t + 1) (omega arith) (omega arith) (sym (eight_words c.args.v.now c.told-v) ∙ at) c.round-d.ensures in
    let r2 = plain_round_next kw j s w adds (t + 1) (t + 2) (omega arith) (omega arith) r1 c.round-c.ensures in
    let r3 = plain_round_next kw j s w adds (t + 2) (t + 3) (omega arith) (omega arith) r2 c.round-b.ensures in
    let r4 = plain_round_next kw j s w adds (t + 3) (t + 4) (omega arith) (omega arith) r3 c.round-a.ensures in
    let r5 = plain_round_next kw j s w adds (t + 4) (t + 5) (omega arith) (omega arith) r4 c.round-h.ensures in
    let r6 = plain_round_next kw j s w adds (t + 5) (t + 6) (omega arith) (omega arith) r5 c.round-g.ensures in
    let r7 = plain_round_next kw j s w adds (t + 6) (t + 7) (omega arith) (omega arith) r6 c.round-f.ensures in
    plain_round_next kw j s w adds (t + 7) (t + 8) (omega arith) (omega arith) r7 c.round-e.ensures
