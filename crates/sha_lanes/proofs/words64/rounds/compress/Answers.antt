use Rattle.std.proofs.Common.{◌≡◌, ◌*◌, refl, ap, ◌∙◌, arith}
use Rattle.sha_lanes.{specs.Lanes.lane, proofs.{LaneWise.cons_eq, Hash64.{rounds_start, added, compress_is}}}
use Rattle.sha2.specs.Sha512 as S512
use Rattle.sha_lanes.proofs.words64.rounds.compress.Goals as goal

pub loop-turn-init : goal.loop-turn-init
loop-turn-init c j lt = rounds_start _ _

pub loop-turn-preserved : goal.loop-turn-preserved
loop-turn-preserved c j lt =
    c.eight_rounds.ensures j lt _ (c.loop-turn.invariant j lt)
    ∙ ap (S512.rounds (lane c.args.state.now j) (lane c.schedule.new.w j)) (omega arith)

pub returns : goal.returns
returns c j lt b begins =
    let end : 8 * c.loop-turn.turn ≡ 80 = omega arith in
    let sum = added c.args.state.now c.loop-turn.v j in
    (cons_eq (sum 0 _ (c.add.ensures.value j lt))
    (cons_eq (sum 1 _ (c.add-2.ensures.value j lt))
    (cons_eq (sum 2 _ (c.add-3.ensures.value j lt))
    (cons_eq (sum 3 _ (c.add-4.ensures.value j lt))
    (cons_eq (sum 4 _ (c.add-5.ensures.value j lt))
    (cons_eq (sum 5 _ (c.add-6.ensures.value j lt))
    (cons_eq (sum 6 _ (c.add-7.ensures.value j lt))
    (cons_eq (sum 7 _ (c.add-8.ensures.value j lt)) refl))))))))
    ∙ compress_is (lane c.args.state.now j) (lane c.schedule.new.w j) b (c.schedule.ensures j lt b begins)
    (c.loop-turn.invariant j lt ∙ ap (S512.rounds (lane c.args.state.now j) (lane c.schedule.new.w j)) end)
