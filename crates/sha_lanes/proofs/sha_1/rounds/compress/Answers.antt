use Rattle.std.proofs.Common.{refl, ◌∙◌}
use Rattle.sha_lanes.{specs.Lanes.lane, proofs.{LaneWise.cons_eq, Hash32.added, HashSha1.{rounds_start, compress_is}}}
use Rattle.sha_lanes.proofs.sha_1.rounds.compress.Goals as goal

pub returns : goal.returns
returns c j lt b begins =
    let h = lane c.args.state.now j in
    let w = lane c.schedule.new.w j in
    let sum = added c.args.state.now c.twenty_rounds-4.new.v j in
    let first = c.twenty_rounds.ensures j lt h (rounds_start h w) in
    let second = c.twenty_rounds-2.ensures j lt h first in
    let third = c.twenty_rounds-3.ensures j lt h second in
    cons_eq (sum 0 _ (c.add.ensures.value j lt))
    (cons_eq (sum 1 _ (c.add-2.ensures.value j lt))
    (cons_eq (sum 2 _ (c.add-3.ensures.value j lt))
    (cons_eq (sum 3 _ (c.add-4.ensures.value j lt))
    (cons_eq (sum 4 _ (c.add-5.ensures.value j lt)) refl))))
    ∙ compress_is h w b (c.schedule.ensures j lt b begins) (c.twenty_rounds-4.ensures j lt h third)
