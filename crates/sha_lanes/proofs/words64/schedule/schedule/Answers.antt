use Rattle.std.proofs.{Common.{◌+◌, ◌*◌, ◌<◌, length, set, refl, ◌∙◌, arith}, Math.ListN.length-set}
use Rattle.sha_lanes.proofs.{LaneWise.two_stored, Hash64.{schedule_start, schedule_two, schedule_whole}}
use Rattle.sha_lanes.proofs.words64.schedule.schedule.Goals as goal

pub loop-turn-init : goal.loop-turn-init
loop-turn-init c = record { long = c.told-w; even = refl; odd = refl; words = λ j lt b begins. schedule_start b _ begins }

pub loop-turn-preserved : goal.loop-turn-preserved
loop-turn-preserved c =
    let w = c.loop-turn.w in
    let x = c.next_word-even.result in
    let y = c.next_word-odd.result in
    let t = 16 + 2 * c.loop-turn.turn in
    let t' = 16 + 2 * (c.loop-turn.turn + 1) in
    let room : t + 1 < length w = omega (arith, c.loop-turn.invariant.long) in
    let stored = two_stored w x y t t' room (omega arith) in
    record {
      long = length-set (set w t x) (t + 1) y ∙ (length-set w t x ∙ c.loop-turn.invariant.long);
      even = stored.0;
      odd = stored.1;
      words = λ j lt b begins.
          schedule_two w c.loop-turn.even c.loop-turn.odd x y j b (2 * c.loop-turn.turn) (2 * (c.loop-turn.turn + 1)) t t'
          (omega arith) room (omega arith) (omega arith) c.loop-turn.invariant.even c.loop-turn.invariant.odd
          (c.loop-turn.invariant.words j lt b begins) (c.next_word-even.ensures.value j lt) (c.next_word-odd.ensures.value j lt);
    }

pub returns : goal.returns
returns c j lt b begins =
    schedule_whole c.loop-turn.w j b (2 * c.loop-turn.turn) (omega arith) c.loop-turn.invariant.long
    (c.loop-turn.invariant.words j lt b begins)
