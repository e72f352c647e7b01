use Rattle.std.proofs.{Common.{◌≡◌, ◌-◌, ◌∙◌, arith}, Math.ListN.length-set}
use Rattle.sha_lanes.proofs.HashSha1.{schedule_start, schedule_more, schedule_whole}
use Rattle.sha_lanes.proofs.sha_1.schedule.schedule.Goals as goal

pub loop-t-init : goal.loop-t-init
loop-t-init c = record { long = c.told-w; words = λ j lt b begins. schedule_start b _ begins }

pub loop-t-preserved : goal.loop-t-preserved
loop-t-preserved c = record {
  long = length-set c.loop-t.w c.loop-t.t c.next_word.result ∙ c.loop-t.invariant.long;
  words = λ j lt b begins.
      schedule_more c.loop-t.w c.next_word.result j b (c.loop-t.t - 16) c.loop-t.t (omega arith) (omega arith)
      (c.loop-t.invariant.words j lt b begins) (c.next_word.ensures.value j lt);
}

pub returns : goal.returns
returns c j lt b begins =
    let end : c.loop-t.t ≡ 80 = omega arith in
    schedule_whole c.loop-t.w j b c.loop-t.t end c.loop-t.invariant.long (c.loop-t.invariant.words j lt b begins)
