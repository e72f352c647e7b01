use Rattle.std.proofs.{Common.{◌<◌, sym, ◌∙◌, arith, below_more}, Math.ListN.length-set}
use Rattle.sha_lanes.proofs.{LaneWise.{splat_lanes, lane_at, lane_kept}, OneMessage.constants_of_zeros_sha1}
use Rattle.sha_lanes.proofs.sha_1.plain_rounds.set_constants.Goals as goal

pub loop-t-preserved : goal.loop-t-preserved
loop-t-preserved c =
    let t = c.loop-t.t in
    let below : t < 80 = omega arith in
    record {
      long = length-set c.loop-t.kw t _ ∙ c.loop-t.invariant.long;
      words = λ j lt. below_more _ _
          (λ i before. lane_kept c.loop-t.kw _ j i t before ∙ c.loop-t.invariant.words j lt i before)
          (lane_at c.loop-t.kw _ j t (omega (arith, c.loop-t.invariant.long))
          ∙ ((splat_lanes 8 c.constant.result).value j lt
          ∙ (c.constant.ensures ∙ sym (constants_of_zeros_sha1 c.kind_of.result t below c.kind_of.ensures.first c.kind_of.ensures.last))));
    }
