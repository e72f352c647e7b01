use Rattle.std.proofs.{Common.{◌<◌, slice_index, sym, ◌∙◌, arith, below_more}, Math.ListN.length-set}
use Rattle.sha_lanes.proofs.{LaneWise.{splat_lanes, lane_at, lane_kept}, OneMessage.constants_of_zeros32}
use Rattle.sha2.specs.Sha256 as S256
use Rattle.sha_lanes.proofs.words32.plain_rounds.set_constants.Goals as goal

pub loop-t-preserved : goal.loop-t-preserved
loop-t-preserved c =
    let t = c.loop-t.t in
    let below : t < 64 = omega arith in
    record {
      long = length-set c.loop-t.kw t _ ∙ c.loop-t.invariant.long;
      words = λ j lt. below_more _ _
          (λ i before. lane_kept c.loop-t.kw _ j i t before ∙ c.loop-t.invariant.words j lt i before)
          (lane_at c.loop-t.kw _ j t (omega (arith, c.loop-t.invariant.long)) ∙ ((splat_lanes 8 (slice_index S256.round_constants t)).value j lt
          ∙ sym (constants_of_zeros32 t below)));
    }
