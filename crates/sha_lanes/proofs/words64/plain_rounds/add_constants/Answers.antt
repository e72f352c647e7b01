use Rattle.std.proofs.{Common.{slice_index, get_or, [], ap, ◌∙◌, arith, below_more}, Math.ListN.length-set}
use Rattle.sha_lanes.proofs.LaneWise.{splat_lanes, lane_at, lane_kept, word_of_lane}
use Rattle.sha2.specs.Sha512 as S512
use Rattle.sha_lanes.proofs.words64.plain_rounds.add_constants.Goals as goal

pub loop-t-preserved : goal.loop-t-preserved
loop-t-preserved c =
    let w = c.args.w.now in
    let t = c.loop-t.t in
    let k = slice_index S512.round_constants t in
    record {
      long = length-set c.loop-t.kw t _ ∙ c.loop-t.invariant.long;
      words = λ j lt. below_more _ _
          (λ i before. lane_kept c.loop-t.kw _ j i t before ∙ c.loop-t.invariant.words j lt i before)
          (lane_at c.loop-t.kw _ j t (omega (arith, c.loop-t.invariant.long))
          ∙ (c.add.ensures.value j lt ∙ (ap (S512.add64 (slice_index (get_or w t []) j)) ((splat_lanes 4 k).value j lt)
          ∙ ap (λ z. S512.add64 z k) (word_of_lane w j t))));
    }
