use Rattle.std.proofs.{Common.{◌≡◌, take, ap, sym, ◌∙◌, arith}, Math.ListN.length-set}
use Rattle.sha_lanes.{proofs.{LaneWise.{splat_lanes, lane_store}, Hash64.{first_words_start, first_words_more}}, specs.Lanes.lane}
use Rattle.sha2.specs.Sha512 as S512
use Rattle.sha_lanes.proofs.words64.schedule.load_same.Goals as goal

pub loop-t-init : goal.loop-t-init
loop-t-init c = record { long = c.told-w; words = λ j lt. first_words_start _ }

pub loop-t-preserved : goal.loop-t-preserved
loop-t-preserved c =
    let same = splat_lanes 4 c.word_at.result in
    record {
      long = length-set c.loop-t.w c.loop-t.t _ ∙ c.loop-t.invariant.long;
      words = λ j lt.
          lane_store c.loop-t.w _ j c.loop-t.t (omega (arith, c.loop-t.invariant.long))
          ∙ first_words_more c.args.block.now c.loop-t.t _ (c.loop-t.invariant.words j lt) (same.value j lt ∙ c.word_at.ensures);
    }

pub returns : goal.returns
returns c j lt =
    let end : c.loop-t.t ≡ 16 = omega arith in
    ap (λ z. take z (lane c.loop-t.w j)) (sym end)
    ∙ (c.loop-t.invariant.words j lt ∙ ap (S512.first_words c.args.block.now) end)
