use Rattle.std.proofs.{lemmas.List.{get_or-set_same, get_or-set_other}, Common.{[], get_or, slice_index, ap, sym, ◌∙◌, arith, below_more}}
use Rattle.{sha_lanes.proofs.{LaneWise.{splat_lanes, word_of_lane}, HashSha1.kind_constant}, std.proofs.Math.ListN.length-set}
use Rattle.sha1.specs.Sha1 as S1
use Rattle.sha_lanes.proofs.sha_1.plain_rounds.add_constants.Goals as goal

pub loop-t-preserved : goal.loop-t-preserved
loop-t-preserved c =
    let t = c.loop-t.t in
    let sum = c.add.result in
    record {
      long = length-set c.loop-t.kw t sum ∙ c.loop-t.invariant.long;
      added = λ j lt. below_more _ _
          (λ i before. ap (λ z. slice_index z j) (get_or-set_other c.loop-t.kw t i sum [] (omega arith)) ∙ c.loop-t.invariant.added j lt i before)
          (ap (λ z. slice_index z j) (get_or-set_same c.loop-t.kw t sum [] (omega (arith, c.loop-t.invariant.long)))
          ∙ (c.add.ensures.value j lt
          ∙ ap (S1.add32 (slice_index (get_or c.args.w.now t []) j))
          ((splat_lanes 8 c.constant.result).value j lt
          ∙ (c.constant.ensures ∙ kind_constant c.kind_of.result t c.kind_of.ensures.first c.kind_of.ensures.last))));
    }

pub returns : goal.returns
returns c j lt t below =
    sym (word_of_lane c.loop-t.kw j t)
    ∙ (c.loop-t.invariant.added j lt t (omega arith)
    ∙ ap (λ z. S1.add32 z (S1.round_constant t)) (word_of_lane c.args.w.now j t))
