use Rattle.std.proofs.{Common.{◌≡◌, ◌+◌, ◌*◌, take, drop, ap, sym, ◌∙◌, arith}, Math.ListN.length-set}
use Rattle.sha_lanes.{proofs.{LaneWise.lane_store, Hash64.{first_words_start, first_words_more, word_of_part}}, specs.Lanes.lane}
use Rattle.sha2.specs.Sha512 as S512
use Rattle.sha_lanes.proofs.words64.schedule.load.Goals as goal

pub loop-t-init : goal.loop-t-init
loop-t-init c = record { long = c.told-w; words = λ j lt within. first_words_start _ }

pub loop-t-preserved : goal.loop-t-preserved
loop-t-preserved c = record {
  long = length-set c.loop-t.w c.loop-t.t c.words_at.result ∙ c.loop-t.invariant.long;
  words = λ j lt within.
      lane_store c.loop-t.w c.words_at.result j c.loop-t.t (omega arith)
      ∙ first_words_more (take 128 (drop (j * c.args.len + c.args.from) c.args.parts.now)) c.loop-t.t _ (c.loop-t.invariant.words j lt within)
      (c.words_at.ensures.value j lt
      ∙ ap (λ z. S512.word_at c.args.parts.now (z + (c.args.from + 8 * c.loop-t.t))) (c.places_of-places.ensures.own j (omega arith) within)
      ∙ word_of_part c.args.parts.now (j * c.args.len) c.args.from (8 * c.loop-t.t) (omega arith));
}

pub returns : goal.returns
returns c j lt within =
    let end : c.loop-t.t ≡ 16 = omega arith in
    ap (λ z. take z (lane c.loop-t.w j)) (sym end)
    ∙ (c.loop-t.invariant.words j lt within ∙ ap (S512.first_words (take 128 (drop (j * c.args.len + c.args.from) c.args.parts.now))) end)
