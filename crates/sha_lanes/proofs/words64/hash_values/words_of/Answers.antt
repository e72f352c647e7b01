use Rattle.{std.proofs.{Common.{◌∙◌, arith}, Math.ListN.length-set}, sha_lanes.proofs.LaneWise.{word_copied, lane_copied}}
use Rattle.sha_lanes.proofs.words64.hash_values.words_of.Goals as goal

pub loop-i-preserved : goal.loop-i-preserved
loop-i-preserved c = record {
  long = length-set c.loop-i.words c.loop-i.i _ ∙ c.loop-i.invariant.long;
  words = word_copied c.args.state.now c.loop-i.words c.args.j c.loop-i.i c.loop-i.invariant.long (omega arith) c.loop-i.invariant.words;
}

pub returns : goal.returns
returns c = lane_copied c.args.state.now c.loop-i.words c.args.j c.loop-i.i c.loop-i.invariant.long (omega arith) c.loop-i.invariant.words
