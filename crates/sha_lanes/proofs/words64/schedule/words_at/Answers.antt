use Rattle.{std.proofs.Common.refl, sha_lanes.proofs.LaneWise.four_cases}
use Rattle.sha_lanes.proofs.words64.schedule.words_at.Goals as goal

pub returns : goal.returns
returns c = record {
  long = refl;
  value = four_cases _ c.word_at.ensures c.word_at-2.ensures c.word_at-3.ensures c.word_at-4.ensures;
}
