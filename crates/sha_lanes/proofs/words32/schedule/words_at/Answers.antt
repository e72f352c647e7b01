use Rattle.{std.proofs.Common.refl, sha_lanes.proofs.LaneWise.eight_cases}
use Rattle.sha_lanes.proofs.words32.schedule.words_at.Goals as goal

pub returns : goal.returns
returns c = record {
  long = refl;
  value = eight_cases _ c.word_at.ensures c.word_at-2.ensures c.word_at-3.ensures c.word_at-4.ensures c.word_at-5.ensures c.word_at-6.ensures c.word_at-7.ensures c.word_at-8.ensures;
}
