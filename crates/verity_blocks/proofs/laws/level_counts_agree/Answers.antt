use Rattle.{verity_plan.proofs.FanLemmas.fan-some, verity_blocks.proofs.Levels.LevelCounts.height-level_count}
use Rattle.verity_blocks.proofs.laws.level_counts_agree.Goals as goal

pub returns : goal.returns
returns c = λ s blocks. height-level_count s blocks (fan-some s)
