use Rattle.{std.proofs.Common.◌+◌, verity_plan.proofs.FanLemmas.fan-some, verity_blocks.proofs.Levels.LevelCounts.length-blocks_up}
use Rattle.verity_blocks.proofs.laws.levels_have_sizes.Goals as goal

pub returns : goal.returns
returns c = λ s blocks l. length-blocks_up s blocks (l + 1) (fan-some s)
