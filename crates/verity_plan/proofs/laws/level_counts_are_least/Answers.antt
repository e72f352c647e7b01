use Rattle.verity_plan.proofs.CountLemmas.{IsLevelCount-level_count}
use Rattle.verity_plan.proofs.laws.level_counts_are_least.Goals as goal

pub returns : goal.returns
returns c = IsLevelCount-level_count
