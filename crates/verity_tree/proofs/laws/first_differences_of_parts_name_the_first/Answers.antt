use Rattle.verity_tree.proofs.FirstDifferences.{first-of_each, verdict-of_each}
use Rattle.verity_tree.proofs.laws.first_differences_of_parts_name_the_first.Goals as goal

pub returns-clause-first : goal.returns-clause-first
returns-clause-first c = first-of_each

pub returns-clause-verdict : goal.returns-clause-verdict
returns-clause-verdict c = verdict-of_each
