use Rattle.verity_c_api.proofs.PartsLoopLemmas.{fsverity-built, verity-built}
use Rattle.verity_c_api.proofs.laws.calls_build_the_tree_from_parts.Goals as goal

pub returns-clause-verity : goal.returns-clause-verity
returns-clause-verity c = verity-built

pub returns-clause-fsverity : goal.returns-clause-fsverity
returns-clause-fsverity c = fsverity-built
