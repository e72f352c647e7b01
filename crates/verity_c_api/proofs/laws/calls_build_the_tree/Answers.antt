use Rattle.verity_c_api.proofs.BuildingLoopLemmas.{last-built, pieces-built}
use Rattle.verity_c_api.proofs.laws.calls_build_the_tree.Goals as goal

pub returns-clause-calls : goal.returns-clause-calls
returns-clause-calls c = last-built

pub returns-clause-pieces : goal.returns-clause-pieces
returns-clause-pieces c = pieces-built
