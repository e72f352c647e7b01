use Rattle.verity_c_api.proofs.KeptBlockLemmas.{fsverity-kept, verity-kept}
use Rattle.verity_c_api.proofs.laws.kept_blocks_are_true.Goals as goal

pub returns-clause-verity : goal.returns-clause-verity
returns-clause-verity c = verity-kept

pub returns-clause-fsverity : goal.returns-clause-fsverity
returns-clause-fsverity c = fsverity-kept
