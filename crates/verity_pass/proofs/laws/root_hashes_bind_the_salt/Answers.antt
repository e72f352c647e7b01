use Rattle.verity_pass.proofs.BoundData.{salt-bound}
use Rattle.verity_pass.proofs.laws.root_hashes_bind_the_salt.Goals as goal

pub returns : goal.returns
returns c = salt-bound
