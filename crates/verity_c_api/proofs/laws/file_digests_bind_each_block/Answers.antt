use Rattle.verity_c_api.proofs.TrustedBlockLemmas.{digest-binds}
use Rattle.verity_c_api.proofs.laws.file_digests_bind_each_block.Goals as goal

pub returns : goal.returns
returns c = digest-binds
