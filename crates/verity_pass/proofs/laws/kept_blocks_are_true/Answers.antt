use Rattle.verity_pass.proofs.KeptBlocks.{kept-true}
use Rattle.verity_pass.proofs.laws.kept_blocks_are_true.Goals as goal

pub returns : goal.returns
returns c = kept-true
