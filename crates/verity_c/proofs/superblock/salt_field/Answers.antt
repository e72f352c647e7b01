use Rattle.verity_c_api.proofs.ReadLemmas.{filled}
use Rattle.verity_c.proofs.superblock.salt_field.Goals as goal

pub returns : goal.returns
returns c = filled c.args.salt.now _ c.copy_from_slice.ensures.after
