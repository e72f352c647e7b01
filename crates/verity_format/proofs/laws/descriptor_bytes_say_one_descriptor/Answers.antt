use Rattle.verity_format.proofs.DescriptorLemmas.{one-descriptor}
use Rattle.verity_format.proofs.laws.descriptor_bytes_say_one_descriptor.Goals as goal

pub returns : goal.returns
returns c = one-descriptor
