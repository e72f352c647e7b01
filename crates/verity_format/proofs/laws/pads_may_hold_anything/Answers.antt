use Rattle.verity_format.proofs.PadLemmas.{pads-fault, pads-said}
use Rattle.verity_format.proofs.laws.pads_may_hold_anything.Goals as goal

pub returns-clause-said : goal.returns-clause-said
returns-clause-said c = pads-said

pub returns-clause-fault : goal.returns-clause-fault
returns-clause-fault c = pads-fault
