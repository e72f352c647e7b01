use Rattle.verity_blocks.proofs.Order.ClosesOnce.{ClosesOnce-all}
use Rattle.verity_blocks.proofs.laws.closing_order_is_once.Goals as goal

pub returns : goal.returns
returns c = ClosesOnce-all
