use Rattle.verity_pass.proofs.HeldTree.{holds-right, right-holds}
use Rattle.verity_pass.proofs.laws.right_devices_hold_the_tree.Goals as goal

pub returns : goal.returns
returns c = λ p device bytes digest planned.
    (right-holds p device bytes digest planned, holds-right p device bytes digest)
