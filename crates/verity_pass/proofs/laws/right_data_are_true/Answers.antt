use Rattle.{verity_blocks.specs.Levels.{data_blocks, root}, verity_pass.proofs.{BoundData.data-bound, HeldTree.right-holds}}
use Rattle.verity_pass.proofs.laws.right_data_are_true.Goals as goal

pub returns : goal.returns
returns c = λ p device x y planned of_y right.
    let holds = right-holds p device x (root p.settings (data_blocks p y)) planned right in
    data-bound p x y planned holds.enough of_y holds.root_is
