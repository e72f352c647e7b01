use Rattle.{std.proofs.Common.{sym, ◌∙◌}, verity_plan.proofs.FanLemmas.fan-two, verity_pass.proofs.BoundData.{blocks-bound, data-bound}}
use Rattle.verity_blocks.{proofs.Levels.CutBlocks.length-cut, specs.Levels.data_blocks}
use Rattle.verity_pass.proofs.laws.root_hashes_bind_the_data.Goals as goal

pub returns-clause-blocks : goal.returns-clause-blocks
returns-clause-blocks c = λ p x y planned. blocks-bound p.settings (data_blocks p x) (data_blocks p y)
    (fan-two p.settings planned.valid)
    (length-cut p.settings p.blocks p.wanted x ∙ sym (length-cut p.settings p.blocks p.wanted y))

pub returns-clause-bytes : goal.returns-clause-bytes
returns-clause-bytes c = data-bound
