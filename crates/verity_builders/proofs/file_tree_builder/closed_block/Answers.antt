use Rattle.{std.proofs.Common.{arith, ◌+◌, ◌≡◌}, verity_plan.proofs.PlanLemmas.levels_most}
use Rattle.verity_blocks.{specs.ClosingOrder.blocks_before, proofs.Windows.LastByte.last-below}
use Rattle.verity_builders.proofs.file_tree_builder.closed_block.Goals as goal

pub handed_out-block-requires-clause-below : goal.handed_out-block-requires-clause-below
handed_out-block-requires-clause-below c =
    omega (
      arith,
      last-below c.args.plan.now c.args.progress.now.fed c.planned.ensures c.requires.some c.requires.most,
    )

pub returns-clause-placed : goal.returns-clause-placed
returns-clause-placed c =
    let block = c.handed_out-block.ensures in
    let n = blocks_before c.args.plan.now.settings c.args.progress.now.fed in
    let first : 0 + n ≡ n = omega arith in
    record {
      level_is = block.level;
      level_below = omega (arith, block.level, c.requires.level, levels_most c.args.plan.now c.planned.ensures);
      index_is = rw first at block.index;
      at_is = block.at;
    }
