use Rattle.{std.proofs.Common.{arith, ◌<◌, ◌≤◌}, verity_builders.proofs.Trees.TreeMemory.last-in}
use Rattle.verity_builders.proofs.fed_tree.last_handed_out.Goals as goal

pub handed_out-requires-clause-below : goal.handed_out-requires-clause-below
handed_out-requires-clause-below c =
    let n = c.args.progress.now.fed in
    let some : 0 < n = omega (arith, c.if-progress-eq0.false) in
    let most : n ≤ c.args.own.now.wanted = omega (arith, c.in_default.ensures.none) in
    last-in c.args.whole.now c.args.own.now c.args.first c.args.levels n c.planned.ensures c.requires some most
