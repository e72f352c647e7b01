use Rattle.{std.proofs.Common.{arith, refl, ◌∙◌}, verity_builders.proofs.Trees.TreeMemory.{Feeds-of, IsFedTo-tree, taking-tree}}
use Rattle.verity_builders.proofs.tree_builder.TreeBuilder.feed.Goals as goal

pub feed_piece-requires-clause-tree : goal.feed_piece-requires-clause-tree
feed_piece-requires-clause-tree c = record {
  settings_are = refl;
  own_levels = omega (arith, c.levels.ensures);
  levels_most = omega (arith, c.levels.ensures);
  within = omega arith;
}

pub feed_piece-requires-clause-memory : goal.feed_piece-requires-clause-memory
feed_piece-requires-clause-memory c = rw c.levels.ensures c.requires

pub returns-in-Err-clause-fault : goal.returns-in-Err-clause-fault
returns-in-Err-clause-fault c =
    c.in-Err.ensures.fault ∙ taking-tree c.args.self.now c.levels.result _ c.levels.ensures

pub returns-in-Ok-clause-fault : goal.returns-in-Ok-clause-fault
returns-in-Ok-clause-fault c =
    c.in-Ok.ensures.fault ∙ taking-tree c.args.self.now c.levels.result _ c.levels.ensures

pub returns-in-Ok-clause-takes : goal.returns-in-Ok-clause-takes
returns-in-Ok-clause-takes c =
    let takes = rw c.levels.ensures at c.in-Ok.ensures.takes in
    record {
      fed_is = takes.fed_is;
      most = takes.most;
      all = takes.all;
      done = takes.done;
      placed = takes.placed;
      waits = takes.waits;
      rises = takes.rises;
    }

pub returns-in-Ok-clause-fed : goal.returns-in-Ok-clause-fed
returns-in-Ok-clause-fed c = λ fed h.
    let takes = rw c.levels.ensures at c.in-Ok.ensures.takes in
    Feeds-of c.args.self.now c.feed_piece.new.progress fed _ c.feed_piece.new.memory _
    c.feed_piece.ensures.planned
    (rw c.levels.ensures at (c.in-Ok.ensures.fed fed (rw c.levels.ensures (IsFedTo-tree c.args.self.now c.args.memory.now fed h))))
    takes.placed
