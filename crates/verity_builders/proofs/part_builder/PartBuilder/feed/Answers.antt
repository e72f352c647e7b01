use Rattle.{std.proofs.Common.{refl, ◌∙◌}, verity_builders.proofs.Parts.PartMemory.{FeedsPart-of, IsFedTo-part, IsTreeIn-part, piece-part}}
use Rattle.verity_builders.proofs.part_builder.PartBuilder.feed.Goals as goal

pub feed_piece-requires-clause-tree : goal.feed_piece-requires-clause-tree
feed_piece-requires-clause-tree c =
    let b = c.args.self.now in
    let own = c.in-Ok.ensures in
    rw (own.plan, own.first) (IsTreeIn-part b.plan b.level b.part own.planned own.part)

pub feed_piece-requires-clause-memory : goal.feed_piece-requires-clause-memory
feed_piece-requires-clause-memory c = rw c.in-Ok.ensures.plan c.requires

pub returns-in-Err-clause-fault : goal.returns-in-Err-clause-fault
returns-in-Err-clause-fault c =
    (rw c.in-Ok.ensures.plan at c.in-Err.ensures.fault) ∙ piece-part c.args.self.now _ c.in-Ok.ensures.part

pub returns-in-Ok-feed_piece-clause-fault : goal.returns-in-Ok-feed_piece-clause-fault
returns-in-Ok-feed_piece-clause-fault c =
    (rw c.in-Ok.ensures.plan at c.in-Ok-feed_piece.ensures.fault) ∙ piece-part c.args.self.now _ c.in-Ok.ensures.part

pub returns-in-Ok-feed_piece-clause-takes : goal.returns-in-Ok-feed_piece-clause-takes
returns-in-Ok-feed_piece-clause-takes c =
    let takes = rw (c.in-Ok.ensures.plan, c.in-Ok.ensures.first) at c.in-Ok-feed_piece.ensures.takes in
    record {
      plan_is = refl;
      level_is = refl;
      part_is = refl;
      fed_is = takes.fed_is;
      most = takes.most;
      all = takes.all;
      done = takes.done;
      placed = takes.placed;
      waits = takes.waits;
      rises = takes.rises;
    }

pub returns-in-Ok-feed_piece-clause-fed : goal.returns-in-Ok-feed_piece-clause-fed
returns-in-Ok-feed_piece-clause-fed c = λ fed h.
    let b = c.args.self.now in
    let own = c.in-Ok.ensures in
    let takes = rw (own.plan, own.first) at c.in-Ok-feed_piece.ensures.takes in
    FeedsPart-of b c.feed_piece.new.progress fed _ c.feed_piece.new.memory _ own.planned own.part h.count
    (rw own.plan at (c.in-Ok-feed_piece.ensures.fed fed (rw own.plan (IsFedTo-part b c.args.memory.now fed h)))) takes.placed
