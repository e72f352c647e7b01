use Rattle.{std.proofs.Common.{arith, ◌<◌}, verity_builders.proofs.Joins.JoinMemory.IsHandedOutOfJoin-last}
use Rattle.verity_builders.proofs.join_builder.JoinBuilder.last_block.Goals as goal

pub returns-clause-stands : goal.returns-clause-stands
returns-clause-stands c = λ memory bytes h.
    let b = c.args.self.now in
    let some : 0 < b.closed = omega (arith, c.if-self-eq0-2.false) in
    IsHandedOutOfJoin-last b memory bytes c.joined.result some (record {
      level_is = c.joined.ensures.level;
      level_least = omega (arith, c.joined.ensures.level, some);
      level_below = omega (arith, c.joined.ensures.level, h.closed_most, some);
      index_is = c.joined.ensures.index;
      start_is = c.joined.ensures.start;
      at_is = c.joined.ensures.at;
    }) h
