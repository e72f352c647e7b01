use Rattle.{std.proofs.Common.arith, verity_c.proofs.LevelLemmas.HasBlock-first}
use Rattle.verity_c.proofs.levels.set_level_start.Goals as goal

pub start-requires : goal.start-requires
start-requires c =
    HasBlock-first c.in-Ok.plan c.args.level c.blocks-planned.ensures.planned
    (omega (arith, c.if-level-levels.false, c.levels.ensures))
