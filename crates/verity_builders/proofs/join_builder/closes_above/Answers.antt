use Rattle.{std.proofs.Common.arith, verity_builders.proofs.join_builder.closes_above.Goals.then-level-eq0-via-then-level-eq0}
use Rattle.verity_builders.proofs.join_builder.closes_above.Goals.{then-level-eq0-via-else-level-eq0+then-level-levels}
use Rattle.verity_builders.proofs.join_builder.closes_above.Goals.{then-level-eq0-via-else-level-eq0+else-level-levels+then-progress-eq0}
use Rattle.verity_builders.proofs.join_builder.closes_above.Goals as goal

pub returns-then-level-eq0-clause-last : goal.returns-then-level-eq0-clause-last
returns-then-level-eq0-clause-last c = λ _ all came. elim c.then-level-eq0.branch [
  | then-level-eq0-via-then-level-eq0 w ↦ absurd (omega (arith, w.if-level-eq0.true, came))
  | then-level-eq0-via-else-level-eq0+then-level-levels w ↦ omega (arith, w.if-level-levels.true, w.levels.ensures)
  | then-level-eq0-via-else-level-eq0+else-level-levels+then-progress-eq0 w ↦
      absurd (omega (arith, w.if-progress-eq0.true, came))
]
