use Rattle.verity_builders.proofs.Parts.{WrittenInAnyOrder.any-order, PartsInOrder.parts-once}
use Rattle.verity_builders.proofs.laws.parts_joined_are_the_tree.Goals as goal

pub returns-clause-once : goal.returns-clause-once
returns-clause-once c = parts-once

pub returns-clause-any_order : goal.returns-clause-any_order
returns-clause-any_order c = any-order
