use Rattle.{std.proofs.{Common.{List, ℕ, ◌∙◌, ◌≡◌, get_or, []}, lemmas.Result.IfOk-weaker}, verity_plan.specs.Settings.hash}
use Rattle.verity_blocks.{specs.Levels.{blocks_up, data_blocks, root}, proofs.ClosingSteps.Asking.left-root}
use Rattle.verity_builders.proofs.Trees.TreeMemory.{IsFedTo-tree, ending-tree}
use Rattle.verity_builders.proofs.tree_builder.TreeBuilder.end.Goals as goal

pub digest_of_fed-requires-clause-memory : goal.digest_of_fed-requires-clause-memory
digest_of_fed-requires-clause-memory c = rw c.levels.ensures c.requires

pub returns-clause-fault : goal.returns-clause-fault
returns-clause-fault c = c.digest_of_fed.ensures.fault ∙ ending-tree c.args.self.now c.levels.result c.levels.ensures

pub returns-clause-root : goal.returns-clause-root
returns-clause-root c = λ fed h.
    let p = c.args.self.now.plan in
    let s = p.settings in
    let n = c.levels.result in
    IfOk-weaker c.digest_of_fed.result
    (λ (answer : List ℕ). answer ≡ hash s (get_or (blocks_up s (data_blocks p fed) n) 0 []))
    (λ (answer : List ℕ). answer ≡ root s (data_blocks p fed))
    (λ answer is. is ∙ left-root p n fed c.levels.ensures)
    (c.digest_of_fed.ensures.digest fed (rw c.levels.ensures (IsFedTo-tree c.args.self.now c.args.memory.now fed h)))

pub returns-clause-stays : goal.returns-clause-stays
returns-clause-stays c = λ fed h.
    let after = rw c.levels.ensures at (c.digest_of_fed.ensures.stays fed
    (rw c.levels.ensures (IsFedTo-tree c.args.self.now c.args.memory.now fed h))) in
    record { count = after.count; stands = after.stands }
