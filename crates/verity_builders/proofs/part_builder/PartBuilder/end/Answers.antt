use Rattle.{std.proofs.{Common.{List, ℕ, ◌∙◌, ◌≡◌, get_or, []}, lemmas.Result.IfOk-weaker}, verity_plan.specs.Settings.hash}
use Rattle.{verity_blocks.specs.Levels.{blocks_up, data_blocks}, verity_builders.proofs.Parts.PartMemory.{IsFedTo-part, digest-part, own-digest}}
use Rattle.verity_builders.{proofs.Parts.PlanOfPart.has-part, specs.Parts.{IsDigestOfPart, plan_of_part}}
use Rattle.verity_builders.proofs.part_builder.PartBuilder.end.Goals as goal

pub digest_of_fed-requires-clause-levels : goal.digest_of_fed-requires-clause-levels
digest_of_fed-requires-clause-levels c =
    let b = c.args.self.now in
    let own = c.in-Ok.ensures in
    rw own.plan (has-part b.plan b.level b.part own.planned own.part).levels_most

pub digest_of_fed-requires-clause-memory : goal.digest_of_fed-requires-clause-memory
digest_of_fed-requires-clause-memory c = rw c.in-Ok.ensures.plan c.requires

pub returns-clause-fault : goal.returns-clause-fault
returns-clause-fault c =
    (rw c.in-Ok.ensures.plan at c.digest_of_fed.ensures.fault) ∙ digest-part c.args.self.now c.in-Ok.ensures.part

pub returns-clause-size : goal.returns-clause-size
returns-clause-size c = rw c.in-Ok.ensures.plan at c.digest_of_fed.ensures.size

pub returns-clause-digest : goal.returns-clause-digest
returns-clause-digest c = λ fed h.
    let b = c.args.self.now in
    let own = c.in-Ok.ensures in
    let s = b.plan.settings in
    IfOk-weaker c.digest_of_fed.result
    (λ (answer : List ℕ). answer
    ≡ hash s (get_or (blocks_up s (data_blocks (plan_of_part b.plan b.level b.part) fed) b.level) 0 []))
    (λ (answer : List ℕ). IsDigestOfPart b fed answer)
    (λ answer is all has. is ∙ own-digest b.plan b.level b.part fed all own.planned own.part has)
    (rw own.plan at (c.digest_of_fed.ensures.digest fed (rw own.plan (IsFedTo-part b c.args.memory.now fed h))))

pub returns-clause-stays : goal.returns-clause-stays
returns-clause-stays c = λ fed h.
    let own = c.in-Ok.ensures in
    let after = rw own.plan at (c.digest_of_fed.ensures.stays fed
    (rw own.plan (IsFedTo-part c.args.self.now c.args.memory.now fed h))) in
    record { part = h.part; count = after.count; stands = after.stands }
