-- The digest of the block that is left.
use Rattle.std.{proofs.Common.{◌≡◌, ℕ, ◌+◌, ◌-◌, ◌*◌, ◌<◌, List, length, take, drop, arith, refl, subst, sym, ◌∙◌, ap}, specs.Fork.slice_chunk}
use Rattle.{verity_plan.{specs.{PlanCounts.level_count_of, Settings.hash}, proofs.CountLemmas.mul_le}, verity_blocks.specs.Steps.Feeding.Stands}
use Rattle.verity_blocks.proofs.{OpenBlocks.OpenBlock.{hash-by, length-hash}, ClosingSteps.{Asking.{left-root, top-left}, Climbing.nothing-out}}
use Rattle.verity_blocks.proofs.closing.digest_at_the_top.Goals as goal

pub root_of_fed-requires-clause-opened : goal.root_of_fed-requires-clause-opened
root_of_fed-requires-clause-opened c =
    let step = c.requires.step in
    omega (arith, mul_le (level_count_of c.args.plan.now) c.args.levels c.args.plan.now.settings.hash_block step.own, step.open_room)

pub returns-then-levels-eq0-clause-digest : goal.returns-then-levels-eq0-clause-digest
returns-then-levels-eq0-clause-digest c = λ fed all h.
    let p = c.args.plan.now in
    let step = c.requires.step in
    c.root_of_fed.ensures.root c.args.levels fed step.own step.open_room all
    (nothing-out p c.args.levels c.args.levels fed c.args.opened.now c.args.window.now c.if-levels-eq0.true h)
    ∙ sym (left-root p c.args.levels fed (omega (arith, step.own, c.if-levels-eq0.true)))

pub returns-then-levels-eq0-clause-stays : goal.returns-then-levels-eq0-clause-stays
returns-then-levels-eq0-clause-stays c = λ fed all h.
    let p = c.args.plan.now in
    let step = c.requires.step in
    subst (λ (n : ℕ). Stands p c.args.levels fed n c.root_of_fed.new.opened c.root_of_fed.new.window)
    (sym c.if-levels-eq0.true)
    (c.root_of_fed.ensures.stays c.args.levels fed step.own step.open_room all
    (nothing-out p c.args.levels c.args.levels fed c.args.opened.now c.args.window.now c.if-levels-eq0.true h))

-- the range of the top level's hash block
top-range : (opened : List ℕ) (levels size block : ℕ) → 0 < levels → size ≡ block
    → take (levels * size - (levels - 1) * size) (drop ((levels - 1) * size) opened)
    ≡ slice_chunk opened block (levels - 1)
top-range opened levels size block some is =
    let low : levels ≡ levels - 1 + 1 = omega (arith, some) in
    let wide : levels * size - (levels - 1) * size ≡ block = omega (arith, is, ap (λ (n : ℕ). n * size) low) in
    rw (wide, is) refl

pub returns-clause-digest : goal.returns-clause-digest
returns-clause-digest c = λ fed all h.
    let p = c.args.plan.now in
    let step = c.requires.step in
    let some : 0 < c.args.levels = omega (arith, c.if-levels-eq0.false) in
    (hash-by _ _ _ _ c.settings.ensures c.hash.ensures)
    ∙ ap (hash p.settings) (top-range c.args.opened.now c.args.levels c.hash_block-size.result p.settings.hash_block some
    c.hash_block-size.ensures
    ∙ top-left p c.args.levels fed c.args.opened.now c.args.window.now step.planned step.own some all h)

pub returns-clause-size : goal.returns-clause-size
returns-clause-size c =
    ap length (hash-by _ _ _ _ c.settings.ensures c.hash.ensures) ∙ length-hash c.args.plan.now.settings _
