-- The last hash block of a level, above the digest that comes to it.
use Rattle.std.proofs.Common.{◌≡◌, ℕ, ◌+◌, ◌-◌, ◌*◌, ◌/◌, ◌^◌, ◌≤◌, List, length, arith, ap, sym, ◌∙◌}
use Rattle.verity_plan.{specs.{Settings.fan, PlanCounts.level_count_of}, proofs.PlanLemmas.{blocks-some, levels_few}}
use Rattle.verity_blocks.specs.{ClosingOrder.blocks_before, Levels.data_blocks, Steps.Feeding.{HasFed, last_window, windows_before}}
use Rattle.verity_blocks.specs.{Steps.OpenBlocks.{IsAsking, carry_state}, TreeOnDevice.tree_block, Windows.window_blocks}
use Rattle.verity_blocks.proofs.{ClosingSteps.Asking.{HasFed-asked, above-level}, Windows.{LastByte.last-block, RowsOfWindow.window-beside}}
use Rattle.verity_blocks.proofs.{Levels.CutBlocks.length-cut, closing.last_block_of_fed.Goals.{After-block_with, After-digest_below-digest}}
use Rattle.verity_blocks.proofs.closing.last_block_of_fed.Goals as goal

-- the last data block, as the code counts it
last-is : (c : After-digest_below-digest) → c.blocks-last.result - 1 ≡ c.args.plan.now.blocks - 1
last-is c = omega (arith, c.blocks-last.ensures.value)

-- the first data block of its window
first-is : (c : After-digest_below-digest) → c.window_place-first.result.first ≡ last_window c.args.plan.now
first-is c =
    let s = c.args.plan.now.settings in
    c.window_place-first.ensures.first_is
    ∙ ap (λ (n : ℕ). windows_before s n * window_blocks s) c.wanted.ensures.value

pub block_with-requires-clause-beside : goal.block_with-requires-clause-beside
block_with-requires-clause-beside c =
    let p = c.args.plan.now in
    let at = (goal.at.block_with-requires-clause-beside c).After-digest_below-digest in
    let last : blocks_before p.settings p.wanted ≡ c.blocks-last.result - 1 =
    omega (arith, last-block p c.requires.planned, c.blocks-last.ensures.value) in
    rw (first-is at, ← last) (window-beside p.settings p.wanted c.requires.planned.valid c.requires.planned.some)

pub overflow_add-level : goal.overflow_add-level
overflow_add-level c = omega (arith, c.requires.level, levels_few c.args.plan.now c.requires.planned)

pub returns-clause-index : goal.returns-clause-index
returns-clause-index c =
    let p = c.args.plan.now in
    let last : c.blocks-last.result - 1 ≡ blocks_before p.settings p.wanted =
    omega (arith, last-block p c.requires.planned, c.blocks-last.ensures.value) in
    c.index_above.ensures ∙ ap (λ (i : ℕ). i / fan p.settings ^ (c.args.level + 1)) last

-- what the digest is put on
asking : (c : After-block_with) → (levels : ℕ) (fed : List ℕ) → level_count_of c.args.plan.now ≤ levels
    → levels * c.args.plan.now.settings.hash_block ≤ length c.args.opened.now → length fed ≡ c.args.plan.now.wanted
    → HasFed c.args.plan.now.settings levels fed c.args.opened.now c.args.window.now
    → IsAsking c.args.plan.now.settings (data_blocks c.args.plan.now fed) c.window_place-first.result.first
    (carry_state (c.blocks-last.result - 1) c.args.level levels) c.digest_below-digest.new.opened c.digest_below-digest.result
asking c levels fed enough room all h =
    let at = (goal.at.After-block_with c).After-digest_below-digest in
    rw (first-is at, last-is at) (c.digest_below-digest.ensures.asks levels fed enough room all h)

pub returns-clause-block : goal.returns-clause-block
returns-clause-block c = λ levels fed enough room all h.
    let p = c.args.plan.now in
    c.block_with.ensures.block (data_blocks p fed) levels (sym (length-cut p.settings p.blocks p.wanted fed))
    (omega (arith, c.requires.level, enough)) (omega (arith, room, c.digest_below-digest.auto.opened))
    (asking (goal.at.returns-clause-block c).After-block_with levels fed enough room all h)
    ∙ ap (tree_block p.settings (data_blocks p fed) c.args.level) (sym c.index_above.ensures)

pub returns-clause-stays : goal.returns-clause-stays
returns-clause-stays c = λ levels fed enough room all h.
    let p = c.args.plan.now in
    let at = (goal.at.returns-clause-stays c).After-digest_below-digest in
    let asked = c.block_with.ensures.asks (data_blocks p fed) levels (sym (length-cut p.settings p.blocks p.wanted fed))
    (omega (arith, c.requires.level, enough)) (omega (arith, room, c.digest_below-digest.auto.opened))
    (asking (goal.at.returns-clause-stays c).After-block_with levels fed enough room all h) in
    HasFed-asked p levels (p.blocks - 1) (c.args.level + 1) fed c.args.opened.now c.block_with.new.opened c.args.window.now
    c.digest_below-digest.new.window _ c.requires.planned all
    (λ l high. above-level p (p.blocks - 1) c.args.level l c.requires.planned
    (omega (arith, blocks-some p c.requires.planned)) high)
    c.digest_below-digest.ensures.stays (rw (first-is at, last-is at) at asked) h
