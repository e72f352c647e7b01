-- The digest goes up level after level.
use Rattle.{std.proofs.Common.{◌≡◌, ℕ, ◌-◌, ◌*◌, arith, ap, sym, ◌∙◌}, verity_plan.proofs.PlanLemmas.blocks-some}
use Rattle.verity_blocks.specs.{ClosingOrder.blocks_before, Levels.data_blocks, Steps.Feeding.{last_window, windows_before}, Windows.window_blocks}
use Rattle.verity_blocks.proofs.{ClosingSteps.Asking.IsAsking-first, Windows.{LastByte.last-block, RowsOfWindow.window-beside}}
use Rattle.verity_blocks.proofs.Levels.CutBlocks.{length-cut}
use Rattle.verity_blocks.proofs.closing.digest_below.Goals as goal

pub loop-level-init : goal.loop-level-init
loop-level-init c = record {
  size = c.add_window-digest.ensures.size;
  asks = λ levels fed enough room all h.
      IsAsking-first c.args.plan.now levels _ (c.blocks-last.result - 1) fed _ _ c.requires.planned all
      (omega (arith, blocks-some c.args.plan.now c.requires.planned, c.blocks-last.ensures.value))
      (c.add_window-digest.ensures.adds levels fed enough room (all ∙ sym c.wanted-wanted.ensures.value) h);
}

pub digest_with-digest-requires-clause-beside : goal.digest_with-digest-requires-clause-beside
digest_with-digest-requires-clause-beside c =
    let p = c.args.plan.now in
    let last : blocks_before p.settings c.wanted-wanted.result ≡ c.blocks-last.result - 1 =
    ap (blocks_before p.settings) c.wanted-wanted.ensures.value
    ∙ omega (arith, last-block p c.requires.planned, c.blocks-last.ensures.value) in
    rw (c.window_place-first.ensures.first_is, ← last) (window-beside p.settings c.wanted-wanted.result c.requires.planned.valid
    (omega (arith, c.wanted-wanted.ensures.value, c.requires.planned.some)))

pub loop-level-preserved : goal.loop-level-preserved
loop-level-preserved c = record {
  size = c.digest_with-digest.ensures.size;
  asks = λ levels fed enough room all h.
      let p = c.args.plan.now in
      c.digest_with-digest.ensures.asks (data_blocks p fed) levels (sym (length-cut p.settings p.blocks p.wanted fed))
      (omega (arith, c.loop-level-test.true, c.requires.level, enough))
      (omega (arith, room, c.loop-level.auto.opened)) (c.loop-level.invariant.asks levels fed enough room all h);
}

pub returns-clause-asks : goal.returns-clause-asks
returns-clause-asks c = λ levels fed enough room all h.
    let p = c.args.plan.now in
    let first : c.window_place-first.result.first ≡ last_window p =
    c.window_place-first.ensures.first_is
    ∙ ap (λ (n : ℕ). windows_before p.settings n * window_blocks p.settings) c.wanted-wanted.ensures.value in
    let last : c.blocks-last.result - 1 ≡ p.blocks - 1 = omega (arith, c.blocks-last.ensures.value) in
    let top : c.loop-level.level ≡ c.args.to = omega (arith, c.loop-level.auto.level-end, c.loop-level-test.false) in
    rw (first, last, top) at (c.loop-level.invariant.asks levels fed enough room all h)
