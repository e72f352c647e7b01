-- The digest goes up through all levels.
use Rattle.{std.proofs.Common.{◌-◌, arith, ◌∙◌}, verity_plan.proofs.PlanLemmas.blocks-some}
use Rattle.verity_blocks.proofs.ClosingSteps.Asking.{HasFed-asked, above-top, root-above}
use Rattle.verity_blocks.proofs.closing.root_of_fed.Goals as goal

pub returns-clause-root : goal.returns-clause-root
returns-clause-root c = λ levels fed enough room all h.
    let p = c.args.plan.now in
    (c.digest_below.ensures.asks levels fed enough room all h).digest_is
    ∙ root-above p (p.blocks - 1) c.levels.result fed c.requires.planned (omega (arith, blocks-some p c.requires.planned))
    c.levels.ensures

pub returns-clause-stays : goal.returns-clause-stays
returns-clause-stays c = λ levels fed enough room all h.
    let p = c.args.plan.now in
    HasFed-asked p levels (p.blocks - 1) c.levels.result fed c.args.opened.now c.digest_below.new.opened c.args.window.now
    c.digest_below.new.window _ c.requires.planned all
    (λ l high. above-top p (p.blocks - 1) l c.requires.planned (omega (arith, blocks-some p c.requires.planned))
    (omega (arith, high, c.levels.ensures)))
    c.digest_below.ensures.stays (c.digest_below.ensures.asks levels fed enough room all h) h
