use Rattle.{std.proofs.Common.{◌≡◌, ℕ, ◌*◌, ◌<◌, length, arith, ap, sym, ◌∙◌, refl}, verity_plan.specs.{PlanCounts.level_count_of, Settings.fan}}
use Rattle.verity_blocks.proofs.OpenBlocks.{ClosingBlocks.closing-below, DigestsInTurn.length-range}
use Rattle.read_one_block.proofs.ReadLemmas.{closing-place, path-more, read-stored, run-within}
use Rattle.read_one_block.proofs.image.read_path.Goals as goal

pub start-at-requires : goal.start-at-requires
start-at-requires g c =
    let p = c.args.plan.now in
    let l = c.loop-level.level in
    let some : 0 < fan p.settings = omega (arith, c.fan-fan.ensures.two, c.fan-fan.ensures.value) in
    let here = closing-place (fan p.settings) c.args.i l c.loop-level.index c.fan-fan.result
    c.loop-level.invariant.quotient c.fan-fan.ensures.value in
    record {
      level_below = omega (arith, c.loop-level-test.true, c.levels-level-end.ensures);
      index_below = omega (arith, here, closing-below (fan p.settings) p.blocks l c.args.i some c.requires.index);
    }

pub loop-level-preserved : goal.loop-level-preserved
loop-level-preserved g c =
    let p = c.args.plan.now in
    let l = c.loop-level.level in
    let inv = c.loop-level.invariant in
    let path = c.loop-level.path in
    let size = c.hash_block-size.result in
    let here = closing-place (fan p.settings) c.args.i l c.loop-level.index c.fan-fan.result inv.quotient
    c.fan-fan.ensures.value in
    let below : l < level_count_of p = omega (arith, c.loop-level-test.true, c.levels-level-end.ensures) in
    let long : length path ≡ level_count_of p * size =
    c.loop-level.auto.path ∙ c.requires.path ∙ ap (λ (n : ℕ). level_count_of p * n) (sym c.hash_block-size.ensures) in
    let within = run-within path l (level_count_of p) size below long in
    let run = length-range size l size path refl within in
    let len : length c.read_filled.new.buf ≡ size = c.read_filled.auto.buf ∙ run in
    record {
      quotient = here;
      told = λ tells. c.in-Ok.ensures.told (inv.told tells);
      same = λ tells. c.in-Ok.ensures.same (inv.told tells) ∙ inv.same tells;
      failures = c.in-Ok.ensures.count.1 ∙ inv.failures;
      read = λ tells.
          let device = g.D.Device.content c.args.device.now in
          let stored = c.in-Ok.ensures.bytes (inv.told tells)
          ∙ read-stored p c.args.i l c.start-at.result _ _ device _
          (run ∙ c.hash_block-size.ensures) c.start-at.ensures.value here (inv.same tells) in
          path-more p c.args.i l size path c.read_filled.new.buf device c.hash_block-size.ensures len within stored
          (inv.read tells);
    }
