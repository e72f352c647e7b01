use Rattle.std.proofs.Common.{List, arith, ap, drop, length, length-drop, refl, subst, suc, sym, take, false, min, ℕ, ◌+◌, ◌-◌, ◌/◌, ◌^◌, ◌<◌, ◌∙◌}
use Rattle.{std.proofs.{Common.{◌≡◌, ◌≤◌}, lemmas.List.{length-take, length-take-le}, Math.Nat.{zero-div, zero-mul}}, verity_io.specs.Reading.HasRead}
use Rattle.verity_plan.{specs.{PlanCounts.level_count_of, Settings.fan}, proofs.{CountLemmas.mul_le, FanLemmas.fan-some}}
use Rattle.verity_blocks.specs.{ClosingOrder.{blocks_before, handed_out}, Levels.{data_blocks, root}, Steps.Feeding.{IsHandingOut, TakesMore}}
use Rattle.verity_blocks.{specs.Windows.window_length, proofs.{Levels.CutBlocks.length-cut, Windows.{LastByte.last-below, RowsOfWindow.window-wide}}}
use Rattle.verity_blocks.proofs.{Windows.BytesToWindow.HasFed-zeros, ClosingSteps.Asking.left-root, OpenBlocks.ClosingBlocks.closing-below}
use Rattle.verity_blocks.proofs.{OpenBlocks.Reached.whole-next, Order.HandedOut.{all-handed-out, none-handed-out}}
use Rattle.verity_pass.{specs.Steps.OnClosed.{effects, stop_at}, proofs.Passes.OnePass.{stopped-below, stops-for, stops-in-window, whole-windows}}
use Rattle.verity_pass.proofs.Passes.OnePass.{HandsOn, chunk-at, data_blocks-front, feeds-window, hands-on, not-of_device, not-of_source, reads-up-to}
use Rattle.verity_pass.proofs.pass.one_pass.pass_over_windows.{Given.Over, Goals.{After-close_next, After-handed_out-next}}
use Rattle.verity_pass.proofs.pass.one_pass.pass_over_windows.Goals as goal

pub steps-init : goal.steps-init
steps-init g c =
    let p = c.args.plan.now in
    record {
      most = omega arith;
      within = omega arith;
      long = c.fill.auto.self;
      whole = λ _. simp (zero-div, zero-mul);
      source_told = λ t. t;
      device_told = λ t. t;
      source_failures = refl;
      device_failures = refl;
      read = λ _. record { enough = omega arith; rest = refl };
      stands = λ _. HasFed-zeros p.settings (level_count_of p) (length c.args.opened.now) c.fill.new.self c.args.window.now
          (c.fill.ensures.after (λ y e. e)) (omega (arith, c.requires.step.open_room));
      kept = λ _ first. first;
      closed = λ _ _ first. rw (none-handed-out p) first;
    }

pub close_next-requires-clause-step : goal.close_next-requires-clause-step
close_next-requires-clause-step g c =
    let inv = c.steps.invariant in
    record {
      planned = c.requires.step.planned;
      own = omega (arith, c.levels-levels.ensures);
      open_room = rw c.levels-levels.ensures (omega (arith, c.requires.step.open_room, inv.long));
      window_room = omega (arith, c.requires.step.window_room, c.steps.auto.window);
      most = inv.most;
      within = omega (arith, inv.within, c.levels-levels.ensures);
      early = λ _. inv.within;
    }

pub handed_out-next-requires-clause-below : goal.handed_out-next-requires-clause-below
handed_out-next-requires-clause-below g c =
    let some = (c.if-close_next.ensures.closed refl).2 in
    rw c.close_next.ensures.fed (omega (
      arith,
      last-below c.args.plan.now c.steps.progress.fed c.requires.step.planned some
          c.steps.invariant.most,
    ))

-- the level of the hash block that is handed on is the next one
level-is : (g : Over) (c : After-handed_out-next g) → c.steps.progress.closed ≡ c.handed_out-next.result.level
level-is g c = omega (arith, c.handed_out-next.ensures.level, (c.if-close_next.ensures.closed refl).0)

index-is : (g : Over) (c : After-handed_out-next g) → c.handed_out-next.result.index
    ≡ blocks_before c.args.plan.now.settings c.steps.progress.fed
    / fan c.args.plan.now.settings ^ (c.handed_out-next.result.level + 1)
index-is g c =
    let n = blocks_before c.args.plan.now.settings c.steps.progress.fed in
    let first : 0 + n ≡ n = omega arith in rw (c.close_next.ensures.fed, first) at c.handed_out-next.ensures.index

-- the hash block that has closed
closed-block : (g : Over) (c : After-handed_out-next g) → g.S.Source.tells c.args.source.now
    → IsHandingOut c.args.plan.now (level_count_of c.args.plan.now) c.steps.progress.closed
    (take c.steps.progress.fed (g.S.Source.remaining c.args.source.now)) c.close_next.new.opened
closed-block g c tells =
    let inv = c.steps.invariant in
    let bytes = g.S.Source.remaining c.args.source.now in
    (c.if-close_next.ensures.stands (level_count_of c.args.plan.now) (take c.steps.progress.fed bytes)
    (omega (arith, c.levels-levels.ensures))
    (omega (arith, c.requires.step.open_room, inv.long))
    (length-take-le c.steps.progress.fed bytes (inv.read tells).enough) (inv.stands tells)).0

handed : (g : Over) (c : After-handed_out-next g) → g.S.Source.tells c.args.source.now
    → HandsOn c.args.plan.now c.steps.progress.fed c.handed_out-next.result.level c.handed_out-next.result.index
    (g.S.Source.remaining c.args.source.now) c.close_next.new.opened
handed g c tells =
    let p = c.args.plan.now in
    let closes = closed-block g c tells in
    hands-on p c.handed_out-next.result.level c.handed_out-next.result.index c.steps.progress.fed
    (g.S.Source.remaining c.args.source.now) c.close_next.new.opened c.requires.step.planned
    (c.steps.invariant.read tells).enough (rw (level-is g c) at closes) (index-is g c)

pub take-requires-clause-here : goal.take-requires-clause-here
take-requires-clause-here g c =
    let p = c.args.plan.now in
    let n = c.steps.progress.fed in
    let own = (goal.at.take-requires-clause-here g c).After-handed_out-next in
    let some = c.if-close_next.ensures.closed refl in
    record {
      level_below = omega (arith, some.1, level-is g own, c.levels-levels.ensures);
      index_below = omega (
        arith,
        index-is g own,
        closing-below (fan p.settings) p.blocks c.handed_out-next.result.level (blocks_before p.settings n)
            (fan-some p.settings) (last-below p n c.requires.step.planned some.2 c.steps.invariant.most),
      );
    }

pub returns-in-Err-clause-run : goal.returns-in-Err-clause-run
returns-in-Err-clause-run g c =
    let p = c.args.plan.now in
    let n = c.steps.progress.fed in
    let next = c.handed_out-next.result in
    let stop = stop_at next.level next.index c.in-Err.why in
    let bytes = g.S.Source.remaining c.args.source.now in
    let start = g.D.Device.content c.args.device.now in
    let inv = c.steps.invariant in
    let own = (goal.at.returns-in-Err-clause-run g c).After-handed_out-next in
    let read = λ (tells : g.S.Source.tells c.args.source.now).
    subst (λ (k : ℕ). HasRead k bytes (g.S.Source.remaining c.steps.source)) (sym (handed g own tells).read) (inv.read tells) in
    record {
      size = tt;
      source_counted = not-of_source g.C.OnClosed.is_failure stop _ _ inv.source_failures;
      device_counted = rw (← inv.device_failures) c.in-Err.ensures.count;
      read = λ tells.
          let out = handed g own tells in
          reads-up-to p (blocks_before p.settings n) next.level next.index bytes _ out.below out.with_it (read tells);
      keeps = λ told first. c.in-Err.ensures.keeps (inv.device_told told) _ (inv.kept told first);
      leaves = λ tells told first.
          let out = handed g own tells in
          stops-for (effects g.C.OnClosed.is_failure g.C.OnClosed.keeps g.C.OnClosed.leaves g.C.OnClosed.stops) p bytes
          (blocks_before p.settings n) stop start _ out.below out.with_it (read tells).enough
          (c.in-Err.ensures.stops (inv.device_told told) (data_blocks p bytes) (handed_out p n next.level) start
          (sym (length-cut p.settings p.blocks p.wanted bytes))
          (chunk-at p.settings.hash_block next.level next.at _ _ c.handed_out-next.ensures.at c.hash_block.ensures ∙ out.stands)
          (rw (level-is g own) at (inv.closed tells told first)));
    }

pub steps-preserved-in-Ok : goal.steps-preserved-in-Ok
steps-preserved-in-Ok g c =
    let p = c.args.plan.now in
    let n = c.steps.progress.fed in
    let next = c.handed_out-next.result in
    let bytes = g.S.Source.remaining c.args.source.now in
    let start = g.D.Device.content c.args.device.now in
    let inv = c.steps.invariant in
    let own = (goal.at.steps-preserved-in-Ok g c).After-handed_out-next in
    let same = c.close_next.ensures.fed in
    let some = c.if-close_next.ensures.closed refl in
    let one : c.close_next.new.progress.closed ≡ suc c.steps.progress.closed = omega (arith, some.0) in
    let above : c.close_next.new.progress.closed ≡ next.level + 1 = omega (arith, c.handed_out-next.ensures.level) in
    record {
      most = omega (arith, inv.most, same);
      within = omega (arith, some.0, some.1);
      long = c.close_next.auto.opened ∙ inv.long;
      whole = λ less. rw same (inv.whole (omega (arith, less, same)));
      source_told = inv.source_told;
      device_told = λ t. c.in-Ok.ensures.told (inv.device_told t);
      source_failures = inv.source_failures;
      device_failures = c.in-Ok.ensures.count ∙ inv.device_failures;
      read = λ tells. rw same (inv.read tells);
      stands = λ tells. rw (same, one) (closed-block g own tells);
      kept = λ told first. c.in-Ok.ensures.keeps (inv.device_told told) start (inv.kept told first);
      closed = λ tells told first.
          let out = handed g own tells in
          rw (same, above, out.order) (c.in-Ok.ensures.leaves (inv.device_told told) (data_blocks p bytes)
          (handed_out p n next.level) start (sym (length-cut p.settings p.blocks p.wanted bytes))
          (chunk-at p.settings.hash_block next.level next.at _ _ c.handed_out-next.ensures.at c.hash_block.ensures ∙ out.stands)
          (rw (level-is g own) at (inv.closed tells told first)));
    }

-- the part of the open blocks that is handed on is within them
at-within : (g : Over) (c : After-handed_out-next g)
    → c.handed_out-next.result.at + c.args.plan.now.settings.hash_block ≤ length c.close_next.new.opened
at-within g c =
    let p = c.args.plan.now in
    let level = c.handed_out-next.result.level in
    let low : level + 1 ≤ level_count_of p =
    omega (arith, (c.if-close_next.ensures.closed refl).1, level-is g c, c.levels-levels.ensures) in
    omega (
      arith,
      c.handed_out-next.ensures.at,
      mul_le (level + 1) (level_count_of p) p.settings.hash_block low,
      c.requires.step.open_room,
      c.steps.invariant.long,
      c.close_next.auto.opened,
    )

-- as long as a hash block
part-long : (at n : ℕ) (opened : List ℕ) → at + n ≤ length opened
    → length (take n (take (length opened - at) (drop at opened))) ≡ n
part-long at n opened within =
    length-take-le n (take (length opened - at) (drop at opened))
    (omega (arith, within, length-take (length opened - at) (drop at opened), length-drop at opened))

pub slice_bounds-bytes-count : goal.slice_bounds-bytes-count
slice_bounds-bytes-count g c = omega (arith, at-within g c)

pub slice_bounds-bytes-start : goal.slice_bounds-bytes-start
slice_bounds-bytes-start g c = omega (arith, at-within g c)

pub slice_bounds-bytes-end-then-close_next : goal.slice_bounds-bytes-end-then-close_next
slice_bounds-bytes-end-then-close_next g c =
    let within = at-within g (goal.at.slice_bounds-bytes-end-then-close_next g c).After-handed_out-next in
    sym (part-long c.handed_out-next.result.at c.hash_block.result _ (omega (arith, within, c.hash_block.ensures)))

pub take-requires-clause-size : goal.take-requires-clause-size
take-requires-clause-size g c =
    let within = at-within g (goal.at.take-requires-clause-size g c).After-handed_out-next in
    part-long c.handed_out-next.result.at c.hash_block.result _ (omega (arith, within, c.hash_block.ensures)) ∙ c.hash_block.ensures

pub read_window-requires-clause-whole : goal.read_window-requires-clause-whole
read_window-requires-clause-whole g c =
    let p = c.args.plan.now in
    let inv = c.steps.invariant in
    whole-windows p.settings c.close_next.new.progress.fed c.requires.step.planned.valid
    (rw c.close_next.ensures.fed (inv.whole (c.if-close_next.ensures.more refl)))

-- more bytes may come
comes-more : (g : Over) (c : After-close_next g) → c.close_next.result ≡ false → g.S.Source.tells c.args.source.now
    → TakesMore c.args.plan.now (level_count_of c.args.plan.now)
    (take c.steps.progress.fed (g.S.Source.remaining c.args.source.now)) c.steps.progress.closed c.close_next.new.opened
    c.close_next.new.window
comes-more g c is tells =
    let inv = c.steps.invariant in
    let bytes = g.S.Source.remaining c.args.source.now in
    let closes = c.close_next.ensures.stands (level_count_of c.args.plan.now) (take c.steps.progress.fed bytes)
    (omega (arith, c.levels-levels.ensures))
    (omega (arith, c.requires.step.open_room, inv.long))
    (length-take-le c.steps.progress.fed bytes (inv.read tells).enough) (inv.stands tells) in
    rw is at closes

pub returns-in-Err-read_window-clause-run : goal.returns-in-Err-read_window-clause-run
returns-in-Err-read_window-clause-run g c =
    let p = c.args.plan.now in
    let n = c.steps.progress.fed in
    let stop = c.in-Err-read_window.stop in
    let bytes = g.S.Source.remaining c.args.source.now in
    let inv = c.steps.invariant in
    let own = (goal.at.returns-in-Err-read_window-clause-run g c).After-close_next in
    let same = c.close_next.ensures.fed in
    let stops = λ (tells : g.S.Source.tells c.args.source.now).
    c.in-Err-read_window.ensures.read (inv.source_told tells) bytes (rw same (inv.read tells)) in
    record {
      size = tt;
      source_counted = rw (← inv.source_failures) c.in-Err-read_window.ensures.count;
      device_counted = not-of_device stop.why _ _ inv.device_failures;
      read = λ tells. (stops tells).stopped;
      keeps = inv.kept;
      leaves = λ tells told first.
          let stop_is = stops tells in
          let order = stops-in-window p (level_count_of p) n c.steps.progress.closed stop.block (take n bytes) c.close_next.new.opened
          c.close_next.new.window c.requires.step.planned (length-take-le n bytes (inv.read tells).enough)
          (inv.whole (c.if-close_next.ensures.more refl)) (comes-more g own c.if-close_next.false tells)
          (stopped-below p stop.block bytes stop.why _ stop_is.stopped) (omega (arith, same, stop_is.from))
          (omega (
            arith,
            same,
            stop_is.to,
            c.requires.step.window_room,
            c.steps.auto.window,
            c.close_next.auto.window,
            c.read_window.auto.window,
          )) in
          rw (← order) at (inv.closed tells told first);
    }

pub steps-smaller : goal.steps-smaller
steps-smaller g c =
    let p = c.args.plan.now in
    let n = c.close_next.new.progress.fed in
    let levels = level_count_of p in
    let wide = window-wide p.settings c.requires.step.planned.valid in
    let less : p.wanted - (n + c.in-Ok-read_window.count) + 1 ≤ p.wanted - c.steps.progress.fed =
    omega (
      arith,
      wide,
      c.in-Ok-read_window.ensures.size,
      c.if-close_next.ensures.more refl,
      c.close_next.ensures.fed,
      c.requires.step.window_room,
      c.steps.auto.window,
      c.close_next.auto.window,
    ) in
    omega (arith, mul_le (p.wanted - (n + c.in-Ok-read_window.count) + 1) (p.wanted - c.steps.progress.fed) (levels + 1) less)

pub steps-preserved : goal.steps-preserved
steps-preserved g c =
    let p = c.args.plan.now in
    let n = c.steps.progress.fed in
    let wide = window_length p.settings in
    let count = c.in-Ok-read_window.count in
    let bytes = g.S.Source.remaining c.args.source.now in
    let inv = c.steps.invariant in
    let own = (goal.at.steps-preserved g c).After-close_next in
    let same = c.close_next.ensures.fed in
    let more = c.if-close_next.ensures.more refl in
    let some : 0 < wide = window-wide p.settings c.requires.step.planned.valid in
    let size : count ≡ min wide (p.wanted - n) =
    omega (
      arith,
      same,
      c.in-Ok-read_window.ensures.size,
      c.requires.step.window_room,
      c.steps.auto.window,
      c.close_next.auto.window,
    ) in
    let reads = λ (tells : g.S.Source.tells c.args.source.now).
    rw same at (c.in-Ok-read_window.ensures.read (inv.source_told tells) bytes (rw same (inv.read tells))) in
    let fed = λ (tells : g.S.Source.tells c.args.source.now).
    feeds-window p (level_count_of p) n c.steps.progress.closed count bytes c.close_next.new.opened c.close_next.new.window
    c.read_window.new.window c.requires.step.planned (reads tells).0.enough (omega (arith, size, some, more)) (omega (arith, size))
    (omega (arith, size, more)) (inv.whole more) (comes-more g own c.if-close_next.false tells) (reads tells).1 in
    record {
      most = omega (arith, same, size, more);
      within = omega arith;
      long = c.close_next.auto.opened ∙ inv.long;
      whole = λ less. rw same (whole-next n wide count some (inv.whole more) (omega (arith, less, same, size)));
      source_told = λ t. c.in-Ok-read_window.ensures.told (inv.source_told t);
      device_told = inv.device_told;
      source_failures = c.in-Ok-read_window.ensures.count ∙ inv.source_failures;
      device_failures = inv.device_failures;
      read = λ tells. rw same (reads tells).0;
      stands = λ tells. rw same (fed tells).stands;
      kept = inv.kept;
      closed = λ tells told first. rw (same, (fed tells).order) (inv.closed tells told first);
    }

pub digest_at_the_top-requires : goal.digest_at_the_top-requires
digest_at_the_top-requires g c =
    let step = c.requires.step in
    record {
      step = record {
        planned = step.planned;
        own = omega (arith, c.levels-levels.ensures);
        open_room = rw c.levels-levels.ensures (omega (arith, step.open_room, c.steps.invariant.long));
        window_room = omega (arith, step.window_room, c.steps.auto.window);
        most = omega arith;
        within = omega arith;
        early = λ _. omega (arith, c.levels-levels.ensures);
      };
    }

pub returns-clause-run : goal.returns-clause-run
returns-clause-run g c =
    let p = c.args.plan.now in
    let bytes = g.S.Source.remaining c.args.source.now in
    let inv = c.steps.invariant in
    let all : c.steps.progress.fed ≡ p.wanted = omega (arith, inv.most, c.if-progress-wanted.false, c.wanted.ensures.value) in
    let top : c.steps.progress.closed ≡ level_count_of p =
    omega (arith, inv.within, c.if-progress-levels.false, c.levels-levels.ensures) in
    record {
      size = c.digest_at_the_top.ensures.size;
      source_counted = inv.source_failures;
      device_counted = inv.device_failures;
      read = λ tells.
          let read : HasRead p.wanted bytes (g.S.Source.remaining c.steps.source) = rw all at (inv.read tells) in (
            c.digest_at_the_top.ensures.digest (take p.wanted bytes) (length-take-le p.wanted bytes read.enough)
                (rw c.levels-levels.ensures (rw (all, top) at (inv.stands tells)))
                ∙ left-root p c.levels-levels.result (take p.wanted bytes) c.levels-levels.ensures
                ∙ ap (root p.settings) (data_blocks-front p bytes),
            read,
          );
      keeps = inv.kept;
      leaves = λ tells told first. rw (all, top, all-handed-out p c.requires.step.planned) at (inv.closed tells told first);
    }
