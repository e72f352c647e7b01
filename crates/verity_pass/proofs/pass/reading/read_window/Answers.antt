use Rattle.std.proofs.Common.{◌≡◌, ℕ, ◌+◌, ◌-◌, ◌/◌, ◌<◌, ◌≤◌, [], List, length, take, drop, ◌++◌, arith, ap, sym, ◌∙◌, length-append, length-drop}
use Rattle.std.proofs.{lemmas.{List.{drop-drop, length-take-le, take_all, take_at}, Slice.take-put_mid}, Math.Seq.take-add}
use Rattle.{verity_io.specs.Reading.HasRead, verity_plan.proofs.FanLemmas.some_data, verity_blocks.proofs.OpenBlocks.Reached.whole-next}
use Rattle.verity_pass.proofs.Passes.ReadBlocks.{HasRead-blocks, HasRead-more, failed-within, short-within}
use borrow.Rule.Slice.PartMut.{put_mid}
use Rattle.verity_pass.proofs.pass.reading.read_window.Goals as goal

-- the part of the window that is read into is as long as what is wanted of it
part-long : (at m : ℕ) (window : List ℕ) → at + m ≤ length window → length (take (at + m - at) (drop at window)) ≡ m
part-long at m window within =
    let e : at + m - at ≡ m = omega arith in
    rw e (length-take-le m (drop at window) (omega (arith, length-drop at window, within)))

-- the next bytes come after those before
window-more : (at m : ℕ) (window buf start after : List ℕ) → take at window ≡ take at start → length buf ≡ m
    → at + m ≤ length window → drop at start ≡ buf ++ after
    → take (at + m) (put_mid at (at + m - at) window buf) ≡ take (at + m) start
window-more at m window buf start after stood long within next =
    take-put_mid at (at + m - at) window buf (at + m) (omega (arith, long)) (omega (arith, within))
    ∙ ap (λ (xs : List ℕ). xs ++ buf) stood
    ∙ ap (λ (xs : List ℕ). take at start ++ xs) (sym (ap (take m) next ∙ take_at buf after m long))
    ∙ sym (take-add at m start)

pub returns-then-read-end-clause-read : goal.returns-then-read-end-clause-read
returns-then-read-end-clause-read g c = λ tells bytes read_before.
    let p = c.args.plan.now in
    let d = p.settings.data_block in
    let n = c.args.fed + c.rows.at in
    let buf = c.read_block.new.buf in
    let inv = c.rows.invariant in
    let whole = inv.whole (omega (arith, c.rows-test.true)) in
    let less : n < p.wanted = omega (arith, inv.count_is, c.rows-test.true, c.rows.auto.window) in
    let within : c.rows.at + c.min.result ≤ length c.rows.window = omega (arith, c.min.ensures, inv.count_is, c.rows-test.true, c.rows.auto.window) in
    let long : length buf ≡ c.min.result = c.read_block.auto.buf ∙ part-long c.rows.at c.min.result c.rows.window within in
    let stop = c.in-Ok.ensures.bytes (inv.told tells) in
    let few : c.in-Ok.read < length buf = omega (arith, long, c.if-read-end.true) in
    let none : g.S.Source.remaining c.read_block.new.source ≡ [] = stop.1 few in
    let place : n / c.data_block-size.result ≡ n / d = ap (λ (k : ℕ). n / k) c.data_block-size.ensures in
    let at = HasRead-blocks p c.requires.planned n bytes _ less whole (inv.read tells bytes read_before) in
    let rest : length (g.S.Source.remaining c.rows.source) ≡ c.in-Ok.read =
    ap length stop.0 ∙ length-append (take c.in-Ok.read buf) _ ∙ omega (arith, ap length none, length-take-le c.in-Ok.read buf (omega (arith, few))) in
    rw place (record {
      from = omega (arith, whole);
      to = omega (arith, whole, within, c.rows-test.true, inv.count_is);
      stopped = short-within p c.requires.planned (n / d) c.min.result bytes _ _ at.0
          (omega (arith, whole, c.min.ensures, c.data_block-size.ensures, inv.count_is, c.rows-test.true, c.rows.auto.window)) at.1 (omega (arith, rest, few, long)) none;
    })

pub returns-in-Err-clause-read : goal.returns-in-Err-clause-read
returns-in-Err-clause-read g c = λ tells bytes read_before.
    let p = c.args.plan.now in
    let d = p.settings.data_block in
    let n = c.args.fed + c.rows.at in
    let inv = c.rows.invariant in
    let whole = inv.whole (omega (arith, c.rows-test.true)) in
    let less : n < p.wanted = omega (arith, inv.count_is, c.rows-test.true, c.rows.auto.window) in
    let within : c.rows.at + c.min.result ≤ length c.rows.window = omega (arith, c.min.ensures, inv.count_is, c.rows-test.true, c.rows.auto.window) in
    let long = c.read_block.auto.buf ∙ part-long c.rows.at c.min.result c.rows.window within in
    let stop = c.in-Err.ensures.bytes (inv.told tells) in
    let place : n / c.data_block-size.result ≡ n / d = ap (λ (k : ℕ). n / k) c.data_block-size.ensures in
    let at = HasRead-blocks p c.requires.planned n bytes _ less whole (inv.read tells bytes read_before) in
    rw place (record {
      from = omega (arith, whole);
      to = omega (arith, whole, within, c.rows-test.true, inv.count_is);
      stopped = failed-within p c.requires.planned (n / d) c.min.result bytes _ _ stop.0 at.0
          (omega (arith, whole, c.min.ensures, c.data_block-size.ensures, inv.count_is, c.rows-test.true, c.rows.auto.window)) at.1 (omega (arith, stop.1, long)) stop.2;
    })

pub rows-preserved : goal.rows-preserved
rows-preserved g c =
    let p = c.args.plan.now in
    let d = p.settings.data_block in
    let n = c.args.fed + c.rows.at in
    let m = c.min.result in
    let buf = c.read_block.new.buf in
    let inv = c.rows.invariant in
    let whole = inv.whole (omega (arith, c.rows-test.true)) in
    let within : c.rows.at + m ≤ length c.rows.window = omega (arith, c.min.ensures, inv.count_is, c.rows-test.true, c.rows.auto.window) in
    let long : length buf ≡ m = c.read_block.auto.buf ∙ part-long c.rows.at m c.rows.window within in
    let all : take c.in-Ok.read buf ≡ buf = take_all c.in-Ok.read buf (omega (arith, long, c.if-read-end.false)) in
    let sum : n + m ≡ c.args.fed + (c.rows.at + m) = omega arith in
    let next = λ (tells : g.S.Source.tells c.args.source.now) (bytes : List ℕ) (read_before : HasRead c.args.fed bytes (g.S.Source.remaining c.args.source.now)).
    sym (inv.read tells bytes read_before).rest ∙ (c.in-Ok.ensures.bytes (inv.told tells)).0 ∙ ap (λ (xs : List ℕ). xs ++ g.S.Source.remaining c.read_block.new.source) all in
    record {
      within = omega (arith, c.min.ensures, c.rows-test.true);
      count_is = inv.count_is;
      whole = λ more. rw sum at (whole-next n d m (some_data p.settings c.requires.planned.valid) whole
          (omega (arith, more, c.min.ensures, c.data_block-size.ensures)));
      told = λ t. c.in-Ok.ensures.told (inv.told t);
      failures = c.in-Ok.ensures.count.1 ∙ inv.failures;
      holds = λ tells bytes read_before.
          window-more c.rows.at m c.rows.window buf (drop c.args.fed bytes) (g.S.Source.remaining c.read_block.new.source)
          (inv.holds tells bytes read_before) long within
          (drop-drop c.rows.at c.args.fed bytes ∙ next tells bytes read_before);
      read = λ tells bytes read_before.
          let read = inv.read tells bytes read_before in
          let split = next tells bytes read_before in
          rw sum at (HasRead-more n m bytes buf (g.S.Source.remaining c.read_block.new.source) long read.enough split);
    }
