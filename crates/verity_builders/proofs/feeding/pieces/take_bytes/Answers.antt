use Rattle.std.proofs.{Common.{◌≡◌, ◌∙◌, ℕ, ◌+◌, ◌*◌, ◌%◌, ◌<◌, ◌≤◌, ap, arith, length, take}, lemmas.List.length-take-le}
use Rattle.{verity_plan.specs.Settings.fan, verity_blocks.proofs.Windows.BytesToWindow.{HasFed-filled, closed_after-placed, windows_before-filled}}
use Rattle.verity_blocks.{specs.{ClosingOrder.closed_after, Windows.{window_blocks, window_length}}, proofs.Windows.LastByte.last-below}
use Rattle.verity_builders.proofs.feeding.pieces.take_bytes.Goals as goal

pub returns-clause-none_closes : goal.returns-clause-none_closes
returns-clause-none_closes c =
    let p = c.args.plan.now in
    let s = p.settings in
    let more = c.fill_window.result in
    let count = c.args.count in
    let wide : c.window_length.result ≡ window_length s =
    c.window_length.ensures.value ∙ ap window_length c.settings.ensures in
    let at : count % c.window_length.result ≡ count % window_length s = ap (λ (n : ℕ). count % n) wide in
    let some : 0 < count + more = omega (arith, c.fill_window.ensures.some) in
    let most : count + more ≤ p.wanted = omega (arith, c.fill_window.ensures.most, c.requires.most) in
    closed_after-placed p (count + more) c.requires.planned some
    (last-below p (count + more) c.requires.planned some most)
    ∙ ap (λ (n : ℕ). closed_after (fan s) p.blocks (n * window_blocks s))
    (windows_before-filled s count more c.fill_window.ensures.some
    (omega (arith, at, c.fill_window.ensures.within, c.requires.window)))

pub returns-clause-fed : goal.returns-clause-fed
returns-clause-fed c = λ levels fed opened many h.
    let s = c.args.plan.now.settings in
    let piece = c.args.piece.now in
    let more = c.fill_window.result in
    let wide : c.window_length.result ≡ window_length s =
    c.window_length.ensures.value ∙ ap window_length c.settings.ensures in
    let at : c.args.count % c.window_length.result ≡ length fed % window_length s =
    ap (λ (n : ℕ). c.args.count % n) wide ∙ ap (λ (n : ℕ). n % window_length s) (let e : c.args.count ≡ length fed = omega (arith, many) in e) in
    let long : length (take more piece) ≡ more = length-take-le more piece c.fill_window.ensures.most in
    HasFed-filled s levels (c.args.count % c.window_length.result) fed (take more piece) opened c.args.window.now
    c.fill_window.new.window at (omega (arith, long, c.fill_window.ensures.some))
    (omega (arith, long, c.fill_window.ensures.within, c.requires.window))
    (ap (λ (n : ℕ). take (c.args.count % c.window_length.result + n) c.fill_window.new.window) long
    ∙ c.fill_window.ensures.holds) h
