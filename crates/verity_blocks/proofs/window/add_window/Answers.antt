use Rattle.std.proofs.Common.{◌≡◌, ℕ, ◌+◌, ◌*◌, ap, arith, subst, sym}
use Rattle.verity_blocks.{specs.Steps.Feeding.IsWindowPlace, proofs.Windows.BytesToWindow.{HasCome-window, window-end, window-filled}}
use Rattle.verity_blocks.proofs.window.add_window.Goals as goal

pub slice_bounds-fill-start : goal.slice_bounds-fill-start
slice_bounds-fill-start c =
    let p = c.args.plan.now in
    let place = c.window_place-place.result in
    let end : (place.rows + 1) * c.data_block.result ≡ (place.rows + 1) * p.settings.data_block =
    ap (λ (n : ℕ). (place.rows + 1) * n) c.data_block.ensures in
    let at = window-end p c.args.count place c.requires.planned c.requires.some c.window_place-place.ensures in
    omega (arith, at.enough, at.room, end, c.requires.window)

pub slice_bounds-fill-count : goal.slice_bounds-fill-count
slice_bounds-fill-count c =
    let p = c.args.plan.now in
    let place = c.window_place-place.result in
    let end : (place.rows + 1) * c.data_block.result ≡ (place.rows + 1) * p.settings.data_block =
    ap (λ (n : ℕ). (place.rows + 1) * n) c.data_block.ensures in
    let at = window-end p c.args.count place c.requires.planned c.requires.some c.window_place-place.ensures in
    omega (arith, at.enough, at.room, end, c.requires.window)

pub returns-clause-adds : goal.returns-clause-adds
returns-clause-adds c = λ levels fed few room many h.
    let p = c.args.plan.now in
    let place = c.window_place-place.result in
    let is = c.window_place-place.ensures in
    let at = window-end p c.args.count place c.requires.planned c.requires.some is in
    let end : (place.rows + 1) * c.data_block.result ≡ (place.rows + 1) * p.settings.data_block =
    ap (λ (n : ℕ). (place.rows + 1) * n) c.data_block.ensures in
    HasCome-window p levels place fed c.args.opened.now c.args.window.now _ c.add_batch.new.opened c.add_batch.result
    c.requires.planned (omega (arith, many, c.requires.some)) (omega (arith, many, c.requires.most))
    (subst (λ (n : ℕ). IsWindowPlace p n place) (sym many) is)
    (window-filled p.settings place ((place.rows + 1) * c.data_block.result) place.bytes c.args.window.now c.fill.new.self at end
    (let e : place.bytes ≡ place.bytes = omega arith in e) is.each c.requires.window (c.fill.ensures.after (λ y e. e)))
    (λ blocks are holds before. c.add_batch.ensures.adds blocks levels are few room holds before) h
