use Rattle.std.proofs.Common.{◌≡◌, ◌∙◌, ℕ, ◌+◌, ◌-◌, ◌*◌, ◌^◌, ◌/◌, ◌%◌, ◌<◌, ◌≤◌, ◌++◌, List, ap, arith, inr, length, subst, sym, take}
use Rattle.std.proofs.{lemmas.{List.take_all, Nat.{div-add-mod', mod_below}}, Math.Nat.div-mul-le_self}
use Rattle.verity_plan.{proofs.FitLemmas.power_of_two-exponent, specs.Settings.TreeSettingsFields}
use Rattle.verity_blocks.specs.{Steps.Feeding.{HasFed, HasWindow, IsSettled, windows_before}, Windows.window_length}
use Rattle.verity_blocks.proofs.{ClosingSteps.Advancing.partial-quotient, Windows.BytesToWindow.HasFed-filled}
use Rattle.verity_builders.proofs.feeding.pieces.take_short_piece.Goals as goal

-- a piece that has room in the window is put after the bytes that are in it
short-taken : (s : TreeSettingsFields) (levels count at taken : ℕ) (fed piece opened before window : List ℕ)
    → 0 < window_length s → length fed ≡ count → at ≡ count % window_length s → 0 < at → 0 < length piece
    → at + length piece ≤ window_length s → taken ≡ length piece
    → take (at + taken) window ≡ take at before ++ take taken piece
    → HasFed s levels fed opened before → HasFed s levels (fed ++ piece) opened window
short-taken s levels count at taken fed piece opened before window wide many is some more within all filled h =
    let here : at ≡ length fed % window_length s = is ∙ ap (λ (n : ℕ). n % window_length s) (sym many) in
    let same : windows_before s (length fed) ≡ length fed / window_length s =
    sym (partial-quotient (length fed) (window_length s) wide (inr (omega (arith, some, here)))) in
    let settled : IsSettled s levels fed opened before =
    subst (λ (n : ℕ). HasWindow s levels n fed opened before) same h in
    let whole : take taken piece ≡ piece = take_all taken piece (omega (arith, all)) in
    HasFed-filled s levels at fed piece opened before window here more within
    (ap (λ (n : ℕ). take (at + n) window) (sym all) ∙ filled ∙ ap (λ (xs : List ℕ). take at before ++ xs) whole) settled

-- how many bytes are in the window, by shifts
within-window : (n wide power : ℕ) → wide ≡ 2 ^ power → n < 18446744073709551616
    → n - n / 2 ^ power * 2 ^ power % 18446744073709551616 ≡ n % wide
within-window n wide power is most =
    let whole : n / 2 ^ power * 2 ^ power ≤ n = div-mul-le_self n (2 ^ power) in
    omega (
      arith,
      whole,
      most,
      div-add-mod' n (2 ^ power),
      ap (λ (k : ℕ). n % k) is,
    )

pub returns-clause-fed : goal.returns-clause-fed
returns-clause-fed c = λ tested s levels fed opened room many h.
    let wide = length c.args.window.now in
    let some : 0 < wide = omega (arith, c.if-piece-wide.false, c.if-at-eq0.false, c.fill_window.ensures.within) in
    let power = power_of_two-exponent wide c.ilog2-power.result some
    (sym c.is_power_of_two.ensures ∙ c.if-not-is_power_of_two.false) c.ilog2-power.ensures.power_le
    c.ilog2-power.ensures.next_power_gt in
    let at = within-window c.args.count wide c.ilog2-power.result power c.ranges.count.fits in
    let low : c.args.count % wide < wide = mod_below c.args.count wide some in
    short-taken s levels c.args.count (c.args.count % wide) c.fill_window.result fed c.args.piece.now opened
    c.args.window.now c.fill_window.new.window (omega (arith, room, some)) many
    (ap (λ (n : ℕ). c.args.count % n) room) (omega (arith, at, c.if-at-eq0.false))
    (omega (arith, c.fill_window.ensures.some, c.fill_window.ensures.most))
    (omega (arith, at, low, room, c.if-piece-wide.false))
    (c.fill_window.ensures.all (omega (arith, at, low, c.if-piece-wide.false)))
    (subst (λ (n : ℕ). take (n + c.fill_window.result) c.fill_window.new.window
    ≡ take n c.args.window.now ++ take c.fill_window.result c.args.piece.now) at c.fill_window.ensures.holds) h
