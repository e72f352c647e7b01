use Rattle.std.proofs.{Common.{◌≡◌, ◌∙◌, ℕ, ◌+◌, ◌-◌, ◌*◌, ◌/◌, ◌%◌, ◌<◌, ◌≤◌, ap, arith, sym}, lemmas.Nat.div-add-mod'}
use Rattle.verity_plan.{specs.Plans.{IsPlan, PlanFields}, proofs.CountLemmas.mul_le}
use Rattle.verity_blocks.specs.{ClosingOrder.blocks_before, Steps.Feeding.{windows_before, IsWindowPlace}, Windows.{window_blocks, window_length}}
use Rattle.verity_blocks.proofs.Windows.{LastByte.last-below, RowsOfWindow.{placed-in-window, window-batch, windows-are}}
use Rattle.verity_blocks.proofs.window.window_place.Goals as goal

-- the place from its numbers: the last byte's data block, and what its window has
place-is : (p : PlanFields) (count i b long : ℕ) → IsPlan p → 0 < count → count ≤ p.wanted
    → i ≡ blocks_before p.settings count → b ≡ window_blocks p.settings → long ≡ window_length p.settings
    → IsWindowPlace p count (record { first = i - i % b; rows = i % b; bytes = (count - 1) % long + 1 })
place-is p count i b long planned some most i_is b_is long_is =
    let s = p.settings in
    let d = s.data_block in
    let w = windows_before s count in
    let place = placed-in-window s count planned.valid some in
    let split = div-add-mod' i b in
    let sum : i - i % b + i % b ≡ blocks_before s count = omega (arith, split, i_is) in
    let first_is : i - i % b ≡ w * window_blocks s =
    omega (
      arith,
      split,
      ap (λ (n : ℕ). n / b * b) i_is
          ∙ ap (λ (n : ℕ). blocks_before s count / n * n) b_is
          ∙ ap (λ (n : ℕ). n * window_blocks s) (sym (windows-are s count)),
    ) in
    let bytes_are : (count - 1) % long + 1 ≡ count - w * window_length s =
    omega (
      arith,
      div-add-mod' (count - 1) (window_length s),
      ap (λ (n : ℕ). (count - 1) % n) long_is,
      some,
    ) in
    record {
      first_is = first_is;
      rows_are = sum;
      bytes_are = bytes_are;
      some = omega arith;
      most = omega (arith, bytes_are, place.within);
      each = λ r low.
          let step : i - i % b + r ≤ blocks_before s count = omega (arith, low, sum) in
          let area : (i - i % b + r) * d ≡ (i - i % b) * d + r * d = omega arith in
          omega (
            arith,
            mul_le (i - i % b + r) (blocks_before s count) d step,
            area,
            place.block,
            bytes_are,
            ap (λ (n : ℕ). n * d) first_is,
            place.start,
          );
      batch = window-batch p count (i - i % b) (i % b) planned some (last-below p count planned some most) first_is sum;
    }

pub returns : goal.returns
returns c =
    place-is c.args.plan.now c.args.count _ _ _ c.requires.planned c.requires.some c.requires.most
    (ap (λ (n : ℕ). (c.args.count - 1) / n) c.data_block.ensures)
    (c.window_blocks.ensures.value ∙ ap window_blocks c.settings-settings.ensures)
    (c.window_length.ensures.value ∙ ap window_length c.settings-settings.ensures)
