-- The data block that the last byte is in: it is one of the plan's; and when that byte is its last, or the last of all.
use Rattle.std.proofs.Common.{◌≡◌, ℕ, ◌+◌, ◌-◌, ◌*◌, ◌<◌, ◌≤◌, arith, sym, ◌∙◌, ap, inl, inr}
use Rattle.verity_plan.{specs.{Plans.{IsPlan, PlanFields}, Settings.{IsValid, TreeSettingsFields}}, proofs.CountLemmas.{div_ceil-below, le-div_ceil}}
use Rattle.{verity_plan.proofs.{FanLemmas.some_data, IndexLemmas.quotient-below}, verity_blocks.proofs.Windows.RowsOfWindow.window-ended}
use Rattle.verity_blocks.specs.{ClosingOrder.blocks_before, Steps.Feeding.{EndsWindow, windows_before}, Windows.window_length}

-- the last byte's data block is one of the plan's
pub last-below : (p : PlanFields) (count : ℕ) → IsPlan p → 0 < count → count ≤ p.wanted
    → blocks_before p.settings count < p.blocks
last-below p count planned some most =
    rw planned.blocks_are (quotient-below (count - 1) p.wanted p.settings.data_block (some_data p.settings planned.valid)
    (omega (arith, some, most)))

-- the last byte of all is in the last data block
pub last-block : (p : PlanFields) → IsPlan p → blocks_before p.settings p.wanted + 1 ≡ p.blocks
last-block p planned =
    div_ceil-below p.wanted p.settings.data_block (some_data p.settings planned.valid) planned.some ∙ sym planned.blocks_are

-- more data blocks come after the last byte's only if its window is full
pub whole-count : (p : PlanFields) (count : ℕ) → IsPlan p → EndsWindow p count
    → blocks_before p.settings count + 1 < p.blocks
    → count ≡ (windows_before p.settings count + 1) * window_length p.settings
whole-count p count planned ends more = elim ends.ends [
  | inl whole ↦ whole
  | inr all ↦ absurd (omega (arith, more, last-block p planned, ap (blocks_before p.settings) all))
]

-- the last byte of a window that is full is the last of its data block
pub whole-block : (s : TreeSettingsFields) (count : ℕ) → IsValid s → 0 < count
    → count ≡ (windows_before s count + 1) * window_length s → count ≡ (blocks_before s count + 1) * s.data_block
whole-block s count valid some whole =
    let last = window-ended s count (windows_before s count + 1) valid some whole in
    omega (arith, whole, ap (λ (n : ℕ). n * s.data_block) last)

-- the last byte is the last of all if its data block is
pub all-count : (p : PlanFields) (count : ℕ) → IsPlan p → EndsWindow p count
    → blocks_before p.settings count + 1 ≡ p.blocks → count ≡ p.wanted
all-count p count planned ends last = elim ends.ends [
  | inl full ↦
      let size = p.settings.data_block in
      let whole = whole-block p.settings count planned.valid ends.some full in
      let most = le-div_ceil p.wanted size p.blocks (some_data p.settings planned.valid) (omega (arith, planned.blocks_are)) in
      omega (arith, whole ∙ ap (λ (n : ℕ). n * size) last, most, ends.most)
  | inr all ↦ all
]
