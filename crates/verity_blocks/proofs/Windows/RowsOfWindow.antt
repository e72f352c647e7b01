-- The window of data blocks: how many it has, that no hash block closes within it, and where the last byte is in it.
use Rattle.std.proofs.{Common.{◌≡◌, ℕ, zero, suc, ◌+◌, ◌-◌, ◌*◌, ◌/◌, ◌%◌, ◌^◌, ◌<◌, ◌≤◌, arith, sym, ◌∙◌, ap, inl, inr, min}, lemmas.Bool.cases_lt}
use Rattle.std.proofs.{lemmas.Nat.{div-add-mod', le-div, mod-mul-add, mod_below, mul-le, pow-add, pow_pos}, Math.Pow.pow-lt}
use Rattle.{std.proofs.Math.Nat.{div-div-eq-div-mul, div-eq_of_lt-le, mul-div_cancel, mul_assoc}, verity_blocks.specs.ClosingOrder.blocks_before}
use Rattle.verity_plan.{specs.{Plans.{IsPlan, PlanFields}, Settings.{IsValid, TreeSettingsFields, fan}}, proofs.CountLemmas.mul_le}
use Rattle.verity_plan.proofs.{FanLemmas.{block_power, data_most, fan-power, fan-some, some_data}, FitLemmas.power_of_two-is}
use Rattle.verity_blocks.specs.{Windows.{window_blocks, window_length}, Steps.{Feeding.windows_before, Batches.IsBatch, Closing.EndsBlock}}

-- a power of two that isn't above another divides it, and as often as a power of two
power-divides : (x y j k : ℕ) → x ≡ 2 ^ j → y ≡ 2 ^ k → x ≤ y → (m : ℕ) × (y ≡ 2 ^ m * x)
power-divides x y j k first second most = elim (cases_lt k j) [
  | inl less ↦ absurd (omega (arith, pow-lt less, first, second, most))
  | inr within ↦
      let split : k ≡ k - j + j = omega (arith, within) in
      (k - j, rw (second, first) (ap (λ (n : ℕ). 2 ^ n) split ∙ pow-add 2 (k - j) j))
]

-- the lesser of two powers of two is one
power-min : (x y j k : ℕ) → x ≡ 2 ^ j → y ≡ 2 ^ k → (m : ℕ) × (min x y ≡ 2 ^ m)
power-min x y j k first second = elim (cases_lt x y) [
  | inl less ↦ (j, omega (arith, less, first))
  | inr most ↦ (k, omega (arith, most, second))
]

-- the largest block, divided by a block's size
power-quotient : (d k : ℕ) → 0 < d → d ≡ 2 ^ k → d ≤ 524288 → (m : ℕ) × (524288 / d ≡ 2 ^ m)
power-quotient d k some is most =
    let whole = power-divides d 524288 k 19 is (omega arith) most in
    (whole.0, ap (λ (n : ℕ). n / d) whole.1 ∙ mul-div_cancel (2 ^ whole.0) some)

-- a hash block's slots are those of some windows
window-fan : (s : TreeSettingsFields) → IsValid s → (m : ℕ) × (fan s ≡ 2 ^ m * window_blocks s)
unfolding window_blocks
window-fan s valid =
    let some = some_data s valid in
    let d = power_of_two-is s.data_block some (block_power _ s.data_block valid.data_block_size) in
    let f = fan-power s in
    let room = power-quotient s.data_block d.0 some d.1 (data_most s valid) in
    let rows = power-min 8 (524288 / s.data_block) 3 room.0 (omega arith) room.1 in
    let blocks = power-min (min 8 (524288 / s.data_block)) (fan s) rows.0 f.0 rows.1 f.1 in
    power-divides (min (min 8 (524288 / s.data_block)) (fan s)) (fan s) blocks.0 f.0 blocks.1 f.1 (omega arith)

pub window-some : (s : TreeSettingsFields) → IsValid s → 0 < window_blocks s
unfolding window_blocks
window-some s valid =
    let room : 1 ≤ 524288 / s.data_block =
    le-div 1 524288 s.data_block (some_data s valid) (omega (arith, data_most s valid)) in
    omega (arith, room, fan-some s)

pub window-eight : (s : TreeSettingsFields) → window_blocks s ≤ 8
unfolding window_blocks
window-eight s = omega arith

pub window-wide : (s : TreeSettingsFields) → IsValid s → 0 < window_length s
window-wide s valid = omega (arith, mul-le 1 1 _ _ (window-some s valid) (some_data s valid))

-- from the first data block of a window to the end of the hash block above it there is room for the window
pub window-room : (s : TreeSettingsFields) (w : ℕ) → IsValid s → w * window_blocks s % fan s + window_blocks s ≤ fan s
window-room s w valid =
    let b = window_blocks s in
    let times = window-fan s valid in
    let g = 2 ^ times.0 in
    let area : (w % g + 1) * b ≤ g * b = mul_le (w % g + 1) g b (omega (arith, mod_below w g (pow_pos times.0))) in
    let split : w * b ≡ w / g * fan s + w % g * b =
    omega (arith, ap (λ (n : ℕ). n * b) (div-add-mod' w g), ap (λ (n : ℕ). w / g * n) times.1) in
    let low : w % g * b < fan s = omega (arith, area, times.1, window-some s valid) in
    omega (arith, area, times.1, ap (λ (n : ℕ). n % fan s) split ∙ mod-mul-add (w / g) (fan s) (w % g * b) low)

-- the windows before the last of so many bytes are those of the data blocks before it
pub windows-are : (s : TreeSettingsFields) (count : ℕ)
    → windows_before s count ≡ blocks_before s count / window_blocks s
windows-are s count =
    let e : window_length s ≡ s.data_block * window_blocks s = omega arith in
    ap (λ (n : ℕ). (count - 1) / n) e ∙ sym (div-div-eq-div-mul (count - 1) s.data_block (window_blocks s))

-- where the last of some bytes is: the data blocks before its window, its data block, and the bytes
pub record IsPlacedInWindow (s : TreeSettingsFields) (count : ℕ) : Type 0 where
  pub from : windows_before s count * window_blocks s ≤ blocks_before s count
  pub to : blocks_before s count < windows_before s count * window_blocks s + window_blocks s
  pub start : windows_before s count * window_blocks s * s.data_block ≡ windows_before s count * window_length s
  pub before : windows_before s count * window_length s < count
  pub within : count ≤ windows_before s count * window_length s + window_length s
  pub block : blocks_before s count * s.data_block < count
  pub end : count ≤ blocks_before s count * s.data_block + s.data_block

-- the place of the last of some bytes in runs of a size
last-place : (count size : ℕ) → 0 < size → 0 < count
    → ((count - 1) / size * size < count) × (count ≤ (count - 1) / size * size + size)
last-place count size wide some =
    let split : (count - 1) / size * size + (count - 1) % size ≡ count - 1 = div-add-mod' (count - 1) size in
    let low : (count - 1) % size < size = mod_below (count - 1) size wide in
    (omega (arith, split, some), omega (arith, split, low))

pub placed-in-window : (s : TreeSettingsFields) (count : ℕ) → IsValid s → 0 < count → IsPlacedInWindow s count
placed-in-window s count valid some =
    let b = window_blocks s in
    let i = blocks_before s count in
    let block = last-place count s.data_block (some_data s valid) some in
    let window = last-place count (window_length s) (window-wide s valid) some in
    let split : windows_before s count * b + i % b ≡ i =
    ap (λ (n : ℕ). n * b + i % b) (windows-are s count) ∙ div-add-mod' i b in
    record {
      from = omega (arith, split);
      to = omega (arith, split, mod_below i b (window-some s valid));
      start = mul_assoc (windows_before s count) b s.data_block;
      before = window.0;
      within = window.1;
      block = block.0;
      end = block.1;
    }

-- the first data block of its window and its own are below one hash block of level 0
pub window-beside : (s : TreeSettingsFields) (count : ℕ) → IsValid s → 0 < count
    → windows_before s count * window_blocks s / fan s ≡ blocks_before s count / fan s
window-beside s count valid some =
    let place = placed-in-window s count valid some in
    let split = div-add-mod' (windows_before s count * window_blocks s) (fan s) in
    let room = window-room s (windows_before s count) valid in
    sym (div-eq_of_lt-le (fan s) (omega (arith, split, place.from)) (omega (arith, split, room, place.to)))

-- the last of the elements of so many runs is in the last run
pub last-run : (n w k : ℕ) → 0 < w → 0 < n → n ≡ k * w → (n - 1) / w + 1 ≡ k
last-run n w zero wide some whole = absurd (omega (arith, some, whole))
last-run n w (suc k) wide some whole =
    let last : (n - 1) / w ≡ k = div-eq_of_lt-le w (omega (arith, whole, wide)) (omega (arith, whole, wide)) in
    omega (arith, last)

-- the last of all bytes of windows that are full is the last of their last data block
pub window-ended : (s : TreeSettingsFields) (count w : ℕ) → IsValid s → 0 < count → count ≡ w * window_length s
    → blocks_before s count + 1 ≡ w * window_blocks s
window-ended s count w valid some whole =
    last-run count s.data_block (w * window_blocks s) (some_data s valid) some (omega (arith, whole))

-- of data blocks that go no further than the next end of a hash block, none but the last ends one
none_closes-batch : (f n i count k : ℕ) → 0 < f → count ≤ f - i % f → i + count ≤ n → i ≤ k → k + 1 < i + count
    → ¬ EndsBlock f n k
none_closes-batch f n i count k some within room from to (inr last) = omega arith
none_closes-batch f n i count k some within room from to (inl full) =
    let here : i / f * f + i % f ≡ i = div-add-mod' i f in
    let same : k / f ≡ i / f = div-eq_of_lt-le f (omega arith) (omega (arith, mod_below i f some)) in
    omega (arith, mod_below i f some, div-add-mod' k f, ap (λ (x : ℕ). x * f) same)

-- of the data blocks up to the last byte's, from the first of its window on, none but the last closes a hash block
pub window-batch : (p : PlanFields) (count first rows : ℕ) → IsPlan p → 0 < count
    → blocks_before p.settings count < p.blocks
    → first ≡ windows_before p.settings count * window_blocks p.settings → first + rows ≡ blocks_before p.settings count
    → IsBatch p first (rows + 1)
window-batch p count first rows planned some below start sum =
    let s = p.settings in
    let place = placed-in-window s count planned.valid some in
    let slot = window-room s (windows_before s count) planned.valid in
    let room : rows + 1 ≤ fan s - first % fan s =
    omega (arith, place.to, start, sum, ap (λ (n : ℕ). n % fan s) start, slot) in
    let most : first + (rows + 1) ≤ p.blocks = omega (arith, sum, below) in
    record {
      some = omega arith;
      most = omega (arith, place.from, place.to, window-eight s);
      below = most;
      none_closes = λ k from to. none_closes-batch (fan s) p.blocks first (rows + 1) k (fan-some s) room most from to;
    }
