-- A hash block has room for its slots, and how many and how wide these are.
use Rattle.std.proofs.Common.{◌≡◌, ℕ, zero, suc, ◌+◌, ◌-◌, ◌*◌, ◌^◌, ◌<◌, ◌≤◌, true, false, leb, arith, ap, refl, sym, subst, ◌∙◌, inl, inr}
use Rattle.std.proofs.lemmas.{Bool.{cases_lt, Decides.nat_tests}, Nat.{leading_top, ones_cat, pow-add, pow_pos, zero_from_ones}}
use Rattle.std.{proofs.Math.Nat.{mul-le-mul_left, pow-le-pow_right, pow-suc, pow-zero}, specs.{Prelude.{nat_le, count_ones}, Int.is_power_of_two}}
use Rattle.verity_plan.{proofs.{CountLemmas.{lt-pow_self, mul_le}, LeastLemmas.{IsLeast, IsLeast-least_from}}, specs.Settings.least_power}
use Rattle.verity_plan.proofs.FanLemmas.{two_slots, block_power, digest_len_of-pos, exponent-is, slot_count-between, slot_count-fits, hash_most}
use Rattle.verity_plan.specs.Settings.{TreeSettingsFields, IsValid, fan, digest_len, least_block, slot_width, width_by, least_up_to, slot_count}
use Rattle.verity_hash.specs.declared.salting.SaltRule.{SaltRule, TheVariants.{Before, After, PaddedBefore}}

-- a number with one bit set is a power of two
pub power_of_two-is : (n : ℕ) → 0 < n → is_power_of_two n ≡ true → (k : ℕ) × (n ≡ 2 ^ k)
power_of_two-is n some h =
    let one : count_ones n ≡ 1 = grind (arith, nat_tests, h) in
    let top = leading_top n n some (lt-pow_self 2 n (omega arith)) in
    let low : 2 ^ top.0 ≤ n = top.2 in
    let high : n < 2 ^ suc top.0 = top.3 in
    let rest : n - 2 ^ top.0 < 2 ^ top.0 = omega (arith, low, high, pow-suc 2 top.0) in
    let same : n ≡ 1 * 2 ^ top.0 + (n - 2 ^ top.0) = omega (arith, low) in
    let apart : count_ones n ≡ count_ones 1 + count_ones (n - 2 ^ top.0) =
    ap count_ones same ∙ ones_cat top.0 1 (n - 2 ^ top.0) rest in
    let bit : 0 < count_ones 1 = elim (cases_lt 0 (count_ones 1)) [
      | inl more ↦ more
      | inr none ↦ absurd (omega (arith, zero_from_ones 1 (omega (arith, none))))
    ] in
    let none : n - 2 ^ top.0 ≡ 0 = zero_from_ones (n - 2 ^ top.0) (omega (arith, one, apart, bit)) in
    (top.0, omega (arith, low, none))

-- a power of two is the one that it isn't below, if it is below its double
pub power_of_two-exponent : (n k : ℕ) → 0 < n → is_power_of_two n ≡ true → 2 ^ k ≤ n → n < 2 * 2 ^ k → n ≡ 2 ^ k
power_of_two-exponent n k some power low high =
    let whole = power_of_two-is n some power in
    whole.1 ∙ ap (λ (m : ℕ). 2 ^ m) (sym (exponent-is n whole.0 k whole.1 some low high))

-- the least power of two that is not below a length
least_power-found : (len : ℕ) → IsLeast (λ m. nat_le len (2 ^ m)) 0 (least_up_to len (λ m. nat_le len (2 ^ m)))
least_power-found len =
    let high : len ≤ 2 ^ len = omega (arith, lt-pow_self 2 len (omega arith)) in
    let passing : leb len (2 ^ len) ≡ true = grind (arith, nat_tests, high) in
    IsLeast-least_from (λ m. nat_le len (2 ^ m)) 0 len len (omega arith) (omega arith) passing

-- it is a power of two
pub least_power-is_power : (len : ℕ) → (k : ℕ) × (least_power len ≡ 2 ^ k)
unfolding least_power
least_power-is_power len = (least_up_to len (λ k. nat_le len (2 ^ k)), refl)

pub least_power-above : (len : ℕ) → len ≤ least_power len
unfolding least_power
least_power-above len =
    let passing : leb len (2 ^ least_up_to len (λ m. nat_le len (2 ^ m))) ≡ true = (least_power-found len).passing in
    grind (arith, nat_tests, passing)

half_short : (len w : ℕ) → 0 < len → IsLeast (λ m. nat_le len (2 ^ m)) 0 w → 2 ^ w < 2 * len
half_short len zero some found = omega (arith, pow-zero 2)
half_short len (suc m) some found =
    let fail : leb len (2 ^ m) ≡ false = found.least m (omega arith) (omega arith) in
    let short : 2 ^ m < len = grind (arith, nat_tests, fail) in
    omega (arith, pow-suc 2 m, short)

-- half of it is below the length
pub least_power-half : (len : ℕ) → 0 < len → least_power len < 2 * len
unfolding least_power
least_power-half len some = half_short len _ some (least_power-found len)

-- if some digests fit into a power of two, so do their slots, each the least power of two that holds a digest
slots_fit_power : (len b k w : ℕ) → 0 < len → 2 ^ k * len ≤ 2 ^ b → IsLeast (λ m. nat_le len (2 ^ m)) 0 w
    → 2 ^ k * 2 ^ w ≤ 2 ^ b
slots_fit_power len b k zero some low found =
    let one : 1 ≤ len = omega arith in
    omega (arith, mul-le-mul_left (2 ^ k) one, low, ap (λ (n : ℕ). 2 ^ k * n) (pow-zero 2))
slots_fit_power len b k (suc m) some low found =
    let fail : leb len (2 ^ m) ≡ false = found.least m (omega arith) (omega arith) in
    let short : 2 ^ m + 1 ≤ len = grind (arith, nat_tests, fail) in
    let two : 0 < 2 = omega arith in
    let grown : (2 ^ m + 1) * 2 ^ k ≤ len * 2 ^ k = mul_le (2 ^ m + 1) len (2 ^ k) short in
    let below : k + m < b = elim (cases_lt (k + m) b) [
      | inl less ↦ less
      | inr past ↦
          let over : 2 ^ b ≤ 2 ^ (k + m) = pow-le-pow_right two past in
          absurd (omega (arith, over, pow-add 2 k m, grown, low, pow_pos k))
    ] in
    let next : k + suc m ≤ b = omega arith in
    omega (arith, pow-add 2 k (suc m), pow-le-pow_right two next)

power_fits : (len b : ℕ) → 0 < len → len ≤ 2 ^ b → slot_count len (2 ^ b) * least_power len ≤ 2 ^ b
unfolding slot_count least_power
power_fits len b some one =
    slots_fit_power len b _ _ some (slot_count-fits len (2 ^ b) some one) (least_power-found len)

-- as many slots as the fan-out fit, by the rule
width_fits : (rule : SaltRule) (len size : ℕ) → 0 < len → len ≤ size → is_power_of_two size ≡ true
    → slot_count len size * width_by rule len ≤ size
width_fits Before len size some one power =
    let exponent = power_of_two-is size (omega (arith, some, one)) power in
    subst (λ (n : ℕ). slot_count len n * least_power len ≤ n) (sym exponent.1)
    (power_fits len exponent.0 some (omega (arith, one, exponent.1)))
width_fits After len size some one power = slot_count-fits len size some one
width_fits PaddedBefore len size some one power = slot_count-fits len size some one

width_above : (rule : SaltRule) (len : ℕ) → len ≤ width_by rule len
width_above Before len = least_power-above len
width_above After len = omega arith
width_above PaddedBefore len = omega arith

-- a digest fits into its slot
pub digest-slot : (s : TreeSettingsFields) → digest_len s ≤ slot_width s
unfolding slot_width
digest-slot s = width_above s.rule (digest_len s)

-- as many slots as the fan-out fit
pub fan-fits : (s : TreeSettingsFields) → IsValid s → fan s * slot_width s ≤ s.hash_block
unfolding fan slot_width
fan-fits s valid =
    width_fits s.rule (digest_len s) s.hash_block (digest_len_of-pos s.algorithm) (omega (arith, two_slots s valid))
    (block_power (least_block s.rule (digest_len s)) s.hash_block valid.hash_block_size)

-- as many digests as the fan-out fit, if one does
pub fan-digests : (s : TreeSettingsFields) → digest_len s ≤ s.hash_block → fan s * digest_len s ≤ s.hash_block
unfolding fan
fan-digests s one = slot_count-fits (digest_len s) s.hash_block (digest_len_of-pos s.algorithm) one

-- dm-verity's slots: the least power of two that is not below the digest
pub slot-power : (s : TreeSettingsFields) → s.rule ≡ Before → (k : ℕ) × (slot_width s ≡ 2 ^ k)
unfolding slot_width
slot-power s before = rw before (least_power-is_power (digest_len s))

pub slot-least : (s : TreeSettingsFields) → s.rule ≡ Before → slot_width s < 2 * digest_len s
unfolding slot_width
slot-least s before = rw before (least_power-half (digest_len s) (digest_len_of-pos s.algorithm))

-- slots of hash type 0, and of fs-verity
pub slot-after : (s : TreeSettingsFields) → s.rule ≡ After → slot_width s ≡ digest_len s
unfolding slot_width
slot-after s after = rw after refl

pub slot-same : (s : TreeSettingsFields) → s.rule ≡ PaddedBefore → slot_width s ≡ digest_len s
unfolding slot_width
slot-same s padded = rw padded refl

-- a hash block has no more slots than bytes
pub fan-most : (s : TreeSettingsFields) → IsValid s → fan s ≤ 524288
fan-most s valid =
    let some : 1 ≤ digest_len s = digest_len_of-pos s.algorithm in
    omega (arith, fan-digests s (omega (arith, two_slots s valid)), mul-le-mul_left (fan s) some, hash_most s valid)

-- the fan-out by the exponents of a hash block and of the least power of two that holds a digest
pub record ByExponents (s : TreeSettingsFields) (block slot : ℕ) : Type 0 where
  pub within : slot ≤ block
  pub fan_is : fan s ≡ 2 ^ (block - slot)

pub fan-exponents : (s : TreeSettingsFields) (block slot : ℕ) → IsValid s → 2 ^ block ≤ s.hash_block
    → s.hash_block < 2 * 2 ^ block → 2 ^ slot ≤ least_power (digest_len s) → least_power (digest_len s) < 2 * 2 ^ slot
    → ByExponents s block slot
unfolding fan
fan-exponents s block slot valid block_low block_high slot_low slot_high =
    let len = digest_len s in
    let some : 0 < len = digest_len_of-pos s.algorithm in
    let room = two_slots s valid in
    let size : s.hash_block ≡ 2 ^ block =
    power_of_two-exponent s.hash_block block (omega (arith, some, room))
    (block_power _ s.hash_block valid.hash_block_size)
    block_low block_high in
    let least = least_power-is_power len in
    let above = least_power-above len in
    let width : least_power len ≡ 2 ^ slot =
    least.1 ∙ ap (λ (n : ℕ). 2 ^ n)
    (sym (exponent-is (least_power len) least.0 slot least.1 (omega (arith, some, above)) slot_low slot_high)) in
    let half = least_power-half len some in
    let within : slot ≤ block = elim (cases_lt block slot) [
      | inl past ↦
          let more : 2 ^ block ≤ 2 ^ slot = pow-le-pow_right (let two : 0 < 2 = omega arith in two) (omega (arith, past)) in
          absurd (omega (arith, more, size, width, half, room))
      | inr le ↦ le
    ] in
    let parts : 2 ^ block ≡ 2 ^ (block - slot) * 2 ^ slot =
    ap (λ (n : ℕ). 2 ^ n) (let e : block ≡ block - slot + slot = omega (arith, within) in e) ∙ pow-add 2 (block - slot) slot in
    let slots : s.hash_block ≡ 2 ^ (block - slot) * least_power len =
    size ∙ parts ∙ ap (λ (n : ℕ). 2 ^ (block - slot) * n) (sym width) in
    let low : 2 ^ (block - slot) * len ≤ s.hash_block = omega (arith, slots, mul-le-mul_left (2 ^ (block - slot)) above) in
    let next : least_power len + 1 ≤ 2 * len = omega (arith, half) in
    let high : s.hash_block < 2 * 2 ^ (block - slot) * len =
    omega (arith, slots, mul-le-mul_left (2 ^ (block - slot)) next, pow_pos (block - slot)) in
    record {
      within = within;
      fan_is = slot_count-between len s.hash_block (block - slot) some low high;
    }
