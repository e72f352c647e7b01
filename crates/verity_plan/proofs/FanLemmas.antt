-- Fan-outs and slot widths as powers of two, and the sizes of digests and blocks.
use Rattle.std.proofs.Common.{sym, ◌∙◌, ◌≡◌, ℕ, zero, suc, ◌+◌, ◌*◌, ◌/◌, ◌^◌, ◌<◌, ◌≤◌, max, true, false, ltb, leb, arith, ap, refl, inl, inr}
use Rattle.std.{proofs.lemmas.{Bool.{Decides.nat_tests, cases_lt}, Nat.{pow_pos, div-add-mod', mod_below}}, specs.Prelude.{nat_le, nat_lt}}
use Rattle.std.{proofs.Math.Nat.{pow-suc, pow-zero, pow-le-pow_right, mul-le-mul_right, le_trans, div-mul-le_self}, specs.Int.is_power_of_two}
use Rattle.verity_hash.specs.{Hashing.digest_len_of, declared.algorithm.Algorithm.{Algorithm, TheVariants.{Sha256, Sha512, Sha1, Sha224, Sha384}}}
use Rattle.verity_hash.specs.declared.salting.SaltRule.{SaltRule, TheVariants.{Before, After, PaddedBefore}}
use Rattle.verity_plan.specs.Settings.{TreeSettingsFields, IsValid, fan, digest_len, is_block_size, least_block, slot_count, least_power, log2}
use Rattle.verity_plan.proofs.{LeastLemmas.{IsLeast, IsLeast-same, IsLeast-least_from}, CountLemmas.lt-pow_self}

-- the logarithm is the least exponent that passes its test
log2-found : (n : ℕ) → IsLeast (λ m. nat_lt n (2 ^ (m + 1))) 0 (log2 n)
unfolding log2
log2-found n =
    let wide : n < 2 ^ (n + 1) = omega (arith, lt-pow_self 2 (n + 1) (omega arith)) in
    let passing : ltb n (2 ^ (n + 1)) ≡ true = grind (arith, nat_tests, wide) in
    IsLeast-least_from (λ m. nat_lt n (2 ^ (m + 1))) 0 n n (omega arith) (omega arith) passing

-- the logarithm from the powers that a number lies between
pub log2-is : (n k : ℕ) → 2 ^ k ≤ n → n < 2 * 2 ^ k → log2 n ≡ k
log2-is n k low high =
    let next : suc k ≡ k + 1 = omega arith in
    let above : n < 2 ^ (k + 1) = omega (arith, pow-suc 2 k, ap (λ (m : ℕ). 2 ^ m) next, high) in
    let passing : ltb n (2 ^ (k + 1)) ≡ true = grind (arith, nat_tests, above) in
    IsLeast-same (λ m. nat_lt n (2 ^ (m + 1))) 0 _ k (log2-found n) (record {
      from = omega arith;
      passing = passing;
      least = λ m a b.
          let two : 0 < 2 = omega arith in
          let more : m + 1 ≤ k = omega (arith, b) in
          let below : 2 ^ (m + 1) ≤ n = le_trans (pow-le-pow_right two more) low in
          let failing : ltb n (2 ^ (m + 1)) ≡ false = grind (arith, nat_tests, below) in failing;
    })

-- the exponent of a power of two, from the powers that it lies between
pub exponent-is : (n k m : ℕ) → n ≡ 2 ^ k → 0 < n → 2 ^ m ≤ n → n < 2 * 2 ^ m → m ≡ k
exponent-is n k m is some low high =
    sym (log2-is n m low high) ∙ log2-is n k (omega (arith, is)) (omega (arith, is, some))

power_low : (n k : ℕ) → 0 < n → IsLeast (λ m. nat_lt n (2 ^ (m + 1))) 0 k → 2 ^ k ≤ n
power_low n zero some found = omega (arith, pow-zero 2)
power_low n (suc k) some found =
    let fail : ltb n (2 ^ (k + 1)) ≡ false = found.least k (omega arith) (omega arith) in
    let e : k + 1 ≡ suc k = omega arith in
    let low : 2 ^ (k + 1) ≤ n = grind (arith, nat_tests, fail) in
    omega (arith, low, ap (λ (m : ℕ). 2 ^ m) e)

power_high : (n k : ℕ) → IsLeast (λ m. nat_lt n (2 ^ (m + 1))) 0 k → n < 2 * 2 ^ k
power_high n k found =
    let passing : ltb n (2 ^ (k + 1)) ≡ true = found.passing in
    let lt : n < 2 ^ (k + 1) = grind (arith, nat_tests, passing) in
    let one_more : k + 1 ≡ suc k = omega arith in
    omega (arith, lt, pow-suc 2 k, ap (λ (m : ℕ). 2 ^ m) one_more)

-- a number lies between the powers of its logarithm and of the next exponent
log2-low : (n : ℕ) → 0 < n → 2 ^ log2 n ≤ n
log2-low n some = power_low n (log2 n) some (log2-found n)

log2-high : (n : ℕ) → n < 2 * 2 ^ log2 n
log2-high n = power_high n (log2 n) (log2-found n)

-- half of a power of two that is not above a length is below it, as are the powers before it
half_below : (len k m : ℕ) → 2 ^ k / 2 < max 1 len → m < k → 2 ^ m < len
half_below len zero m low below = absurd (omega arith)
half_below len (suc k) m low below =
    let two : 0 < 2 = omega arith in
    let le : m ≤ k = omega arith in
    let same : 2 ^ suc k / 2 ≡ 2 ^ k = omega (arith, pow-suc 2 k) in
    omega (arith, pow-le-pow_right two le, same, low, pow_pos m)

-- the least power of two that is not below a length
pub least_power-is : (len k : ℕ) → len ≤ 2 ^ k → 2 ^ k / 2 < max 1 len → least_power len ≡ 2 ^ k
unfolding least_power
least_power-is len k high low =
    let two : 0 < 2 = omega arith in
    let passing : leb len (2 ^ k) ≡ true = grind (arith, nat_tests, high) in
    let here : IsLeast (λ m. nat_le len (2 ^ m)) 0 k = record {
      from = omega arith;
      passing = passing;
      least = λ m a b. let past = half_below len k m low b in let failing : leb len (2 ^ m)
          ≡ false = grind (arith, nat_tests, past) in failing;
    } in
    let within : k ≤ len = elim (cases_lt len k) [
      | inl more ↦ absurd (omega (arith, half_below len k len low more, lt-pow_self 2 len (omega arith)))
      | inr le ↦ le
    ] in
    let found = IsLeast-least_from (λ m. nat_le len (2 ^ m)) 0 len k (omega arith) (omega (arith, within)) passing in
    ap (λ (m : ℕ). 2 ^ m) (IsLeast-same (λ m. nat_le len (2 ^ m)) 0 _ k found here)

-- a number whose product with the divisor fits is within the quotient
le-quotient : (n size len : ℕ) → 0 < len → n * len ≤ size → n ≤ size / len
le-quotient n size len some fits = elim (cases_lt (size / len) n) [
  | inl less ↦
      let next : size / len + 1 ≤ n = omega arith in
      absurd (omega (arith, mul-le-mul_right len next, div-add-mod' size len, mod_below size len some, fits))
  | inr le ↦ le
]

-- the fan-out from the powers of two that many digests fit, and twice as many don't
pub slot_count-between : (len size k : ℕ) → 0 < len → 2 ^ k * len ≤ size → size < 2 * 2 ^ k * len
    → slot_count len size ≡ 2 ^ k
unfolding slot_count
slot_count-between len size k some low high =
    let more : size / len < 2 * 2 ^ k = elim (cases_lt (size / len) (2 * 2 ^ k)) [
      | inl less ↦ less
      | inr past ↦ absurd (omega (arith, mul-le-mul_right len past, div-mul-le_self size len, high))
    ] in
    ap (λ (m : ℕ). 2 ^ m) (log2-is (size / len) k (le-quotient (2 ^ k) size len some low) more)

-- a digest has at least one byte
pub digest_len_of-pos : (algorithm : Algorithm) → 0 < digest_len_of algorithm
digest_len_of-pos Sha256 = omega arith
digest_len_of-pos Sha512 = omega arith
digest_len_of-pos Sha1 = omega arith
digest_len_of-pos Sha224 = omega arith
digest_len_of-pos Sha384 = omega arith

-- and even at least 20
pub digest_len_of-least : (algorithm : Algorithm) → 20 ≤ digest_len_of algorithm
digest_len_of-least Sha256 = omega arith
digest_len_of-least Sha512 = omega arith
digest_len_of-least Sha1 = omega arith
digest_len_of-least Sha224 = omega arith
digest_len_of-least Sha384 = omega arith

-- and at most 64
pub digest_len_of-most : (algorithm : Algorithm) → digest_len_of algorithm ≤ 64
digest_len_of-most Sha256 = omega arith
digest_len_of-most Sha512 = omega arith
digest_len_of-most Sha1 = omega arith
digest_len_of-most Sha224 = omega arith
digest_len_of-most Sha384 = omega arith

-- the least block size
block_least : (least size : ℕ) → is_block_size least size ≡ true → least ≤ size
block_least least size h = grind (arith, nat_tests, h)

pub block_power : (least size : ℕ) → is_block_size least size ≡ true → is_power_of_two size ≡ true
block_power least size h = grind (arith, nat_tests, h)

block_most : (least size : ℕ) → is_block_size least size ≡ true → size ≤ 524288
block_most least size h = grind (arith, nat_tests, h)

two_slots_by : (rule : SaltRule) (algorithm : Algorithm) (size : ℕ)
    → is_block_size (least_block rule (digest_len_of algorithm)) size ≡ true → 2 * digest_len_of algorithm ≤ size
two_slots_by Before algorithm size h = omega (arith, block_least 512 size h, digest_len_of-most algorithm)
two_slots_by After algorithm size h = omega (arith, block_least 512 size h, digest_len_of-most algorithm)
two_slots_by PaddedBefore algorithm size h = block_least (2 * digest_len_of algorithm) size h

some_block : (rule : SaltRule) (algorithm : Algorithm) (size : ℕ)
    → is_block_size (least_block rule (digest_len_of algorithm)) size ≡ true → 0 < size
some_block rule algorithm size h = omega (arith, two_slots_by rule algorithm size h, digest_len_of-pos algorithm)

two_from_power : (n k : ℕ) → 2 ≤ n → n < 2 * 2 ^ k → 2 ≤ 2 ^ k
two_from_power n zero two high = absurd (omega (arith, two, high, pow-zero 2))
two_from_power n (suc k) two high = omega (arith, pow-suc 2 k, pow_pos k)

-- a fan-out is at least 2 if two digests fit
pub slot_count-two : (len size : ℕ) → 0 < len → 2 * len ≤ size → 2 ≤ slot_count len size
unfolding slot_count
slot_count-two len size some two =
    two_from_power (size / len) (log2 (size / len)) (le-quotient 2 size len some two) (log2-high (size / len))

-- as many digests as the fan-out fit
pub slot_count-fits : (len size : ℕ) → 0 < len → len ≤ size → slot_count len size * len ≤ size
unfolding slot_count
slot_count-fits len size some one =
    let within : 1 ≤ size / len = le-quotient 1 size len some (omega (arith, one)) in
    let low = log2-low (size / len) within in
    omega (arith, mul-le-mul_right len low, div-mul-le_self size len)

-- twice as many digests don't fit
pub slot_count-below : (len size : ℕ) → 0 < len → size < 2 * slot_count len size * len
unfolding slot_count
slot_count-below len size some =
    let high : size / len + 1 ≤ 2 * 2 ^ log2 (size / len) = omega (arith, log2-high (size / len)) in
    omega (arith, mul-le-mul_right len high, div-add-mod' size len, mod_below size len some)

-- a hash block has room for two digests
pub two_slots : (s : TreeSettingsFields) → IsValid s → 2 * digest_len s ≤ s.hash_block
two_slots s valid = two_slots_by s.rule s.algorithm s.hash_block valid.hash_block_size

-- and so has a data block
pub two_digests : (s : TreeSettingsFields) → IsValid s → 2 * digest_len s ≤ s.data_block
two_digests s valid = two_slots_by s.rule s.algorithm s.data_block valid.data_block_size

-- a data block has a byte
pub some_data : (s : TreeSettingsFields) → IsValid s → 0 < s.data_block
some_data s valid = some_block s.rule s.algorithm s.data_block valid.data_block_size

-- blocks have at most 2 ^ 19 bytes
pub data_most : (s : TreeSettingsFields) → IsValid s → s.data_block ≤ 524288
data_most s valid = block_most (least_block s.rule (digest_len s)) s.data_block valid.data_block_size

pub hash_most : (s : TreeSettingsFields) → IsValid s → s.hash_block ≤ 524288
hash_most s valid = block_most (least_block s.rule (digest_len s)) s.hash_block valid.hash_block_size

pub fan-two : (s : TreeSettingsFields) → IsValid s → 2 ≤ fan s
unfolding fan
fan-two s valid = slot_count-two (digest_len s) s.hash_block (digest_len_of-pos s.algorithm) (two_slots s valid)

-- a fan-out is a power of two
pub fan-power : (s : TreeSettingsFields) → (k : ℕ) × (fan s ≡ 2 ^ k)
unfolding fan slot_count
fan-power s = (log2 (s.hash_block / digest_len s), refl)

pub fan-some : (s : TreeSettingsFields) → 0 < fan s
fan-some s = let power = fan-power s in omega (arith, power.1, pow_pos power.0)

pub fan-greatest : (s : TreeSettingsFields) → s.hash_block < 2 * fan s * digest_len s
unfolding fan
fan-greatest s = slot_count-below (digest_len s) s.hash_block (digest_len_of-pos s.algorithm)
