-- A file that isn't too large for any tree.
use Rattle.std.{proofs.Common.{◌≡◌, ◌∙◌, ℕ, ◌+◌, ◌-◌, ◌*◌, ◌<◌, ◌≤◌, true, false, arith, ap, refl}, specs.Prelude.{Ok, nat_eq, nat_le}}
use Rattle.{std.proofs.{Math.Nat.{mul-le-mul, mul-le-mul_left, mul-le-mul_right}, lemmas.Bool.Decides.nat_tests}, verity_io.specs.Writing.most_bytes}
use Rattle.verity_plan.{proofs.{PlaceLemmas.blocks_from-most, PlanLemmas.level_count-few}, specs.Settings.{IsValid, TreeSettingsFields, fan}}
use Rattle.verity_plan.specs.Plans.{block_count, blocks_from, end_place, level_count, plan_for_bytes, plan_of_file}
use Rattle.verity_plan.proofs.CountLemmas.{div_ceil-pos, mul-lt_div_ceil}
use Rattle.verity_plan.proofs.FanLemmas.{data_most, digest_len_of-least, fan-some, fan-two, hash_most, some_data, two_digests}

-- a file of up to 2 ^ 41 bytes has a plan
pub small-plan : (s : TreeSettingsFields) (size : ℕ) → IsValid s → 0 < size → size ≤ 2199023255552
    → plan_for_bytes s size 0 ≡ Ok (plan_of_file s size)
small-plan s size valid some most =
    let d = s.data_block in
    let n = block_count s size in
    let f = fan s in
    let wide : 0 < d = some_data s valid in
    let one : 0 < n = div_ceil-pos size d wide some in
    let last : (n - 1) * d < size = mul-lt_div_ceil size d (n - 1) wide (omega (arith, one)) in
    let next : n * d ≡ (n - 1) * d + d =
    ap (λ (k : ℕ). k * d) (let e : n ≡ n - 1 + 1 = omega (arith, one) in e)
    ∙ (let e : (n - 1 + 1) * d ≡ (n - 1) * d + d = omega arith in e) in
    let bytes : n * d ≤ 2199023779840 = omega (arith, last, next, most, data_most s valid) in
    let forty : 40 ≤ d = omega (arith, two_digests s valid, digest_len_of-least s.algorithm) in
    let few : n * 40 ≤ 2199023779840 = omega (arith, bytes, mul-le-mul_left n forty) in
    let levels : level_count f n ≤ 63 = level_count-few f n (fan-two s valid) (omega (arith, few)) in
    let sum : blocks_from f n 0 (level_count f n) ≤ 63 * n =
    omega (arith, blocks_from-most f n 0 (level_count f n) (fan-some s), mul-le-mul_right n levels) in
    let total : blocks_from f n 0 (level_count f n) ≤ 3463462453249 = omega (arith, sum, few) in
    let area : end_place f n 0 * s.hash_block ≤ 3463462453249 * 524288 =
    mul-le-mul (let e : end_place f n 0 ≤ 3463462453249 = omega (arith, total) in e) (hash_most s valid) in
    let first : nat_le (n * d) most_bytes ≡ true =
    let h : n * d ≤ most_bytes = omega (arith, bytes) in grind (arith, nat_tests, h) in
    let second : nat_le (end_place f n 0 * s.hash_block) most_bytes ≡ true =
    let h : end_place f n 0 * s.hash_block ≤ most_bytes = omega (arith, area) in grind (arith, nat_tests, h) in
    let tested : nat_eq n 0 ≡ false = grind (arith, nat_tests, one) in
    rw (tested, first, second) refl
