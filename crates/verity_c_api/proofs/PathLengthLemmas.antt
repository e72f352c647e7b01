-- The hash blocks above a data block are few, or small, and so is the memory that a tree is built in.
use Rattle.std.{proofs.{Common.{◌≡◌, ℕ, ◌+◌, ◌*◌, ◌/◌, ◌^◌, ◌<◌, ◌≤◌, true, arith, inl, inr}, lemmas.Bool.cases_lt}, specs.Int.is_power_of_two}
use Rattle.std.proofs.Math.Nat.{div-mul-le_self, mul-le-mul, mul-le-mul_left, pow-le-pow_left, pow-le-pow_right}
use Rattle.verity_plan.proofs.{CountLemmas.mul_le, FitLemmas.power_of_two-exponent, PlanLemmas.{level_count-few, level_count-least}}
use Rattle.verity_plan.proofs.FanLemmas.{block_power, digest_len_of-most, fan-greatest, fan-power, fan-two, hash_most, some_data}
use Rattle.{verity_builders.specs.Feeding.feeding_length, verity_c_api.specs.Building.file_memory_length_of, verity_plan.specs.Plans.level_count}
use Rattle.{verity_blocks.specs.Windows.{window_blocks, window_length}, verity_plan.specs.Settings.{IsValid, TreeSettingsFields, digest_len, fan}}

-- a hash block has fewer bytes than 128 times its slots
fan-wide : (s : TreeSettingsFields) → s.hash_block < 128 * fan s
fan-wide s =
    let most : digest_len s ≤ 64 = digest_len_of-most s.algorithm in
    omega (arith, fan-greatest s, mul-le-mul_left (2 * fan s) most)

-- data blocks of so many bytes are few
blocks-below : (n block size most : ℕ) → n * block ≤ 9223372036854775807 → size ≤ block
    → 9223372036854775807 < (most + 1) * size → n ≤ most
blocks-below n block size most within least past =
    elim (cases_lt most n) [
      | inl more ↦
          let step : most + 1 ≤ n = omega (arith, more) in
          absurd (omega (arith, mul-le-mul step least, within, past))
      | inr few ↦ few
    ]

-- so there are few levels of large hash blocks
levels-below : (s : TreeSettingsFields) (n f m : ℕ) → IsValid s → f ≤ fan s → n ≤ f ^ m → level_count (fan s) n ≤ m
levels-below s n f m valid wide few =
    level_count-least (fan s) n m (fan-two s valid) (omega (arith, few, pow-le-pow_left wide m))

-- as many levels as any tree has
levels-any : (s : TreeSettingsFields) (n : ℕ) → IsValid s → n * s.data_block ≤ 9223372036854775807
    → level_count (fan s) n ≤ 63
levels-any s n valid within =
    level_count-few (fan s) n (fan-two s valid)
    (blocks-below n s.data_block 1 9223372036854775807 within (some_data s valid) (omega arith))

-- five of the largest hash blocks, where data blocks have at least 512 bytes
pub path-most : (s : TreeSettingsFields) (n : ℕ) → IsValid s → n * s.data_block ≤ 9223372036854775807
    → 512 ≤ s.data_block → level_count (fan s) n * s.hash_block ≤ 2621440
path-most s n valid within least =
    let few : n ≤ 18014398509481984 = blocks-below n s.data_block 512 18014398509481984 within least (omega arith) in
    elim (cases_lt 32768 s.hash_block) [
      | inr small ↦ omega (arith, mul-le-mul (levels-any s n valid within) small)
      | inl large ↦ elim (cases_lt 262144 s.hash_block) [
        | inr middle ↦
            let wide : 256 ≤ fan s = omega (arith, fan-wide s, large) in
            omega (arith, mul-le-mul (levels-below s n 256 7 valid wide (omega (arith, few))) middle)
        | inl largest ↦
            let wide : 2048 ≤ fan s = omega (arith, fan-wide s, largest) in
            omega (arith, mul-le-mul (levels-below s n 2048 5 valid wide (omega (arith, few))) (hash_most s valid))
      ]
    ]

-- a power of two below another is half of it at most
halved : (size k : ℕ) → is_power_of_two size ≡ true → size < 2 * 2 ^ k → size ≤ 2 ^ k
halved size k power below =
    elim (cases_lt (2 ^ k) size) [
      | inl more ↦
          let is : size ≡ 2 ^ k =
          power_of_two-exponent size k (omega (arith, more)) power (omega (arith, more)) below in
          absurd (omega (arith, is, more))
      | inr most ↦ most
    ]

-- four of them, where data blocks have the size of hash blocks
pub file_path-most : (s : TreeSettingsFields) (n : ℕ) → IsValid s → n * s.data_block ≤ 9223372036854775807
    → s.data_block ≡ s.hash_block → level_count (fan s) n * s.hash_block ≤ 2097152
file_path-most s n valid within same =
    elim (cases_lt 32768 s.hash_block) [
      | inr small ↦ omega (arith, mul-le-mul (levels-any s n valid within) small)
      | inl large ↦ elim (cases_lt s.hash_block 524288) [
        | inl middle ↦
            let half : s.hash_block ≤ 262144 =
            halved s.hash_block 18 (block_power _ s.hash_block valid.hash_block_size) (omega (arith, middle)) in
            let wide : 256 ≤ fan s = omega (arith, fan-wide s, large) in
            let few : n ≤ 281474976710656 =
            blocks-below n s.data_block 32768 281474976710656 within (omega (arith, large, same)) (omega arith) in
            omega (arith, mul-le-mul (levels-below s n 256 7 valid wide (omega (arith, few))) half)
        | inr largest ↦
            let wide : 4096 ≤ fan s = omega (arith, fan-wide s, largest) in
            let few : n ≤ 17592186044416 =
            blocks-below n s.data_block 524288 17592186044416 within (omega (arith, largest, same)) (omega arith) in
            omega (arith, mul-le-mul (levels-below s n 4096 4 valid wide (omega (arith, few))) (hash_most s valid))
      ]
    ]

-- a window has at most the bytes of the largest block
window-most : (s : TreeSettingsFields) → window_length s ≤ 524288
unfolding window_blocks
window-most s =
    let rows : window_blocks s ≤ 524288 / s.data_block = omega arith in
    omega (
      arith,
      mul_le (window_blocks s) (524288 / s.data_block) s.data_block rows,
      div-mul-le_self 524288 s.data_block,
    )

window-eight : (s : TreeSettingsFields) → window_length s ≤ 8 * s.data_block
unfolding window_blocks
window-eight s =
    let rows : window_blocks s ≤ 8 = omega arith in
    mul_le (window_blocks s) 8 s.data_block rows

-- the largest hash blocks have at least 8192 slots
fan-largest : (s : TreeSettingsFields) → IsValid s → 262144 < s.hash_block → 8192 ≤ fan s
fan-largest s valid large =
    let power = fan-power s in
    let whole : 524288 ≤ s.hash_block = elim (cases_lt s.hash_block 524288) [
      | inl less ↦
          absurd (omega (
            arith,
            halved s.hash_block 18 (block_power _ s.hash_block valid.hash_block_size) (omega (arith, less)),
            large,
          ))
      | inr all ↦ all
    ] in
    let two : 0 < 2 = omega arith in
    elim (cases_lt power.0 13) [
      | inl few ↦
          let most : power.0 ≤ 12 = omega (arith, few) in
          absurd (omega (arith, pow-le-pow_right two most, power.1, fan-wide s, whole))
      | inr many ↦ omega (arith, pow-le-pow_right two many, power.1)
    ]

-- so the memory that a tree is built in has at most these bytes: five of the largest hash blocks, and eight data blocks
-- of 1024 bytes
pub memory-most : (s : TreeSettingsFields) (n : ℕ) → IsValid s → n * s.data_block ≤ 9223372036854775807
    → 512 ≤ s.data_block → feeding_length s (level_count (fan s) n) ≤ 2629632
memory-most s n valid within least =
    elim (cases_lt 32768 s.hash_block) [
      | inr small ↦ omega (arith, mul-le-mul (levels-any s n valid within) small, window-most s)
      | inl large ↦ elim (cases_lt 262144 s.hash_block) [
        | inr middle ↦
            let wide : 256 ≤ fan s = omega (arith, fan-wide s, large) in
            let few : n ≤ 18014398509481984 =
            blocks-below n s.data_block 512 18014398509481984 within least (omega arith) in
            omega (arith, mul-le-mul (levels-below s n 256 7 valid wide (omega (arith, few))) middle, window-most s)
        | inl largest ↦ elim (cases_lt s.data_block 2048) [
          | inl short ↦
              let half : s.data_block ≤ 1024 =
              halved s.data_block 10 (block_power _ s.data_block valid.data_block_size) (omega (arith, short)) in
              omega (arith, path-most s n valid within least, window-eight s, half)
          | inr long ↦
              let few : n ≤ 4503599627370496 =
              blocks-below n s.data_block 2048 4503599627370496 within long (omega arith) in
              let levels = levels-below s n 8192 4 valid (fan-largest s valid largest) (omega (arith, few)) in
              omega (arith, mul-le-mul levels (hash_most s valid), window-most s)
        ]
      ]
    ]

-- and that of a file's tree
pub file_memory-most : (s : TreeSettingsFields) → IsValid s → s.data_block ≡ s.hash_block
    → file_memory_length_of s ≤ 2621440
file_memory-most s valid same =
    omega (
      arith,
      file_path-most s (9223372036854775807 / s.data_block) valid
          (div-mul-le_self 9223372036854775807 s.data_block) same,
      window-most s,
    )
