-- The plan of the tree above a part's data alone, and that it is smaller than the whole tree's.
use Rattle.std.{proofs.{Common.{◌≡◌, ℕ, ◌+◌, ◌-◌, ◌*◌, ◌<◌, ◌≤◌, min, arith, sym, ◌∙◌, ap, inl, inr, refl}, lemmas.Bool.cases_lt}, specs.Int.div_ceil}
use Rattle.std.{proofs.Math.Nat.{mul-le-mul_right, mul-pos, one-le-pow}, specs.Prelude.Ok}
use Rattle.verity_plan.specs.{Plans.{IsPlan, PlanFields, blocks_from, checked_plan, end_place_of, level_count, plan_for_bytes}, Settings.fan}
use Rattle.verity_plan.{specs.PlanCounts.level_count_of, proofs.CountLemmas.{div_ceil-le, div_ceil-mul, le-div_ceil, mul-lt_div_ceil, mul_le}}
use Rattle.verity_plan.proofs.{FanLemmas.{fan-some, fan-two, some_data}, PlaceLemmas.{blocks_from-fewer, blocks_from-more}}
use Rattle.verity_plan.proofs.PlanLemmas.{checked_plan-planned, level_count-le, level_count-least}
use Rattle.verity_builders.specs.Parts.{HasPart, first_block, blocks_in_part, plan_of_part}

-- a tree above fewer data blocks has no more hash blocks
pub blocks_from-le_all : (f few many : ℕ) → 2 ≤ f → few ≤ many
    → blocks_from f few 0 (level_count f few) ≤ blocks_from f many 0 (level_count f many)
blocks_from-le_all f few many two le =
    omega (
      arith,
      blocks_from-fewer f few many 0 (level_count f few) (omega arith) le,
      blocks_from-more f many 0 (level_count f few) (level_count f many) (level_count-le f few many two le),
    )

-- a plan of bytes that can be carried out is made
pub plan_for_bytes-planned : (p : PlanFields) → IsPlan p → p.base ≡ 0 → plan_for_bytes p.settings p.wanted 0 ≡ Ok p
plan_for_bytes-planned p planned first =
    ap (λ (n : ℕ). checked_plan (record { settings = p.settings; blocks = n; wanted = p.wanted; base = 0 }))
    (sym planned.blocks_are)
    ∙ ap (λ (n : ℕ). checked_plan (record { settings = p.settings; blocks = p.blocks; wanted = p.wanted; base = n }))
    (sym first)
    ∙ checked_plan-planned p planned

-- a plan of no more data blocks of the same tree can be carried out
pub IsPlan-smaller : (p : PlanFields) (blocks wanted : ℕ) → IsPlan p → blocks ≤ p.blocks → 0 < wanted
    → blocks ≡ div_ceil wanted p.settings.data_block
    → IsPlan (record { settings = p.settings; blocks = blocks; wanted = wanted; base = 0 })
IsPlan-smaller p blocks wanted planned fewer some are =
    let s = p.settings in
    let fits = blocks_from-le_all (fan s) blocks p.blocks (fan-two s planned.valid) fewer in
    record {
      valid = planned.valid;
      some = some;
      blocks_are = are;
      data_most = omega (arith, mul_le blocks p.blocks s.data_block fewer, planned.data_most);
      hash_most = omega (
        arith,
        mul-le-mul_right s.hash_block fits,
        planned.hash_most,
        mul_le (blocks_from (fan s) p.blocks 0 (level_count (fan s) p.blocks)) (end_place_of p) s.hash_block
            (omega arith),
      );
    }

-- what comes after the first runs is in the runs that are left
rest-within : (wanted size first all : ℕ) → wanted ≤ all * size → first * size < wanted
    → wanted - first * size ≤ (all - first) * size
rest-within wanted size first all enough begins = elim (cases_lt first all) [
  | inl less ↦
      let split : first + (all - first) ≡ all = omega (arith, less) in
      omega (arith, ap (λ (n : ℕ). n * size) split, enough)
  | inr past ↦ absurd (omega (arith, mul_le all first size past, enough, begins))
]

-- a run of data blocks has the blocks that its bytes make
run-count : (wanted size count first all : ℕ) → 0 < size → all ≡ div_ceil wanted size → first * size < wanted
    → min count (all - first) ≡ div_ceil (min (count * size) (wanted - first * size)) size
run-count wanted size count first all some is begins =
    let enough : wanted ≤ all * size = le-div_ceil wanted size all some (omega (arith, is)) in
    elim (cases_lt (wanted - first * size) (count * size)) [
      | inl less ↦
          let rest = wanted - first * size in
          let own = div_ceil rest size in
          let least : all ≤ first + own =
          rw is (div_ceil-le wanted size (first + own) some
          (omega (arith, le-div_ceil rest size own some (omega arith), begins))) in
          let most : own ≤ all - first =
          div_ceil-le rest size (all - first) some (rest-within wanted size first all enough begins) in
          let few : all ≤ first + count =
          rw is (div_ceil-le wanted size (first + count) some (omega (arith, less, begins))) in
          let bytes : min (count * size) rest ≡ rest = omega (arith, less) in
          rw bytes (omega (arith, least, most, few))
      | inr whole ↦
          let bytes : min (count * size) (wanted - first * size) ≡ count * size = omega (arith, whole) in
          let within : first + count ≤ all = elim (cases_lt all (first + count)) [
            | inl past ↦
                absurd (omega (
                  arith,
                  mul_le (all + 1) (first + count) size (omega (arith, past)),
                  enough,
                  whole,
                  begins,
                  some,
                ))
            | inr most ↦ most
          ] in
          rw bytes (omega (arith, within, div_ceil-mul count size some))
    ]

-- what is known of a part: where it begins, and how much data it has
pub record IsPartOf (p : PlanFields) (level part : ℕ) : Type 0 where
  pub wide : 0 < blocks_in_part p level
  pub begins : first_block p level part < p.blocks
  pub begins_byte : first_block p level part * p.settings.data_block < p.wanted
  pub planned : IsPlan (plan_of_part p level part)
  pub levels_most : level_count_of (plan_of_part p level part) ≤ level

pub has-part : (p : PlanFields) (level part : ℕ) → IsPlan p → HasPart p level part → IsPartOf p level part
has-part p level part planned has =
    let s = p.settings in
    let count = blocks_in_part p level in
    let own = plan_of_part p level part in
    let wide : 0 < count = one-le-pow level (fan s) (fan-some s) in
    let begins = mul-lt_div_ceil p.blocks count part wide has.part_below in
    let begins_byte = mul-lt_div_ceil p.wanted s.data_block (part * count) (some_data s planned.valid)
    (omega (arith, begins, planned.blocks_are)) in
    let bytes_in : 0 < count * s.data_block = mul-pos wide (some_data s planned.valid) in
    let are = run-count p.wanted s.data_block count (part * count) p.blocks
    (some_data s planned.valid) planned.blocks_are begins_byte in
    record {
      wide = wide;
      begins = begins;
      begins_byte = begins_byte;
      planned = IsPlan-smaller p own.blocks own.wanted planned (omega arith) (omega (arith, bytes_in, begins_byte)) are;
      levels_most = level_count-least (fan s) own.blocks level (fan-two s planned.valid) (omega arith);
    }

-- the plan of a part is made
pub plan_of_part-made : (p : PlanFields) (level part : ℕ) → IsPlan p → HasPart p level part
    → plan_for_bytes p.settings (plan_of_part p level part).wanted 0 ≡ Ok (plan_of_part p level part)
plan_of_part-made p level part planned has =
    plan_for_bytes-planned (plan_of_part p level part) (has-part p level part planned has).planned refl

-- the code's numbers of a part, which counts no more data blocks than there are
pub first_block-by_count : (p : PlanFields) (level part count : ℕ) → IsPlan p → HasPart p level part
    → count ≡ min (blocks_in_part p level) p.blocks → part * count ≡ first_block p level part
first_block-by_count p level part count planned has is = elim (cases_lt p.blocks (blocks_in_part p level)) [
  | inl less ↦
      let one =
      div_ceil-le p.blocks (blocks_in_part p level) 1 (has-part p level part planned has).wide (omega (arith, less)) in
      let none : part ≡ 0 = omega (arith, one, has.part_below) in
      rw none (omega arith)
  | inr most ↦
      let same : count ≡ blocks_in_part p level = omega (arith, is, most) in
      ap (λ (n : ℕ). part * n) same
]

pub wanted-by_count : (p : PlanFields) (level part count : ℕ) → IsPlan p → count ≡ min (blocks_in_part p level) p.blocks
    → min (p.wanted - first_block p level part * p.settings.data_block) (count * p.settings.data_block)
    ≡ (plan_of_part p level part).wanted
wanted-by_count p level part count planned is = elim (cases_lt p.blocks (blocks_in_part p level)) [
  | inl less ↦
      let s = p.settings in
      let enough =
      le-div_ceil p.wanted s.data_block p.blocks (some_data s planned.valid) (omega (arith, planned.blocks_are)) in
      let same : count ≡ p.blocks = omega (arith, is, less) in
      let area = mul_le p.blocks (blocks_in_part p level) s.data_block (omega (arith, less)) in
      rw same (omega (arith, enough, area))
  | inr most ↦
      let same : count ≡ blocks_in_part p level = omega (arith, is, most) in
      rw same (omega arith)
]
