-- The plan of a file's tree.
use Rattle.{std.{proofs.Common.{◌≡◌, ℕ, ◌*◌, ◌<◌, ◌≤◌, ap, arith, refl}, specs.Prelude.{Err, Ok}}, verity_io.specs.Writing.most_bytes}
use Rattle.verity_plan.{specs.Plans.{IsPlan, PlanFields, block_count, level_count, plan_for_bytes, plan_of_file}, proofs.FanLemmas.some_data}
use Rattle.verity_plan.specs.{PlanCounts.{level_count_of, most_level_count}, Settings.{IsValid, TreeSettingsFields, least_from}}
use Rattle.verity_plan.{specs.declared.plan_fault.PlanFault.TheVariants.{NoData, TooLarge}, proofs.CountLemmas.{div_ceil-pos, le-div_ceil}}
use Rattle.verity_plan.proofs.PlanLemmas.{checked_plan-large, has_room-data, levels_most, no_blocks, planned_is}
use Rattle.verity_builders.specs.FileTrees.{levels_of_file}

-- a file's plan has the builder's settings, and its open blocks are among the builder's
pub plan_of_file-is : (plan : PlanFields) (s : TreeSettingsFields) (size : ℕ) → Ok plan ≡ plan_for_bytes s size 0
    → plan ≡ plan_of_file s size
plan_of_file-is plan s size is = planned_is (plan_of_file s size) plan is

pub file_levels : (plan : PlanFields) (s : TreeSettingsFields) (size : ℕ) → IsPlan plan
    → Ok plan ≡ plan_for_bytes s size 0 → level_count_of plan ≤ most_level_count s
file_levels plan s size planned is =
    omega (
      arith,
      levels_most plan planned,
      ap (λ (p : PlanFields). most_level_count p.settings) (plan_of_file-is plan s size is),
    )

pub file_room : (plan : PlanFields) (s : TreeSettingsFields) (size levels n : ℕ) → Ok plan ≡ plan_for_bytes s size 0
    → n ≡ levels * s.hash_block → levels * plan.settings.hash_block ≤ n
file_room plan s size levels n is room = rw (plan_of_file-is plan s size is) (omega (arith, room))

-- a file of more bytes than areas have is too large
pub plan_of_file-large : (s : TreeSettingsFields) (size : ℕ) → IsValid s → most_bytes < size
    → plan_for_bytes s size 0 ≡ Err TooLarge
plan_of_file-large s size valid past =
    let some = some_data s valid in
    let wide = le-div_ceil size s.data_block (block_count s size) some (omega arith) in
    checked_plan-large (plan_of_file s size) (div_ceil-pos size s.data_block some (omega (arith, past)))
    (has_room-data (plan_of_file s size) (omega (arith, wide, past)))

-- a file without data blocks has no bytes
pub plan_of_file-none : (s : TreeSettingsFields) (size : ℕ) → IsValid s → Err NoData ≡ plan_for_bytes s size 0
    → size ≡ 0
plan_of_file-none s size valid is =
    let none : block_count s size ≡ 0 = no_blocks (plan_of_file s size) is in
    let some : 0 < size → 0 < block_count s size = div_ceil-pos size s.data_block (some_data s valid) in
    grind (arith, none, some)

-- a file of no bytes has no levels
pub no-levels : (s : TreeSettingsFields) (size : ℕ) → Err NoData ≡ plan_for_bytes s size 0 → levels_of_file s size ≡ 0
unfolding level_count least_from
no-levels s size is =
    let none : block_count s size ≡ 0 = no_blocks (plan_of_file s size) is in rw none refl
