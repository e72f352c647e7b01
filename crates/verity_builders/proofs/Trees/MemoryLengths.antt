-- The lengths of builders' memory.
use Rattle.std.proofs.{Common.{arith, ℕ, ◌*◌, ◌≤◌}, lemmas.Nat.mul-le}
use Rattle.verity_plan.{specs.{PlanCounts.level_count_of, Plans.{IsPlan, PlanFields}}, proofs.{FanLemmas.hash_most, PlanLemmas.levels_few}}

-- the open blocks' length is far below the largest number
pub open_blocks-most : (p : PlanFields) (n : ℕ) → IsPlan p → n ≤ level_count_of p
    → n * p.settings.hash_block ≤ 63 * 524288
open_blocks-most p n planned few =
    mul-le _ _ 63 524288 (omega (arith, few, levels_few p planned)) (hash_most p.settings planned.valid)
