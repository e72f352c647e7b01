-- Each level has a first block.
use Rattle.{std.proofs.{Common.{ℕ, ◌+◌, ◌^◌, ◌<◌, subst}, Math.Nat.zero-div}, verity_plan.proofs.{IndexLemmas.HasBlock-above, PlanLemmas.blocks-some}}
use Rattle.verity_plan.{specs.{Plans.{HasBlock, IsPlan, PlanFields}, PlanCounts.level_count_of, Settings.fan}, proofs.FanLemmas.fan-some}

-- the first block of a level is the one above data block 0
pub HasBlock-first : (p : PlanFields) (l : ℕ) → IsPlan p → l < level_count_of p → HasBlock p l 0
HasBlock-first p l h low =
    subst (HasBlock p l) (zero-div (fan p.settings ^ (l + 1)))
    (HasBlock-above p 0 l (fan-some p.settings) (blocks-some p h) low)
