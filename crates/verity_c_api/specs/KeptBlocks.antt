-- Blocks for which calls of verity_check_top and verity_check_link, or of fsverity_check_top and fsverity_check_link,
-- have answered 0: the top one with the root hash, each other with a block for which a call before had.
use Rattle.std.specs.Prelude.{◌≡◌, ◌⊎◌, ◌<◌, ℕ, ◌+◌, ◌/◌, ◌^◌, List, Result}
use Rattle.{verity_plan.specs.{Plans.PlanFields, PlanCounts.level_count_of, Settings.fan}, verity_pass.specs.KeptBlocks.CheckedBlock}
use Rattle.verity_c_api.specs.{Answers.{link_status_in, top_status_in, with_root}, Statuses.done, declared.fault.Fault.Fault}

-- verity_check_top, or fsverity_check_top, has answered 0 for a block of the top level
pub record IsTopByCall (made : Result PlanFields Fault) (p : PlanFields) (root : List ℕ) (b : CheckedBlock) : Type 0
  where
    pub at_top : b.levels ≡ level_count_of p
    pub status : top_status_in (with_root made root) b.index b.bytes root ≡ done

-- verity_check_link, or fsverity_check_link, has answered 0 for a block and one that was checked for the place one level
-- up
pub record IsUnderByCall (made : Result PlanFields Fault) (p : PlanFields) (above b : CheckedBlock) : Type 0 where
  pub one_up : above.levels ≡ b.levels + 1
  pub parent : above.index / fan p.settings ^ above.levels ≡ b.index / fan p.settings ^ above.levels
  pub status : link_status_in made b.index b.levels b.bytes above.bytes ≡ done

-- each of so many blocks was accepted so, by the root hash or by one that was accepted before it
abbrev pub AreAcceptedByCalls : Result PlanFields Fault → PlanFields → List ℕ → ℕ → (ℕ → CheckedBlock) → Type 0
AreAcceptedByCalls made p root count blocks = (k : ℕ) → k < count
    → IsTopByCall made p root (blocks k) ⊎ ((j : ℕ) × (j < k) × IsUnderByCall made p (blocks j) (blocks k))
