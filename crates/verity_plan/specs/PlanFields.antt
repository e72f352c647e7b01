-- A plan's fields come back from its value: the number of levels and the end are computed once.
-- For the private functions; not needed to read a public contract.
use Rattle.std.proofs.Common.{◌≡◌, ℕ, sym, ap, ◌∙◌}
use Rattle.verity_plan.specs.{Plans.{PlanFields, IsPlan, end_place_of}, PlanCounts.level_count_of, declared.plan.Plan.TheInside.Inside}

-- what the fields say
abbrev pub planned_of : Inside → PlanFields
planned_of p = record { settings = p.settings; blocks = p.blocks; wanted = p.wanted; base = p.base }

-- levels and end are those of the plan
pub record IsComputed (p : Inside) : Type 0 where
  pub planned : IsPlan (planned_of p)
  pub levels_are : p.levels ≡ level_count_of (planned_of p)
  pub end_is : p.end ≡ end_place_of (planned_of p)

-- fields with these levels and this end
abbrev pub fields_from : PlanFields → ℕ → ℕ → Inside
fields_from p levels end =
    record { settings = p.settings; blocks = p.blocks; wanted = p.wanted; base = p.base; levels = levels; end = end }

-- the inverse of the view
abbrev pub fields_of : PlanFields → Inside
fields_of p = fields_from p (level_count_of p) (end_place_of p)

-- the view forgets nothing
pub fields_back : (p : Inside) → IsComputed p → fields_of (planned_of p) ≡ p
fields_back p h =
    ap (λ (levels : ℕ). fields_from (planned_of p) levels (end_place_of (planned_of p))) (sym h.levels_are)
    ∙ ap (λ (end : ℕ). fields_from (planned_of p) p.levels end) (sym h.end_is)
