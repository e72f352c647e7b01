-- What a comparison of parameters with trusted ones answers.
use Rattle.std.specs.Prelude.{◌≡◌, ◌⊎◌, ℤ, Result, Ok, Err}
use Rattle.{verity_plan.specs.Plans.PlanFields, verity_c_api.specs.{Statuses.{done, fault_status}, declared.fault.Fault.{Fault, TheVariants.Differs}}}

-- trees of the same data blocks are the same: settings and number of data blocks are equal
pub record IsSame (p q : PlanFields) : Type 0 where
  pub settings : p.settings ≡ q.settings
  pub blocks : p.blocks ≡ q.blocks

-- the status: the first fault of the parameters, then of the trusted ones; else whether the plans that they make are the
-- same but for where the tree stands
abbrev pub AnswersSame : Result PlanFields Fault → Result PlanFields Fault → ℤ → Type 0
AnswersSame (Err fault) trusted status = status ≡ fault_status fault
AnswersSame (Ok p) (Err fault) status = status ≡ fault_status fault
AnswersSame (Ok p) (Ok q) status =
    ((status ≡ done) × IsSame p q) ⊎ ((status ≡ fault_status Differs) × (IsSame p q → ⊥))
