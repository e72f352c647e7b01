-- What the verdict of verify goes by: whoever has all of it the same gets the same verdict.
use Rattle.std.specs.Prelude.{◌≡◌, ◌≢◌, ℕ, ◌-◌, ◌*◌, List, take, drop, None, Result, IfErr}
use Rattle.{verity_plan.specs.Plans.{PlanFields, end_place_of}, veritysetup.specs.{Faults.side_of, Runs.{HashDevice.superblock_at, Verified.Trusts}}}
use Rattle.veritysetup.specs.declared.{runs.verify_input.VerifyInput.{VerifyInput, TheVariants.{Stored, Given}}, fault.Fault.Fault}
use Rattle.veritysetup.specs.declared.fault.Fault.TheVariants as fault

-- the bytes of a plan's hash area, fewer if the device ends within it
abbrev pub hash_area : PlanFields → List ℕ → List ℕ
hash_area p device =
    take (end_place_of p * p.settings.hash_block - p.base * p.settings.hash_block)
    (drop (p.base * p.settings.hash_block) device)

-- two devices have the same bytes where the superblock is read, if one is
abbrev pub HaveOneSuperblock : VerifyInput → List ℕ → List ℕ → Type 0
HaveOneSuperblock (Stored offset text) device other = superblock_at offset device ≡ superblock_at offset other
HaveOneSuperblock (Given settings) device other = Unit {0}

-- two devices, and two sources, have the same superblock and, by the plan that verify goes by, the same hash area and
-- the same covered bytes
pub record AreAlike (input : VerifyInput) (device other source same : List ℕ) : Type 0 where
  pub superblock : HaveOneSuperblock input device other
  pub area : (plan : PlanFields) (root : List ℕ) → Trusts input device plan root
      → hash_area plan device ≡ hash_area plan other
  pub covered : (plan : PlanFields) (root : List ℕ) → Trusts input device plan root
      → take plan.wanted source ≡ take plan.wanted same

-- a run that found memory, and no call of which failed
abbrev pub IsJudged : {X : Type 0} → Result X Fault → Type 0
IsJudged outcome = IfErr outcome (λ cause. (cause ≢ fault.Store) × (side_of cause ≡ None))
