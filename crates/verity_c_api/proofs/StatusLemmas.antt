-- What statuses say of faults, and of memory that has its length.
use Rattle.std.{proofs.Common.{◌≡◌, of_z, refl, to_z, w32, ℕ, Bool, true, false, Ok, Err, if◌then◌else◌, sym}, specs.Prelude.◌==◌}
use Rattle.{verity_plan.specs.Plans.PlanFields, verity_c_api.specs.Parts.if_room}
use Rattle.verity_c_api.specs.{Statuses.{done, fault_status, status_of}, declared.fault.Fault.{Fault, TheVariants.{TooLong, TooShort, Waiting, Part}}}
use Rattle.verity_c_api.specs.declared.fault.Fault.TheVariants.{Differs, Index, Level, Length, Root, Algorithm, HashType, DataBlockSize}
use Rattle.verity_c_api.specs.declared.fault.Fault.TheVariants.{HashBlockSize, SaltSize, HashOffset, NoData, TooLarge, Short, Signature, Version}

-- the status of a fault isn't that of a call that is done
pub fault-not_done : (fault : Fault) → done ≡ fault_status fault → ⊥
fault-not_done Differs e = cc
fault-not_done _ e = cc

-- the status of a fault fits the number that is answered
pub fault_status-fits : (fault : Fault) → to_z w32 (of_z w32 (fault_status fault)) ≡ fault_status fault
fault_status-fits Differs = refl
fault_status-fits Index = refl
fault_status-fits Level = refl
fault_status-fits Length = refl
fault_status-fits Root = refl
fault_status-fits Algorithm = refl
fault_status-fits HashType = refl
fault_status-fits DataBlockSize = refl
fault_status-fits HashBlockSize = refl
fault_status-fits SaltSize = refl
fault_status-fits HashOffset = refl
fault_status-fits NoData = refl
fault_status-fits TooLarge = refl
fault_status-fits Short = refl
fault_status-fits Signature = refl
fault_status-fits Version = refl
fault_status-fits TooLong = refl
fault_status-fits TooShort = refl
fault_status-fits Waiting = refl
fault_status-fits Part = refl

-- a call that is done goes on with the plan, since a memory has the length that it asks for
pub room-of : (p : PlanFields) (long : PlanFields → ℕ) (room : ℕ) → status_of (if_room (Ok p) long room) ≡ done
    → if_room (Ok p) long room ≡ Ok p
room-of p long room status = by_test (room == long p) status
  where
    by_test : (fits : Bool) → status_of (if fits then Ok p else Err Length) ≡ done
        → (if fits then Ok p else Err Length) ≡ Ok p
    by_test true e = refl
    by_test false e = absurd (fault-not_done Length (sym e))
