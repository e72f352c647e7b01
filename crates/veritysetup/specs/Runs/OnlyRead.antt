-- What a step that only reads a hash device keeps of it.
-- For the private functions; not needed to read a public contract.
use Rattle.std.specs.Prelude.{◌≡◌, ℕ, List, Result}
use Rattle.{verity_io.specs.Counting.{Counts, TheDevice, failed_at}, veritysetup.specs.{Faults.side_of, declared.fault.Fault.Fault}}

-- what the members of its trait say of a device before and after a step with this result: if it told its bytes it still
-- does, and they are the same; its count of failures rises exactly if the result is a failed call of the device
pub record IsOnlyRead {D X : Type 0} (tells : D → Type 0) (content : D → List ℕ) (failures : D → ℕ) (old new : D)
    (result : Result X Fault) : Type 0 where
  pub told : tells old → tells new
  pub stands : tells old → content new ≡ content old
  pub counted : Counts (failed_at side_of TheDevice result) (failures old) (failures new)
