-- What contracts see of a fused source or device, and what one call of it does, this project's own.
use Rattle.std.specs.Prelude.{◌≡◌, ℕ, ◌+◌, min, IsErr, Result}
use Rattle.verity_io.specs.{Counting.{last_count, CountsFailure}, declared.{failed.Failed.Failed, fused.Fused.Fused}}

-- the value within
abbrev pub fused_inner : {T : Type 0} → Fused T → T
fused_inner f = f.inner

-- the number of the call that fails, from 1
abbrev pub fused_call : {T : Type 0} → Fused T → ℕ
fused_call f = f.call

-- how often it was called
abbrev pub fused_calls : {T : Type 0} → Fused T → ℕ
fused_calls f = f.calls

-- how many calls failed
abbrev pub fused_failures : {T : Type 0} → Fused T → ℕ
fused_failures f = f.failures

-- the next call is the one that fails
abbrev pub FailsNext : {T : Type 0} → Fused T → Type 0
FailsNext f = fused_calls f + 1 ≡ fused_call f

-- a call is counted, up to the last count, and the number of the call that fails stays
abbrev pub CountsCall : {T : Type 0} → Fused T → Fused T → Type 0
CountsCall before after =
    (fused_calls after ≡ min (fused_calls before + 1) last_count) × (fused_call after ≡ fused_call before)

-- the call that fails leaves the value within
abbrev pub FailsCall : {T X : Type 0} → Fused T → Fused T → Result X Failed → Type 0
FailsCall before after result = FailsNext before → IsErr result × (fused_inner after ≡ fused_inner before)

-- every other call answers Failed exactly if the value within counts a failure
abbrev pub PassesOn : {T X : Type 0} → (T → ℕ) → Fused T → Fused T → Result X Failed → Type 0
PassesOn failures before after result = ¬ FailsNext before →
    CountsFailure (failures (fused_inner before)) (failures (fused_inner after)) result
