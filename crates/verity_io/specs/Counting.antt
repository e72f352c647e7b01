-- Counts of failures, this project's own: each source and each device keeps one, which stops at the last value of a
-- u64. And what contracts see of a source or a device before and after a call.
use Rattle.std.specs.Prelude.{◌≡◌, ℕ, ◌+◌, ◌-◌, ◌^◌, ◌≤◌, min, Bool, true, false, List, Result, Ok, Err, MatchResult, Option, Some, None}
use Rattle.verity_io.specs.declared.failed.Failed.{Failed}

-- the last value of a count
abbrev pub last_count : ℕ
last_count = 2 ^ 64 - 1

-- the count is greater, or stands at its last value
abbrev pub CountRose : ℕ → ℕ → Type 0
CountRose before after = min (before + 1) last_count ≤ after

-- the count rises by one if a call failed, up to its last value, and stays otherwise
abbrev pub Counts : Bool → ℕ → ℕ → Type 0
Counts true before after = after ≡ min (before + 1) last_count
Counts false before after = after ≡ before

-- the count rises exactly if the call fails
abbrev pub CountsFailure : {X : Type 0} → ℕ → ℕ → Result X Failed → Type 0
CountsFailure before after result =
    (before ≤ after) × MatchResult result (λ _. Counts false before after) (λ _. Counts true before after)

-- whose call failed, by which a fault came about
pub data Side : Type 0 where
  TheSource : Side
  TheDevice : Side
  TheOpener : Side

-- the two sides are one
abbrev pub same_side : Side → Side → Bool
same_side TheSource TheSource = true
same_side TheDevice TheDevice = true
same_side TheOpener TheOpener = true
same_side a b = false

-- the fault is a failed call of this side
abbrev pub is_call_of : Side → Option Side → Bool
is_call_of side None = false
is_call_of side (Some failed) = same_side side failed

-- the result is a failed call of this side, by whose call each fault is
abbrev pub failed_at : {X F : Type 0} → (F → Option Side) → Side → Result X F → Bool
failed_at side_of side (Ok x) = false
failed_at side_of side (Err fault) = is_call_of side (side_of fault)

-- a source or a device before and after some calls: whether it tells its bytes; its bytes, which of a source are those
-- that remain; and its count of failures
pub record Change : Type 1 where
  pub told : Type 0
  pub before : List ℕ
  pub after : List ℕ
  pub failures_before : ℕ
  pub failures_after : ℕ

-- what the members of its trait say of a value before and after
abbrev pub change : {T : Type 0} → (T → Type 0) → (T → List ℕ) → (T → ℕ) → T → T → Change
change tells bytes failures old new = record {
  told = tells old;
  before = bytes old;
  after = bytes new;
  failures_before = failures old;
  failures_after = failures new;
}
