-- Opening the files of a list one after another, as open(2) of POSIX opens one; this project's own.
use Rattle.std.specs.Prelude.{◌≡◌, ◌↔◌, ◌⊎◌, ℕ, ◌+◌, ◌≤◌, List, Option, Some, None, length, slice_get, Result, MatchResult}
use Rattle.verity_io.specs.{declared.failed.Failed.Failed, Counting.CountRose}

-- an opener before and after some calls: whether it tells its files; the files, each its bytes or absent; the index of
-- the next file; and its count of failures
pub record OpenerChange : Type 1 where
  pub told : Type 0
  pub files : List (Option (List ℕ))
  pub next_before : ℕ
  pub next_after : ℕ
  pub failures_before : ℕ
  pub failures_after : ℕ

-- what the members of its trait say of an opener before and after
abbrev pub opener_change : {O : Type 0} → (O → Type 0) → (O → List (Option (List ℕ))) → (O → ℕ) → (O → ℕ) → O → O
    → OpenerChange
opener_change tells files next failures old new = record {
  told = tells old;
  files = files old;
  next_before = next old;
  next_after = next new;
  failures_before = failures old;
  failures_after = failures new;
}

-- the files, their number and whether they are told stay
pub record SameFiles {O : Type 0} (tells : O → Type 0) (files_of : O → List (Option (List ℕ))) (count_of : O → ℕ)
    (old new : O) : Type 0 where
  pub told : tells old ↔ tells new
  pub files : files_of new ≡ files_of old
  pub count : count_of new ≡ count_of old

-- the file of this index is there, with this length and these bytes
abbrev pub IsFileAt : List (Option (List ℕ)) → ℕ → ℕ → List ℕ → Type 0
IsFileAt files i len bytes = (slice_get files i ≡ Some (Some bytes)) × (len ≡ length bytes)

-- the count stays if a file is opened, and otherwise rises by one at most
abbrev pub CountsOpening : {X : Type 0} → ℕ → ℕ → Result X Failed → Type 0
CountsOpening before after result =
    (before ≤ after) × (after ≤ before + 1) × MatchResult result (λ _. after ≡ before) (λ _. Unit {0})

-- the file is told as absent, or the count rose
abbrev pub FailsFor : Type 0 → List (Option (List ℕ)) → ℕ → ℕ → ℕ → Type 0
FailsFor tells files i before after = (tells × (slice_get files i ≡ Some None)) ⊎ CountRose before after
