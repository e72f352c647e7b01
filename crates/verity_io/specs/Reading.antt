-- What reads of a source and of a device give: read(2) and pread(2) of POSIX over lists of bytes, with a failed read
-- that takes nothing.
use Rattle.std.specs.Prelude.{IfOk, ◌≡◌, ◌≤◌, ℕ, ◌<◌, List, [], ◌++◌, length, take, drop, Result, MatchResult}
use Rattle.verity_io.specs.declared.failed.Failed.{Failed}

-- the first n of the source's remaining bytes were read
pub record HasRead (n : ℕ) (before after : List ℕ) : Type 0 where
  pub enough : n ≤ length before
  pub rest : after ≡ drop n before

-- the first k bytes of the buffer are the next of the source, and k is 0 only at its end or if the buffer has no room;
-- a failure takes none
abbrev pub TakesNext : Result ℕ Failed → List ℕ → List ℕ → List ℕ → Type 0
TakesNext result buf before after = MatchResult result
    (λ k. (before ≡ take k buf ++ after) × (k ≡ 0 → 0 < length buf → after ≡ []))
    (λ _. after ≡ before)

-- the buffer has the next bytes of the source, fewer than its length only at the end; fewer than that were read before
-- a failure
abbrev pub TakesBlock : Result ℕ Failed → List ℕ → List ℕ → List ℕ → Type 0
TakesBlock result buf before after = MatchResult result
    (λ k. (before ≡ take k buf ++ after) × (k < length buf → after ≡ []))
    (λ _. (taken : List ℕ) × (length taken < length buf) × (before ≡ taken ++ after))

-- the buffer begins with the bytes from an offset, fewer than its length only where the device ends
abbrev pub ReadsAt : Result ℕ Failed → ℕ → List ℕ → List ℕ → Type 0
ReadsAt result at bytes buf = IfOk result (λ k. take k buf ≡ take (length buf) (drop at bytes))
