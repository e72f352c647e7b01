-- Which bytes of a superblock say something: all but the pads and the unused bytes of name and salt.
use Rattle.std.specs.Prelude.{◌≡◌, ◌≢◌, ◌<◌, ◌≤◌, ℕ, ◌+◌, min, List, length, slice_index}
use Rattle.{verity_plan.specs.Plans.superblock_size, verity_format.specs.Superblocks.number_at}

-- the same bytes from one offset up to another
abbrev pub SameBetween : ℕ → ℕ → List ℕ → List ℕ → Type 0
SameBetween from to s t = (i : ℕ) → from ≤ i → i < to → slice_index s i ≡ slice_index t i

-- no zero from one offset up to another
abbrev pub HasNoZero : ℕ → ℕ → List ℕ → Type 0
HasNoZero from to s = (i : ℕ) → from ≤ i → i < to → slice_index s i ≢ 0

-- two superblocks are the same outside the pads (bytes 82 to 87, and 344 to 511), the bytes that follow the name's
-- first zero, those that follow the salt, and those from byte 512 on
pub record AgreeOutsidePads (s t : List ℕ) : Type 0 where
  pub whole : superblock_size ≤ length s
  pub other_whole : superblock_size ≤ length t
  pub before_name : SameBetween 0 32 s t
  pub name : (i : ℕ) → 32 ≤ i → i < 64 → HasNoZero 32 i s → slice_index s i ≡ slice_index t i
  pub after_name : SameBetween 64 82 s t
  pub salt : SameBetween 88 (88 + min (number_at 80 2 s) 256) s t
