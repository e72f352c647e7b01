-- What a write leaves on a device: pwrite(2) of POSIX over a list of bytes, in which a gap past the old end reads as
-- zeros. An empty write past the end lengthens this list, which pwrite(2) doesn't do; no hash block is empty.
use Rattle.std.specs.Prelude.{◌≡◌, ◌⊎◌, ℕ, ◌+◌, ◌-◌, ◌^◌, ◌<◌, ◌≤◌, max, List, ◌++◌, length, take, drop, replicate, slice_index}

-- the most bytes of a device: the largest offset of a file (`off_t` of POSIX's <sys/types.h>, of 64 bits)
abbrev pub most_bytes : ℕ
most_bytes = 2 ^ 63 - 1

-- the bytes with others put at an offset, and zeros in a gap
abbrev pub put : List ℕ → ℕ → List ℕ → List ℕ
put bytes at others = take at bytes ++ replicate (at - length bytes) 0 ++ others ++ drop (at + length others) bytes

-- after a failed write of c bytes at an offset
pub record Spoiled (before : List ℕ) (at c : ℕ) (after : List ℕ) : Type 0 where
  pub no_shorter : length before ≤ length after
  pub no_longer : length after ≤ max (length before) (at + c)
  -- past the old end such a byte is zero
  pub outside : (i : ℕ) → (i < at) ⊎ (at + c ≤ i) → slice_index after i ≡ slice_index before i
