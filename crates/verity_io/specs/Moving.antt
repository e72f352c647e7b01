-- What a read or a write at an offset of a file is: lseek(2), and then read(2) or write(2) of POSIX, as far as the file
-- says where it stands and what bytes it has.
use Rattle.std.specs.Prelude.{◌≡◌, ℕ, ◌<◌, ◌≤◌, List, length, take, Option, Some, IfSome}
use Rattle.{std.specs.Io.{KnownBytes.{Consumes, IsAtEnd, Keeps}, Seek.StaysAt}, verity_io.specs.declared.file_device.FileDevice.FileDevice}

-- the file of a device
abbrev pub file_of : {F : Type 0} → FileDevice F → F
file_of device = device.file

-- a file was moved to an offset, and this holds of the file as it stood there
pub record From {F : Type 0} (position : F → Option ℕ) (before : F) (at : ℕ) (Then : F → Type 0) : Type 0 where
  pub moved : F
  pub stands : IfSome (position before) (λ _. position moved ≡ Some at)
  pub rest : Then moved

-- the buffer begins with the next k bytes, fewer than its length only at the end
abbrev pub Fills : Option (List ℕ) → Option (List ℕ) → ℕ → List ℕ → Type 0
Fills before after k buf = Consumes before after (take k buf) × (k < length buf → IsAtEnd after)

-- nothing was read, and the file ends at the offset or before it
abbrev pub EndsBefore : Option ℕ → Option (List ℕ) → ℕ → ℕ → Type 0
EndsBefore position bytes at k = (k ≡ 0) × IfSome position (λ _. IfSome bytes (λ xs. length xs ≤ at))

-- the file stands where it stood, with its bytes
pub record Stays (position position' : Option ℕ) (bytes bytes' : Option (List ℕ)) : Type 0 where
  pub place : StaysAt position position'
  pub kept : Keeps bytes bytes'
