-- What identifies a file in the answer of stat(2): a regular file is known by the device that it lies on and its number
-- there, a block device by its own number, the same for each node that names it.
use Rattle.std.specs.Prelude.{◌≡◌, ◌⊎◌, ℕ, List, Option, Some, None, IsSome, if◌then◌else◌}
use Rattle.command_line.specs.declared.files.identity.{FileIdentity.{FileIdentity, TheVariants.{Regular, BlockDevice}}, StatFields.StatFields}

-- the identity of a file of which the system says this
abbrev pub identity_of : StatFields → Option FileIdentity
identity_of fields = if fields.is_regular then Some (Regular fields.device fields.inode)
    else if fields.is_block_device then Some (BlockDevice fields.number)
    else None

-- two paths are equal, or the system says that they lead to one file
abbrev pub PathsAreSameFile : List ℕ → List ℕ → Option FileIdentity → Option FileIdentity → Type 0
PathsAreSameFile path other_path opened other = (path ≡ other_path) ⊎ (IsSome opened × (opened ≡ other))
