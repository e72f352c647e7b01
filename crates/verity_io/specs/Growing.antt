-- The capacity of a device in memory, this project's own.
use Rattle.std.specs.Prelude.{ℕ, vec_capacity}
use Rattle.verity_io.specs.declared.memory_device.MemoryDevice.{MemoryDevice}

-- the bytes that its vector holds before it has to ask for more memory
abbrev pub room_of : MemoryDevice → ℕ
room_of device = vec_capacity device.bytes
