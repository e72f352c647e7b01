-- The window: the data blocks in which the bytes that are read or fed are collected, and which are hashed side by side.
use Rattle.std.specs.Prelude.{ℕ, ◌*◌, ◌/◌, min}
use Rattle.verity_plan.specs.Settings.{TreeSettingsFields, fan, most_block}

-- its number of data blocks: eight, but not more than have room in the largest block, nor than a hash block has slots
unfoldable pub window_blocks : TreeSettingsFields → ℕ
window_blocks s = min (min 8 (most_block / s.data_block)) (fan s)

-- its length in bytes
abbrev pub window_length : TreeSettingsFields → ℕ
window_length s = window_blocks s * s.data_block
