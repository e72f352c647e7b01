-- What the digests of two files show if the files are not the same: for the law that a file digest binds its file.
use Rattle.std.specs.Prelude.{◌⊎◌, ℕ, List, length}
use Rattle.{verity_format.specs.Descriptors.{DescriptorFields, descriptor_bytes}, verity_pass.specs.Collisions.{Collide, TreesCollide}}
use Rattle.{verity_plan.specs.{Settings.TreeSettingsFields, Plans.plan_of_file}, verity_blocks.specs.Levels.{data_blocks, root_of_file}}
use Rattle.fsverity.specs.Runs.Digested.{descriptor_of}

-- the descriptor of a whole file
abbrev pub descriptor_of_file : TreeSettingsFields → List ℕ → DescriptorFields
descriptor_of_file s bytes = descriptor_of s (length bytes) (root_of_file s (length bytes) bytes)

-- the data blocks of a whole file
abbrev pub blocks_of_file : TreeSettingsFields → List ℕ → List (List ℕ)
blocks_of_file s bytes = data_blocks (plan_of_file s (length bytes)) bytes

-- two files, each with its settings, show a collision: their descriptors are different and have one hash, or the trees
-- above them, both made with the first settings, show it
abbrev pub FilesCollide : TreeSettingsFields → TreeSettingsFields → List ℕ → List ℕ → Type 0
FilesCollide s t x y =
    Collide s.algorithm (descriptor_bytes (descriptor_of_file s x)) (descriptor_bytes (descriptor_of_file t y))
    ⊎ TreesCollide s (blocks_of_file s x) (blocks_of_file s y)
