-- What stands on a device while a tree is written there, hash block after hash block in closing order.
use Rattle.std.specs.Prelude.{ℕ, List, [], ◌∷◌, length}
use Rattle.verity_plan.specs.{Plans.{start_byte, PlanFields, start_byte_of}, Settings.{TreeSettingsFields, fan}}
use Rattle.{verity_io.specs.Writing.{put, Spoiled}, verity_blocks.specs.{ClosingOrder.{BlockIndex, ComesNext, closed_after}, TreeOnDevice.tree_block}}

-- a device with these blocks of the tree put at their places, one after another
unfoldable pub device_with : TreeSettingsFields → List (List ℕ) → ℕ → List BlockIndex → List ℕ → List ℕ
device_with s blocks base [] device = device
device_with s blocks base (next ∷ rest) device =
    device_with s blocks base rest
    (put device (start_byte s (length blocks) base next.level next.index) (tree_block s blocks next.level next.index))

-- a device with the tree's blocks that closed after i data blocks put at their places
abbrev pub tree_on_device_after : PlanFields → List (List ℕ) → ℕ → List ℕ → List ℕ
tree_on_device_after p blocks i = device_with p.settings blocks p.base (closed_after (fan p.settings) p.blocks i)

-- a device with all of the tree's blocks put at their places
abbrev pub tree_on_device : PlanFields → List (List ℕ) → List ℕ → List ℕ
tree_on_device p blocks before = tree_on_device_after p blocks p.blocks before

-- a device with the blocks before this one in closing order put at their places, and this one's range spoiled
pub record StopsAt (p : PlanFields) (blocks : List (List ℕ)) (block : BlockIndex) (before after : List ℕ) : Type 0 where
  pub done : List BlockIndex
  pub next : ComesNext (closed_after (fan p.settings) p.blocks p.blocks) done block
  pub spoiled : Spoiled (device_with p.settings blocks p.base done before)
      (start_byte_of p block.level block.index) p.settings.hash_block after
