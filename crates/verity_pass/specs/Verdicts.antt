-- Whether the hash blocks that a device holds are the tree's, and which is the first in closing order that is not
-- (veritysetup(8), `verify`; the order and the parts are this project's own).
use Rattle.std.specs.Prelude.{◌≡◌, ℕ, ◌+◌, ◌-◌, ◌*◌, Bool, not, min, List, length, take, drop, find, All, nat_lt, Option, Some, None, Result, Ok, Err}
use Rattle.std.specs.Prelude.{if◌then◌else◌}
use Rattle.{std.specs.{List.range_with_len, Str.bytes_eq}, verity_blocks.specs.TreeOnDevice.{tree_block, stored_block}}
use Rattle.verity_blocks.specs.{Levels.{root, data_blocks, whole_blocks}, ClosingOrder.{BlockIndex, closed_after}}
use Rattle.verity_plan.specs.{Plans.PlanFields, PlanCounts.count_under, Settings.{TreeSettingsFields, digest_len, fan, slot_width}}
use Rattle.verity_pass.specs.declared.{comparing.CompareFault.{CompareFault, TheVariants.{SourceShort, Differs, RootDiffers}}, part.Part.Part}
use Rattle.verity_pass.specs.declared.part.Part.TheVariants.{Missing, Child, Spare}

-- the digest in a slot of a hash block
abbrev pub digest_in : TreeSettingsFields → List ℕ → ℕ → List ℕ
digest_in s bytes slot = take (digest_len s) (drop (slot * slot_width s) bytes)

-- the first used slot whose digests differ in two hash blocks of this place
abbrev pub first_slot : PlanFields → ℕ → ℕ → List ℕ → List ℕ → Option ℕ
first_slot p level index on_device computed =
    find (λ slot. not (bytes_eq (digest_in p.settings on_device slot) (digest_in p.settings computed slot)))
    (range_with_len 0 (min (fan p.settings) (count_under p level - index * fan p.settings)))

-- where a whole block differs: in the digest of a child, counted through the level, or in other bytes
abbrev pub part_at : ℕ → Option ℕ → Part
part_at first (Some slot) = Child (first + slot)
part_at first None = Spare

-- where the bytes that are stored for a block of a level differ from the tree's
abbrev pub part_of : PlanFields → ℕ → ℕ → List ℕ → List ℕ → Part
part_of p level index on_device computed = if nat_lt (length on_device) p.settings.hash_block then Missing
    else (part_at (index * fan p.settings) (first_slot p level index on_device computed))

-- the block that a device holds is not the tree's
abbrev pub differs : PlanFields → List (List ℕ) → List ℕ → BlockIndex → Bool
differs p blocks device block =
    not (bytes_eq (stored_block p device block.level block.index)
    (tree_block p.settings blocks block.level block.index))

-- the fault at the first block that differs
abbrev pub difference : PlanFields → List (List ℕ) → List ℕ → BlockIndex → CompareFault
difference p blocks device block =
    Differs block.level block.index
    (part_of p block.level block.index (stored_block p device block.level block.index)
    (tree_block p.settings blocks block.level block.index))

-- without a difference: short data, another root, or all is right
abbrev pub verdict_by : PlanFields → List ℕ → List ℕ → Option BlockIndex → List ℕ → Result Unit CompareFault
verdict_by p device bytes (Some block) digest = Err (difference p (data_blocks p bytes) device block)
verdict_by p device bytes None digest =
    if nat_lt (whole_blocks p bytes) p.blocks then Err (SourceShort (whole_blocks p bytes))
    else (if bytes_eq (root p.settings (data_blocks p bytes)) digest then Ok tt
    else Err (RootDiffers (root p.settings (data_blocks p bytes))))

-- the verdict on a device, some data and a root: the first difference in closing order among the blocks that close with
-- the data blocks that are there, then short data, then the root
abbrev pub verdict : PlanFields → List ℕ → List ℕ → List ℕ → Result Unit CompareFault
verdict p device bytes digest =
    verdict_by p device bytes
    (find (differs p (data_blocks p bytes) device) (closed_after (fan p.settings) p.blocks (whole_blocks p bytes)))
    digest

-- the device holds this block of the tree
abbrev pub HoldsBlockAt : PlanFields → List (List ℕ) → List ℕ → BlockIndex → Type 0
HoldsBlockAt p blocks device block =
    stored_block p device block.level block.index ≡ tree_block p.settings blocks block.level block.index

-- the device holds these blocks of the tree
abbrev pub NoneDiffers : PlanFields → List (List ℕ) → List ℕ → List BlockIndex → Type 0
NoneDiffers p blocks device hash_blocks = All (HoldsBlockAt p blocks device) hash_blocks
