-- A tree that is built as pieces of its data come, and a file's whose length isn't known before: what was fed, what is
-- handed out, and what comes of it. Whoever reads a contract need not know how memory holds what was fed: it holds no
-- bytes at the beginning, those before and those of the piece after feeding, and the answer at the end is of all.
use Rattle.std.specs.Prelude.{◌≡◌, ◌⊎◌, ◌<◌, ◌≤◌, ℕ, ◌+◌, ◌*◌, ◌/◌, ◌^◌, Bool, true, false, List, [], ◌∷◌, ◌++◌, length, take, drop, map, nat_lt}
use Rattle.std.specs.Prelude.{Option, Some, None, Result, Ok, Err, if◌then◌else◌}
use Rattle.verity_plan.specs.{Plans.{PlanFields, plan_for_bytes, start_byte_of}, PlanCounts.{level_count_of, most_level_count}}
use Rattle.{verity_plan.specs.{Settings.{TreeSettingsFields, fan}, declared.plan_fault.PlanFault.PlanFault}, std.specs.List.flat_map}
use Rattle.verity_blocks.specs.{ClosingOrder.{BlockIndex, block_index, blocks_before, closed_after, handed_out, most_closed}, Levels.data_blocks}
use Rattle.verity_blocks.specs.{Steps.Feeding.{HasFed, Stands}, Windows.window_length, TreeOnDevice.tree_block, TreeWriting.tree_on_device}
use Rattle.verity_blocks.specs.declared.hash_block.HashBlock.{HashBlock}
use Rattle.verity_builders.specs.declared.feed_fault.FeedFault.{FeedFault, TheVariants.{TooLong, TooShort, TooLarge, Waiting, Level}}
use Rattle.verity_builders.specs.declared.{file_builder.FileBuilder.FileBuilder, tree_builder.{Fed.Fed, TreeBuilder.TreeBuilder}}
use Rattle.{verity_plan.specs.declared.plan_fault.PlanFault.TheVariants.{NoData, TooLarge as NoRoom}, verity_io.specs.Writing.put}

-- the length of the memory in bytes: an open block for each of so many levels, and a window of data blocks
abbrev pub feeding_length : TreeSettingsFields → ℕ → ℕ
feeding_length s levels = levels * s.hash_block + window_length s

-- its open blocks, and what comes after them
abbrev pub open_blocks : TreeSettingsFields → ℕ → List ℕ → List ℕ
open_blocks s levels memory = take (levels * s.hash_block) memory

abbrev pub after_open_blocks : TreeSettingsFields → ℕ → List ℕ → List ℕ
after_open_blocks s levels memory = drop (levels * s.hash_block) memory

-- these bytes were fed to a builder of a tree
pub record IsFed (b : TreeBuilder) (memory fed : List ℕ) : Type 0 where
  pub count : length fed ≡ b.fed
  pub stands : Stands b.plan (level_count_of b.plan) fed b.closed
      (open_blocks b.plan.settings (level_count_of b.plan) memory)
      (after_open_blocks b.plan.settings (level_count_of b.plan) memory)

-- these bytes were fed to a builder of a file's tree
pub record IsFedFile (b : FileBuilder) (memory fed : List ℕ) : Type 0 where
  pub count : length fed ≡ b.fed
  pub stands : HasFed b.settings (most_level_count b.settings) fed
      (open_blocks b.settings (most_level_count b.settings) memory)
      (after_open_blocks b.settings (most_level_count b.settings) memory)

-- the fault of an answer
abbrev pub fault_in : {A : Type 0} → Result A FeedFault → Option FeedFault
fault_in (Ok _) = None
fault_in (Err fault) = Some fault

-- why a piece of a length isn't taken, of data that have a plan and stand below so many levels, where so many bytes were
-- fed, and so many levels have closed
abbrev pub taking_fault : PlanFields → ℕ → ℕ → ℕ → ℕ → Option FeedFault
taking_fault p levels fed closed count = if nat_lt (most_closed p levels fed) closed then Some Level
    else (if nat_lt p.wanted (fed + count) then Some TooLong else None)

-- and why there is no digest of all of the data yet
abbrev pub ending_fault : PlanFields → ℕ → ℕ → ℕ → Option FeedFault
ending_fault p levels fed closed = if nat_lt (most_closed p levels fed) closed then Some Level
    else (if nat_lt p.wanted fed then Some TooLong
    else (if nat_lt fed p.wanted then Some (TooShort (fed / p.settings.data_block))
    else (if nat_lt closed levels then Some Waiting else None)))

-- why a piece of a length isn't taken
abbrev pub feed_fault : TreeBuilder → ℕ → Option FeedFault
feed_fault b count = if nat_lt (level_count_of b.plan) b.closed then Some Level
    else (if nat_lt b.plan.wanted (b.fed + count) then Some TooLong else None)

-- why there is no root hash yet
abbrev pub end_fault : TreeBuilder → Option FeedFault
end_fault b = if nat_lt (level_count_of b.plan) b.closed then Some Level
    else (if nat_lt b.plan.wanted b.fed then Some TooLong
    else (if nat_lt b.fed b.plan.wanted then Some (TooShort (b.fed / b.plan.settings.data_block))
    else (if nat_lt b.closed (level_count_of b.plan) then Some Waiting else None)))

-- the hash block of the level that was handed out last, above the last of so many bytes, which begin with data block
-- `first` and stand below so many levels: its number in its level, its place on the device, and where it stands in the memory
pub record IsPlacedFrom (p : PlanFields) (first levels count closed : ℕ) (block : HashBlock) : Type 0 where
  pub level_is : closed ≡ block.level + 1
  pub level_below : block.level < levels
  pub index_is : block.index ≡ (first + blocks_before p.settings count) / fan p.settings ^ (block.level + 1)
  pub start_is : block.start ≡ start_byte_of p block.level block.index
  pub at_is : block.at ≡ block.level * p.settings.hash_block

-- the same of the bytes of a whole tree
abbrev pub IsPlaced : PlanFields → ℕ → ℕ → HashBlock → Type 0
IsPlaced p = IsPlacedFrom p 0 (level_count_of p)

-- the numbers name a hash block: bytes were fed and levels handed out, no more of either than the plan has
pub record HasLast (b : TreeBuilder) : Type 0 where
  pub some : 0 < b.fed
  pub most : b.fed ≤ b.plan.wanted
  pub closed : 0 < b.closed
  pub levels : b.closed ≤ level_count_of b.plan

-- what an answer to a piece of a length says, whatever builder and memory were: all of the piece is taken, or a hash block
-- is handed out before its end, or after the last byte of all; and after that byte none is left when none is handed out
pub record Takes (before after : TreeBuilder) (count : ℕ) (answer : Fed) : Type 0 where
  pub fed_is : after.fed ≡ before.fed + answer.taken
  pub most : answer.taken ≤ count
  pub all : answer.hash_block ≡ None → answer.taken ≡ count
  pub done : answer.hash_block ≡ None → after.fed ≡ before.plan.wanted → after.closed ≡ level_count_of before.plan
  pub placed : (block : HashBlock) → answer.hash_block ≡ Some block → IsPlaced before.plan after.fed after.closed block
  pub waits : (block : HashBlock) → answer.hash_block ≡ Some block
      → (answer.taken < count) ⊎ (after.fed ≡ before.plan.wanted)
  pub rises : (block : HashBlock) → answer.hash_block ≡ Some block → answer.taken ≡ 0
      → after.closed ≡ before.closed + 1

-- the hash block that is handed out, in a list of its own
abbrev pub given : Option HashBlock → List BlockIndex
given None = []
given (Some block) = block_index block.level block.index ∷ []

-- the hash block stands in the memory, the tree's above these bytes whatever comes after them, with its place on the device
pub record IsHandedOut (p : PlanFields) (fed memory : List ℕ) (block : HashBlock) : Type 0 where
  pub level_below : block.level < level_count_of p
  pub at_is : block.at ≡ block.level * p.settings.hash_block
  pub start_is : block.start ≡ start_byte_of p block.level block.index
  pub bytes : (more : List ℕ) → length (fed ++ more) ≤ p.wanted → take p.settings.hash_block (drop block.at memory)
      ≡ tree_block p.settings (data_blocks p (fed ++ more)) block.level block.index

-- the bytes that were taken were fed after those before them, and the hash block that is handed out is the next in closing
-- order
pub record Feeds (before after : TreeBuilder) (fed more memory : List ℕ) (hash_block : Option HashBlock) : Type 0 where
  pub is_fed : IsFed after memory (fed ++ more)
  pub order : handed_out before.plan after.fed after.closed
      ≡ handed_out before.plan before.fed before.closed ++ given hash_block
  pub stands : (block : HashBlock) → hash_block ≡ Some block → IsHandedOut before.plan (fed ++ more) memory block

-- a file of so many bytes is too large for a tree
abbrev pub is_too_large : Result PlanFields PlanFault → Bool
is_too_large (Err NoRoom) = true
is_too_large (Err NoData) = false
is_too_large (Ok p) = false

abbrev pub file_fault : FileBuilder → ℕ → Option FeedFault
file_fault b count = if is_too_large (plan_for_bytes b.settings (b.fed + count) 0) then Some TooLarge else None

-- one call of a builder of a file's tree: a piece is fed, or the root hash is asked for
pub data FileCall : Type 0 where
  feeds : List ℕ → FileCall
  asks : FileCall

-- the bytes that are fed with it
abbrev pub bytes_fed : FileCall → List ℕ
bytes_fed (feeds piece) = piece
bytes_fed asks = []

-- builder and memory after it: `feed` appends the piece to what was fed and keeps the settings, and `end` leaves that,
-- and the builder, as they were
abbrev pub IsAfterCall : FileBuilder → List ℕ → FileCall → FileBuilder → List ℕ → Type 0
IsAfterCall b memory (feeds piece) after memory_after = (after.settings ≡ b.settings)
    × ((fed : List ℕ) → IsFedFile b memory fed → IsFedFile after memory_after (fed ++ piece))
IsAfterCall b memory asks after memory_after =
    (after ≡ b) × ((fed : List ℕ) → IsFedFile b memory fed → IsFedFile b memory_after fed)

-- the same of some calls, one after another
unfoldable pub IsAfterCalls : FileBuilder → List ℕ → List FileCall → FileBuilder → List ℕ → Type 0
IsAfterCalls b memory [] after memory_after = (after ≡ b) × (memory_after ≡ memory)
IsAfterCalls b memory (call ∷ rest) after memory_after = (next : FileBuilder) × (mid : List ℕ)
    × IsAfterCall b memory call next mid × IsAfterCalls next mid rest after memory_after

-- builder and memory after some pieces were fed, in one call each
abbrev pub FeedsPieces : FileBuilder → List ℕ → List (List ℕ) → FileBuilder → List ℕ → Type 0
FeedsPieces b memory pieces after memory_after = IsAfterCalls b memory (map feeds pieces) after memory_after

-- one call of a builder of a tree: the bytes that were taken, the hash block that was handed out, and what stood in the
-- memory after it
pub record FeedCall : Type 0 where
  pub taken : List ℕ
  pub hash_block : Option HashBlock
  pub memory : List ℕ

-- a builder of a tree and its memory, before and after some calls
unfoldable pub FeedsCalls : TreeBuilder → List ℕ → List FeedCall → TreeBuilder → List ℕ → Type 0
FeedsCalls b memory [] after memory_after = (after ≡ b) × (memory_after ≡ memory)
FeedsCalls b memory (call ∷ rest) after memory_after = (next : TreeBuilder) × (next.plan ≡ b.plan)
    × ((fed : List ℕ) → IsFed b memory fed → Feeds b next fed call.taken call.memory call.hash_block)
    × FeedsCalls next call.memory rest after memory_after

-- a device after the hash block that was handed out, if one was, is written at its place
abbrev pub written : PlanFields → Option HashBlock → List ℕ → List ℕ → List ℕ
written p None memory device = device
written p (Some block) memory device = put device block.start (take p.settings.hash_block (drop block.at memory))

-- a device after all hash blocks that were handed out in some calls are written at their places
unfoldable pub written_all : PlanFields → List FeedCall → List ℕ → List ℕ
written_all p [] device = device
written_all p (call ∷ rest) device = written_all p rest (written p call.hash_block call.memory device)

-- the calls have done what building the tree above these bytes does: hash blocks were handed out in closing order, each
-- once, and written at their places they leave the device as building does
pub record BuildsInCalls (p : PlanFields) (bytes : List ℕ) (calls : List FeedCall) (device : List ℕ) : Type 0 where
  pub order : flat_map (λ call. given call.hash_block) calls ≡ closed_after (fan p.settings) p.blocks p.blocks
  pub stands : written_all p calls device ≡ tree_on_device p (data_blocks p bytes) device
