-- A file's tree whose hash blocks are handed out as they close, while nobody knows the file's length: what was fed, what is
-- handed out, and which hash blocks are left where the file ends. A hash block that is handed out is the tree's of every
-- file that goes on after the bytes so far; those that are left at an end are the tree's of the file that ends there.
use Rattle.std.specs.Prelude.{◌≡◌, ◌<◌, ◌≤◌, ℕ, ◌+◌, ◌*◌, ◌/◌, ◌^◌, List, [], ◌∷◌, ◌++◌, length, take, drop, nat_lt, Option, Some, None}
use Rattle.std.specs.Prelude.{if◌then◌else◌}
use Rattle.{std.specs.List.{flat_map, range_with_len}, verity_io.specs.Writing.put, verity_plan.specs.Settings.{TreeSettingsFields, fan}}
use Rattle.verity_plan.specs.{Plans.{IsPlan, PlanFields, plan_for_bytes, plan_of_file, start_byte_of}, PlanCounts.{level_count_of, most_level_count}}
use Rattle.verity_blocks.specs.{ClosingOrder.{BlockIndex, block_index, blocks_before, closed_after, first_closing, handed_out}, Levels.data_blocks}
use Rattle.verity_blocks.specs.{Steps.Feeding.Stands, TreeOnDevice.tree_block, TreeWriting.tree_on_device}
use Rattle.verity_builders.specs.{Feeding.{after_open_blocks, is_too_large, open_blocks}, declared.feed_fault.FeedFault.FeedFault}
use Rattle.verity_builders.specs.declared.{feed_fault.FeedFault.TheVariants.{TooLarge, Waiting, Level}, file_tree_builder.FileFed.FileFed}
use Rattle.verity_builders.specs.declared.file_tree_builder.{FileHashBlock.FileHashBlock, FileTreeBuilder.FileTreeBuilder}

-- the data blocks of a whole file, the last one filled with zeros
abbrev pub file_blocks : TreeSettingsFields → List ℕ → List (List ℕ)
file_blocks s file = data_blocks (plan_of_file s (length file)) file

-- the number of levels of the tree of a file of so many bytes
abbrev pub levels_of_file : TreeSettingsFields → ℕ → ℕ
levels_of_file s size = level_count_of (plan_of_file s size)

-- the number in its level of the hash block above the last of so many bytes
abbrev pub end_index : TreeSettingsFields → ℕ → ℕ → ℕ
end_index s count level = blocks_before s count / fan s ^ (level + 1)

-- these bytes were fed to a builder that hands out a file's hash blocks: it stands as one of a file of a byte more
pub record IsFedFileTree (b : FileTreeBuilder) (memory fed : List ℕ) : Type 0 where
  pub count : length fed ≡ b.fed
  pub stands : Stands (plan_of_file b.settings (length fed + 1)) (most_level_count b.settings) fed b.closed
      (open_blocks b.settings (most_level_count b.settings) memory)
      (after_open_blocks b.settings (most_level_count b.settings) memory)

-- why a piece of a length isn't taken
abbrev pub piece_fault : FileTreeBuilder → ℕ → Option FeedFault
piece_fault b count = if is_too_large (plan_for_bytes b.settings (b.fed + count) 0) then Some TooLarge
    else (if nat_lt (levels_of_file b.settings (b.fed + count)) b.closed then Some Level else None)

-- why there is no root hash of the bytes so far
abbrev pub root_fault : FileTreeBuilder → Option FeedFault
root_fault b = if nat_lt 0 b.closed then Some Waiting
    else (if is_too_large (plan_for_bytes b.settings b.fed 0) then Some TooLarge else None)

-- why there is no last hash block of a level
abbrev pub last_block_fault : FileTreeBuilder → ℕ → Option FeedFault
last_block_fault b level = if nat_lt 0 b.closed then Some Waiting
    else (if is_too_large (plan_for_bytes b.settings b.fed 0) then Some TooLarge
    else (if nat_lt level (levels_of_file b.settings b.fed) then None else Some Level))

-- the hash block of the level that was handed out last, above the last of so many bytes: its number in its level, and
-- where it stands in the memory
pub record IsPlacedInFile (s : TreeSettingsFields) (count closed : ℕ) (block : FileHashBlock) : Type 0 where
  pub level_is : closed ≡ block.level + 1
  pub level_below : block.level < most_level_count s
  pub index_is : block.index ≡ end_index s count block.level
  pub at_is : block.at ≡ block.level * s.hash_block

-- what an answer to a piece of a length says, whatever builder and memory were: all of the piece is taken, and then no
-- hash block waits, or a hash block is handed out before its end
pub record TakesOfFile (before after : FileTreeBuilder) (count : ℕ) (answer : FileFed) : Type 0 where
  pub settings_are : after.settings ≡ before.settings
  pub fed_is : after.fed ≡ before.fed + answer.taken
  pub most : answer.taken ≤ count
  pub all : answer.hash_block ≡ None → answer.taken ≡ count
  pub none_waits : answer.hash_block ≡ None → 0 < count → after.closed ≡ 0
  pub nothing : count ≡ 0 → after ≡ before
  pub placed : (block : FileHashBlock) → answer.hash_block ≡ Some block
      → IsPlacedInFile before.settings after.fed after.closed block
  pub before_end : (block : FileHashBlock) → answer.hash_block ≡ Some block → answer.taken < count
  pub rises : (block : FileHashBlock) → answer.hash_block ≡ Some block → answer.taken ≡ 0
      → after.closed ≡ before.closed + 1

-- the hash block that is handed out, in a list of its own
abbrev pub given_of_file : Option FileHashBlock → List BlockIndex
given_of_file None = []
given_of_file (Some block) = block_index block.level block.index ∷ []

-- the hash block stands in the memory, the tree's of every file that has these bytes and at least one more
pub record IsFinal (s : TreeSettingsFields) (fed memory : List ℕ) (block : FileHashBlock) : Type 0 where
  pub level_below : (size : ℕ) → length fed < size → block.level < levels_of_file s size
  pub at_is : block.at ≡ block.level * s.hash_block
  pub bytes : (more : List ℕ) → 0 < length more → IsPlan (plan_of_file s (length (fed ++ more)))
      → take s.hash_block (drop block.at memory) ≡ tree_block s (file_blocks s (fed ++ more)) block.level block.index

-- the bytes that were taken were fed after those before them, and the hash block that is handed out is the next in closing
-- order, of a file of any size that has these bytes
pub record FeedsFile (before after : FileTreeBuilder) (fed more memory : List ℕ)
    (hash_block : Option FileHashBlock) : Type 0 where
  pub is_fed : IsFedFileTree after memory (fed ++ more)
  pub order : (size : ℕ) → after.fed ≤ size → handed_out (plan_of_file before.settings size) after.fed after.closed
      ≡ handed_out (plan_of_file before.settings size) before.fed before.closed ++ given_of_file hash_block
  pub placed : (block : FileHashBlock) → hash_block ≡ Some block
      → IsPlacedInFile before.settings after.fed after.closed block
  pub stands : (block : FileHashBlock) → hash_block ≡ Some block → IsFinal before.settings (fed ++ more) memory block

-- one call of such a builder, and what stands in the memory after it: bytes of a piece are taken, and a hash block may be
-- handed out; or the root hash or a hash block that is left is asked for
pub data FileTreeCall : Type 0 where
  feeds : List ℕ → Option FileHashBlock → List ℕ → FileTreeCall
  asks : List ℕ → FileTreeCall

-- the bytes that are taken with it
abbrev pub bytes_taken : FileTreeCall → List ℕ
bytes_taken (feeds taken hash_block memory) = taken
bytes_taken (asks memory) = []

-- the file that is fed in some calls
abbrev pub file_of_calls : List FileTreeCall → List ℕ
file_of_calls calls = flat_map bytes_taken calls

-- the hash block that is handed out with it
abbrev pub block_handed : FileTreeCall → List BlockIndex
block_handed (feeds taken hash_block memory) = given_of_file hash_block
block_handed (asks memory) = []

-- the memory after it
abbrev pub memory_after_call : FileTreeCall → List ℕ
memory_after_call (feeds taken hash_block memory) = memory
memory_after_call (asks memory) = memory

-- builder and memory before and after it
abbrev pub IsAfterTreeCall : FileTreeBuilder → List ℕ → FileTreeCall → FileTreeBuilder → Type 0
IsAfterTreeCall b memory (feeds taken hash_block room) after = (after.settings ≡ b.settings)
    × ((fed : List ℕ) → IsFedFileTree b memory fed → FeedsFile b after fed taken room hash_block)
IsAfterTreeCall b memory (asks room) after =
    (after ≡ b) × ((fed : List ℕ) → IsFedFileTree b memory fed → IsFedFileTree b room fed)

-- the same of some calls, one after another
unfoldable pub IsAfterTreeCalls : FileTreeBuilder → List ℕ → List FileTreeCall → FileTreeBuilder → List ℕ → Type 0
IsAfterTreeCalls b memory [] after memory_after = (after ≡ b) × (memory_after ≡ memory)
IsAfterTreeCalls b memory (call ∷ rest) after memory_after = (next : FileTreeBuilder)
    × IsAfterTreeCall b memory call next
    × IsAfterTreeCalls next (memory_after_call call) rest after memory_after

-- a device after the hash block that was handed out with a call, if one was, is put at the place that a plan has for it
abbrev pub put_handed : PlanFields → FileTreeCall → List ℕ → List ℕ
put_handed p (feeds taken None memory) device = device
put_handed p (feeds taken (Some block) memory) device =
    put device (start_byte_of p block.level block.index) (take p.settings.hash_block (drop block.at memory))
put_handed p (asks memory) device = device

-- the same of some calls
unfoldable pub put_all_handed : PlanFields → List FileTreeCall → List ℕ → List ℕ
put_all_handed p [] device = device
put_all_handed p (call ∷ rest) device = put_all_handed p rest (put_handed p call device)

-- a device after the last hash blocks of these levels are put at their places
unfoldable pub put_last : PlanFields → (ℕ → List ℕ) → List ℕ → List ℕ → List ℕ
put_last p blocks [] device = device
put_last p blocks (level ∷ rest) device = put_last p blocks rest
    (put device (start_byte_of p level (end_index p.settings p.wanted level)) (blocks level))

-- these are the last hash blocks of a file's tree, by their levels
abbrev pub AreLastBlocks : PlanFields → List ℕ → (ℕ → List ℕ) → Type 0
AreLastBlocks p file blocks = (level : ℕ) → level < level_count_of p
    → blocks level ≡ tree_block p.settings (data_blocks p file) level (end_index p.settings p.wanted level)

-- hash blocks were handed out in closing order, each once, and all but the last one of each level; and with these, put at
-- their places, they leave the device as building the tree above the file does
pub record BuildsFileTree (p : PlanFields) (file : List ℕ) (calls : List FileTreeCall) (blocks : ℕ → List ℕ)
    (device : List ℕ) : Type 0 where
  pub order : flat_map block_handed calls ++ first_closing (fan p.settings) (blocks_before p.settings p.wanted)
      (level_count_of p) ≡ closed_after (fan p.settings) p.blocks p.blocks
  pub stands : put_last p blocks (range_with_len 0 (level_count_of p)) (put_all_handed p calls device)
      ≡ tree_on_device p (data_blocks p file) device
