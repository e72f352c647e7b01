-- A tree from parts, which are built apart from one another: a part of a level is what stands below one of the digests
-- that the level's hash blocks are made of, and the join is what stands above these digests. So a part has up to fan ^
-- level data blocks, and the hash blocks of the levels below; the join has those of this level and above. Above the top
-- level there is one part, the whole tree, whose digest is the root hash.
use Rattle.std.specs.Prelude.{◌≡◌, ◌⊎◌, ◌<◌, ◌≤◌, ℕ, zero, suc, ◌+◌, ◌-◌, ◌*◌, ◌/◌, ◌^◌, ◌==◌, ◌&&◌, ◌||◌, Bool, List, [], ◌∷◌, ◌++◌, length, take}
use Rattle.std.specs.Prelude.{drop, map, filter, min, nat_le, nat_lt, slice_index_or, Option, Some, None, if◌then◌else◌}
use Rattle.{std.specs.{Fork.slice_chunk, List.{flat_map, range_with_len}}, verity_builders.specs.declared.part_builder.PartBuilder.PartBuilder}
use Rattle.verity_builders.specs.{declared.{tree_builder.Fed.Fed, feed_fault.FeedFault.FeedFault}, Steps.Parts.JoinStands}
use Rattle.verity_builders.specs.Feeding.{FeedCall, IsPlacedFrom, after_open_blocks, ending_fault, given, open_blocks, taking_fault, written_all}
use Rattle.verity_builders.specs.declared.{feed_fault.FeedFault.TheVariants.{TooLong, TooShort, Waiting, Level}, join_builder.JoinBuilder.JoinBuilder}
use Rattle.verity_plan.specs.{Plans.{PlanFields, start_byte_of}, PlanCounts.{level_count_of, count_under}, Settings.{digest_len, fan, hash}}
use Rattle.verity_blocks.specs.ClosingOrder.{BlockIndex, block_index, blocks_before, closed_after, closing_with, first_closing, most_closed, times}
use Rattle.verity_blocks.specs.{Steps.Feeding.Stands, Levels.{blocks_up, data_blocks, root}, TreeOnDevice.tree_block, TreeWriting.tree_on_device}
use Rattle.verity_blocks.specs.declared.hash_block.HashBlock.{HashBlock}
use Rattle.verity_builders.specs.declared.part_builder.PartFault.{PartFault, TheVariants.{Level as NoLevel, Part as NoPart}}

-- the tree has this part of a level
pub record HasPart (p : PlanFields) (level part : ℕ) : Type 0 where
  pub level_most : level ≤ level_count_of p
  pub part_below : part < count_under p level

-- why it has no such part
abbrev pub part_fault : PlanFields → ℕ → ℕ → Option PartFault
part_fault p level part = if nat_lt (level_count_of p) level then Some NoLevel
    else (if nat_le (count_under p level) part then Some NoPart else None)

-- how many data blocks the parts of a level have, but for the last one, which may have fewer
abbrev pub blocks_in_part : PlanFields → ℕ → ℕ
blocks_in_part p level = fan p.settings ^ level

-- the number of a part's first data block
abbrev pub first_block : PlanFields → ℕ → ℕ → ℕ
first_block p level part = part * blocks_in_part p level

-- the plan of the tree above a part's data alone
abbrev pub plan_of_part : PlanFields → ℕ → ℕ → PlanFields
plan_of_part p level part = record {
  settings = p.settings;
  blocks = min (blocks_in_part p level) (p.blocks - first_block p level part);
  wanted = min (blocks_in_part p level * p.settings.data_block)
      (p.wanted - first_block p level part * p.settings.data_block);
  base = 0;
}

-- a part's data
abbrev pub bytes_of_part : PlanFields → ℕ → ℕ → List ℕ → List ℕ
bytes_of_part p level part bytes =
    slice_chunk (take p.wanted bytes) (blocks_in_part p level * p.settings.data_block) part

-- the blocks whose digests the hash blocks of a level are made of: the data blocks for level 0
abbrev pub blocks_under : PlanFields → ℕ → List ℕ → List (List ℕ)
blocks_under p level bytes = blocks_up p.settings (data_blocks p bytes) level

-- the digest of a part, in the tree above some bytes
abbrev pub digest_of_part : PlanFields → ℕ → ℕ → List ℕ → List ℕ
digest_of_part p level part bytes = hash p.settings (slice_index_or (blocks_under p level bytes) part [])

-- the hash blocks of the levels below this one that close with so many data blocks from the first on, in closing order
unfoldable pub closed_in_part : ℕ → ℕ → ℕ → ℕ → ℕ → List BlockIndex
closed_in_part fan n level first zero = []
closed_in_part fan n level first (suc count) =
    closed_in_part fan n level first count
    ++ filter (λ block. nat_lt block.level level) (closing_with fan n (first + count))

-- the hash blocks of a part, in closing order
abbrev pub part_order : PlanFields → ℕ → ℕ → List BlockIndex
part_order p level part = closed_in_part (fan p.settings) p.blocks level (first_block p level part)
    (plan_of_part p level part).blocks

-- the hash blocks of this level and above that close with the first i data blocks, in closing order
abbrev pub closed_in_join : ℕ → ℕ → ℕ → ℕ → List BlockIndex
closed_in_join fan n level i = filter (λ block. nat_le level block.level) (closed_after fan n i)

-- the hash blocks of the join, in closing order
abbrev pub join_order : PlanFields → ℕ → List BlockIndex
join_order p level = closed_in_join (fan p.settings) p.blocks level p.blocks

-- these bytes were fed to a builder of a part that the tree has
pub record IsFedPart (b : PartBuilder) (memory fed : List ℕ) : Type 0 where
  pub part : HasPart b.plan b.level b.part
  pub count : length fed ≡ b.fed
  pub stands : Stands (plan_of_part b.plan b.level b.part) b.level fed b.closed
      (open_blocks b.plan.settings b.level memory) (after_open_blocks b.plan.settings b.level memory)

-- why a piece of a length isn't taken
abbrev pub piece_fault : PartBuilder → ℕ → Option FeedFault
piece_fault b count =
    if nat_lt (level_count_of b.plan) b.level || nat_le (count_under b.plan b.level) b.part then Some Level
    else taking_fault (plan_of_part b.plan b.level b.part) b.level b.fed b.closed count

-- why there is no digest yet
abbrev pub digest_fault : PartBuilder → Option FeedFault
digest_fault b = if nat_lt (level_count_of b.plan) b.level || nat_le (count_under b.plan b.level) b.part then Some Level
    else ending_fault (plan_of_part b.plan b.level b.part) b.level b.fed b.closed

-- the hash block of the level that was handed out last: its number in the whole tree's level, its place on the whole
-- tree's device, and where it stands in the memory
abbrev pub IsPlacedOfPart : PartBuilder → HashBlock → Type 0
IsPlacedOfPart b = IsPlacedFrom b.plan (first_block b.plan b.level b.part) b.level b.fed b.closed

-- the numbers name a hash block: of a part of the tree, and no more bytes or levels than it has
pub record HasLastOfPart (b : PartBuilder) : Type 0 where
  pub part : HasPart b.plan b.level b.part
  pub some : 0 < b.fed
  pub most : b.fed ≤ (plan_of_part b.plan b.level b.part).wanted
  pub closed : 0 < b.closed
  pub levels : b.closed ≤ most_closed (plan_of_part b.plan b.level b.part) b.level b.fed

-- what an answer to a piece of a length says, whatever builder and memory were: all of the piece is taken, or a hash
-- block is handed out before its end, or after the part's last byte; and after that byte none is left when none is
-- handed out
pub record TakesOfPart (before after : PartBuilder) (count : ℕ) (answer : Fed) : Type 0 where
  pub plan_is : after.plan ≡ before.plan
  pub level_is : after.level ≡ before.level
  pub part_is : after.part ≡ before.part
  pub fed_is : after.fed ≡ before.fed + answer.taken
  pub most : answer.taken ≤ count
  pub all : answer.hash_block ≡ None → answer.taken ≡ count
  pub done : answer.hash_block ≡ None → after.fed ≡ (plan_of_part before.plan before.level before.part).wanted
      → after.closed ≡ before.level
  pub placed : (block : HashBlock) → answer.hash_block ≡ Some block → IsPlacedOfPart after block
  pub waits : (block : HashBlock) → answer.hash_block ≡ Some block
      → (answer.taken < count) ⊎ (after.fed ≡ (plan_of_part before.plan before.level before.part).wanted)
  pub rises : (block : HashBlock) → answer.hash_block ≡ Some block → answer.taken ≡ 0
      → after.closed ≡ before.closed + 1

-- the hash blocks of a part that were handed out, in closing order, when so many bytes were fed and the hash blocks of
-- so many levels above the last of them were handed out
abbrev pub handed_out_of_part : PlanFields → ℕ → ℕ → ℕ → ℕ → List BlockIndex
handed_out_of_part p level part count closed =
    closed_in_part (fan p.settings) p.blocks level (first_block p level part) (blocks_before p.settings count)
    ++ first_closing (fan p.settings) (first_block p level part + blocks_before p.settings count) closed

-- the hash block stands in the memory, with its place on the device: that of each tree whose part begins with these
-- bytes, whatever the other parts are
pub record IsHandedOutOfPart (b : PartBuilder) (fed memory : List ℕ) (block : HashBlock) : Type 0 where
  pub level_below : block.level < b.level
  pub at_is : block.at ≡ block.level * b.plan.settings.hash_block
  pub start_is : block.start ≡ start_byte_of b.plan block.level block.index
  pub bytes : (all more : List ℕ) → bytes_of_part b.plan b.level b.part all ≡ fed ++ more
      → take b.plan.settings.hash_block (drop block.at memory)
      ≡ tree_block b.plan.settings (data_blocks b.plan all) block.level block.index

-- the bytes that were taken were fed after those before them, and the hash block that is handed out is the part's next
-- in closing order
pub record FeedsPart (before after : PartBuilder) (fed more memory : List ℕ)
    (hash_block : Option HashBlock) : Type 0 where
  pub is_fed : IsFedPart after memory (fed ++ more)
  pub order : handed_out_of_part before.plan before.level before.part after.fed after.closed
      ≡ handed_out_of_part before.plan before.level before.part before.fed before.closed ++ given hash_block
  pub stands : (block : HashBlock) → hash_block ≡ Some block → IsHandedOutOfPart before (fed ++ more) memory block

-- the digest is that of each tree whose part has these bytes, whatever the other parts are
abbrev pub IsDigestOfPart : PartBuilder → List ℕ → List ℕ → Type 0
IsDigestOfPart b fed digest = (all : List ℕ) → bytes_of_part b.plan b.level b.part all ≡ fed
    → digest ≡ digest_of_part b.plan b.level b.part all

-- the length of a join's memory in bytes: an open block for each of its levels, and the digest that came last
abbrev pub join_length : PlanFields → ℕ → ℕ
join_length p level = (level_count_of p - level) * p.settings.hash_block + digest_len p.settings

-- the digests of the first parts were joined, in the tree above these bytes
abbrev pub IsJoined : JoinBuilder → List ℕ → List ℕ → Type 0
IsJoined b memory bytes = JoinStands b.plan.settings (blocks_under b.plan b.level bytes)
    (level_count_of b.plan - b.level) b.taken b.closed
    (open_blocks b.plan.settings (level_count_of b.plan - b.level) memory)
    (after_open_blocks b.plan.settings (level_count_of b.plan - b.level) memory)

-- these bytes are digests one after another: those of the parts from one on, in the tree above some bytes
abbrev pub AreDigests : PlanFields → ℕ → ℕ → List ℕ → List ℕ → Type 0
AreDigests p level from digests bytes = (k : ℕ) → k < length digests / digest_len p.settings
    → slice_chunk digests (digest_len p.settings) k ≡ digest_of_part p level (from + k) bytes

-- the digests of all parts are counted as taken, and no hash block as handed out, although there are some: no call
-- leaves these numbers
abbrev pub counts_none_closed : JoinBuilder → Bool
counts_none_closed b = (b.taken == count_under b.plan b.level)
    && ((b.closed == 0) && nat_lt b.level (level_count_of b.plan))

-- why so many bytes of digests aren't taken
abbrev pub digests_fault : JoinBuilder → ℕ → Option FeedFault
digests_fault b count = if nat_lt (level_count_of b.plan) (b.level + b.closed) || counts_none_closed b then Some Level
    else (if nat_lt (count_under b.plan b.level) (b.taken + count / digest_len b.plan.settings) then Some TooLong
    else None)

-- why there is no root hash yet
abbrev pub join_fault : JoinBuilder → Option FeedFault
join_fault b = if nat_lt (level_count_of b.plan) (b.level + b.closed) || counts_none_closed b then Some Level
    else (if nat_lt (count_under b.plan b.level) b.taken then Some TooLong
    else (if nat_lt b.taken (count_under b.plan b.level) then Some (TooShort b.taken)
    else (if nat_lt (b.level + b.closed) (level_count_of b.plan) then Some Waiting else None)))

-- the hash block of the level that was handed out last: its number in its level, its place on the device, and where it
-- stands in the memory
pub record IsPlacedOfJoin (b : JoinBuilder) (block : HashBlock) : Type 0 where
  pub level_is : b.level + b.closed ≡ block.level + 1
  pub level_least : b.level ≤ block.level
  pub level_below : block.level < level_count_of b.plan
  pub index_is : block.index ≡ (b.taken - 1) / fan b.plan.settings ^ b.closed
  pub start_is : block.start ≡ start_byte_of b.plan block.level block.index
  pub at_is : block.at ≡ (block.level - b.level) * b.plan.settings.hash_block

-- the numbers name a hash block: digests were taken and levels handed out, no more of either than there are
pub record HasLastOfJoin (b : JoinBuilder) : Type 0 where
  pub some : 0 < b.taken
  pub most : b.taken ≤ count_under b.plan b.level
  pub closed : 0 < b.closed
  pub levels : b.level + b.closed ≤ level_count_of b.plan

-- what an answer to so many bytes of digests says, whatever builder and memory were: all are taken, or a hash block is
-- handed out; and after the last part's digest none is left when none is handed out
pub record TakesOfJoin (before after : JoinBuilder) (count : ℕ) (answer : Fed) : Type 0 where
  pub plan_is : after.plan ≡ before.plan
  pub level_is : after.level ≡ before.level
  pub taken_is : after.taken ≡ before.taken + answer.taken / digest_len before.plan.settings
  pub whole : answer.taken ≡ answer.taken / digest_len before.plan.settings * digest_len before.plan.settings
  pub most : answer.taken ≤ count
  pub all : answer.hash_block ≡ None → answer.taken ≡ count
  pub done : answer.hash_block ≡ None → after.taken ≡ count_under before.plan before.level
      → before.level + after.closed ≡ level_count_of before.plan
  pub placed : (block : HashBlock) → answer.hash_block ≡ Some block → IsPlacedOfJoin after block
  pub rises : (block : HashBlock) → answer.hash_block ≡ Some block → answer.taken ≡ 0
      → after.closed ≡ before.closed + 1

-- the hash blocks that the join handed out, in closing order, when so many digests were taken and the hash blocks of so
-- many levels above the last of them were handed out
abbrev pub handed_out_of_join : PlanFields → ℕ → ℕ → ℕ → List BlockIndex
handed_out_of_join p level taken closed =
    closed_in_join (fan p.settings) p.blocks level (first_block p level (taken - 1))
    ++ map (λ l. block_index (level + l) ((taken - 1) / fan p.settings ^ (l + 1))) (range_with_len 0 closed)

-- the hash block stands in the memory, the tree's above these bytes, with its place on the device
pub record IsHandedOutOfJoin (b : JoinBuilder) (bytes memory : List ℕ) (block : HashBlock) : Type 0 where
  pub level_below : block.level < level_count_of b.plan
  pub at_is : block.at ≡ (block.level - b.level) * b.plan.settings.hash_block
  pub start_is : block.start ≡ start_byte_of b.plan block.level block.index
  pub stands : take b.plan.settings.hash_block (drop block.at memory)
      ≡ tree_block b.plan.settings (data_blocks b.plan bytes) block.level block.index

-- the digests that were taken were joined after those before them, and the hash block that is handed out is the join's
-- next in closing order
pub record Joins (before after : JoinBuilder) (bytes memory : List ℕ) (hash_block : Option HashBlock) : Type 0 where
  pub is_joined : IsJoined after memory bytes
  pub order : handed_out_of_join before.plan before.level after.taken after.closed
      ≡ handed_out_of_join before.plan before.level before.taken before.closed ++ given hash_block
  pub stands : (block : HashBlock) → hash_block ≡ Some block → IsHandedOutOfJoin before bytes memory block

-- a builder of a part and its memory, before and after some calls
unfoldable pub FeedsPartCalls : PartBuilder → List ℕ → List FeedCall → PartBuilder → List ℕ → Type 0
FeedsPartCalls b memory [] after memory_after = (after ≡ b) × (memory_after ≡ memory)
FeedsPartCalls b memory (call ∷ rest) after memory_after = (next : PartBuilder)
    × (next.plan ≡ b.plan) × (next.level ≡ b.level) × (next.part ≡ b.part)
    × ((fed : List ℕ) → IsFedPart b memory fed → FeedsPart b next fed call.taken call.memory call.hash_block)
    × FeedsPartCalls next call.memory rest after memory_after

-- a builder of a join and its memory, before and after some calls, which took digests one after another
unfoldable pub JoinsCalls : JoinBuilder → List ℕ → List FeedCall → JoinBuilder → List ℕ → Type 0
JoinsCalls b memory [] after memory_after = (after ≡ b) × (memory_after ≡ memory)
JoinsCalls b memory (call ∷ rest) after memory_after = (next : JoinBuilder)
    × (next.plan ≡ b.plan) × (next.level ≡ b.level)
    × (next.taken * digest_len b.plan.settings ≡ b.taken * digest_len b.plan.settings + length call.taken)
    × ((bytes : List ℕ) → IsJoined b memory bytes → AreDigests b.plan b.level b.taken call.taken bytes
    → Joins b next bytes call.memory call.hash_block)
    × JoinsCalls next call.memory rest after memory_after

-- a part that is built in calls: its builder and memory before and after them, and the digest that its end answers
pub record PartInCalls : Type 0 where
  pub begun : PartBuilder
  pub memory : List ℕ
  pub calls : List FeedCall
  pub after : PartBuilder
  pub memory_after : List ℕ
  pub digest : List ℕ

-- the calls, from the first to the last, have built this part of the tree above these bytes: all of the part's bytes
-- were taken, and all its hash blocks handed out; and the digest is what the end answers then
pub record BuildsPartInCalls (p : PlanFields) (level part : ℕ) (bytes : List ℕ) (run : PartInCalls) : Type 0 where
  pub plan_is : run.begun.plan ≡ p
  pub level_is : run.begun.level ≡ level
  pub part_is : run.begun.part ≡ part
  pub begins : IsFedPart run.begun run.memory []
  pub feeds : FeedsPartCalls run.begun run.memory run.calls run.after run.memory_after
  pub fed_all : run.after.fed ≡ (plan_of_part p level part).wanted
  pub closed_all : run.after.closed ≡ level
  pub bytes_are : flat_map (λ call. call.taken) run.calls ≡ bytes_of_part p level part bytes
  pub ends : (fed : List ℕ) → IsFedPart run.after run.memory_after fed → IsDigestOfPart run.after fed run.digest

-- a join that is built in calls: its builder and memory before and after them, and the root hash that its end answers
pub record JoinInCalls : Type 0 where
  pub begun : JoinBuilder
  pub memory : List ℕ
  pub calls : List FeedCall
  pub after : JoinBuilder
  pub memory_after : List ℕ
  pub root_hash : List ℕ

-- the calls, from the first to the last, have joined the parts of a level of the tree above these bytes: the digests
-- that the parts' ends answered were all taken in the order of the parts, and all hash blocks of the join handed out;
-- and the root hash is what the end answers then
pub record BuildsJoinInCalls (p : PlanFields) (level : ℕ) (bytes : List ℕ) (parts : ℕ → PartInCalls)
    (run : JoinInCalls) : Type 0 where
  pub plan_is : run.begun.plan ≡ p
  pub level_is : run.begun.level ≡ level
  pub none_taken : run.begun.taken ≡ 0
  pub none_closed : run.begun.closed ≡ 0
  pub begins : IsJoined run.begun run.memory bytes
  pub joins : JoinsCalls run.begun run.memory run.calls run.after run.memory_after
  pub taken_all : run.after.taken ≡ count_under p level
  pub closed_all : level + run.after.closed ≡ level_count_of p
  pub digests_are : flat_map (λ call. call.taken) run.calls
      ≡ flat_map (λ part. (parts part).digest) (range_with_len 0 (count_under p level))
  pub ends : IsJoined run.after run.memory_after bytes
      → run.root_hash ≡ root run.after.plan.settings (data_blocks run.after.plan bytes)

-- the calls of all parts and of the join
abbrev pub calls_from_parts : PlanFields → ℕ → (ℕ → PartInCalls) → JoinInCalls → List FeedCall
calls_from_parts p level parts join =
    flat_map (λ part. (parts part).calls) (range_with_len 0 (count_under p level)) ++ join.calls

-- these calls have done what building the tree above these bytes does: each part's bytes were fed to it, the digests
-- were joined, and the root hash is the tree's; each hash block was handed out once; and these hash blocks, written at
-- their places in the order of `writes`, leave the device as building does
pub record BuildsFromParts (p : PlanFields) (level : ℕ) (bytes : List ℕ) (parts : ℕ → PartInCalls) (join : JoinInCalls)
    (writes : List FeedCall) (device : List ℕ) : Type 0 where
  pub fed : (part : ℕ) → part < count_under p level
      → IsFedPart (parts part).after (parts part).memory_after (bytes_of_part p level part bytes)
  pub joined : IsJoined join.after join.memory_after bytes
  pub root_is : join.root_hash ≡ root p.settings (data_blocks p bytes)
  pub once : (l j : ℕ) → times l j (flat_map (λ call. given call.hash_block) (calls_from_parts p level parts join))
      ≡ times l j (closed_after (fan p.settings) p.blocks p.blocks)
  pub stands : written_all p writes device ≡ tree_on_device p (data_blocks p bytes) device
