-- What the calls of the library for C answer that build a tree from parts, and join them by their digests: for a plan
-- that parameters of either format make, or the first fault of the parameters. Whoever reads a contract need not know
-- how memory holds what was fed or taken. A fault leaves everything as it was.
use Rattle.std.specs.Prelude.{◌≡◌, ◌≢◌, ◌<◌, ◌≤◌, ◌⊎◌, ℕ, ◌+◌, ◌-◌, ◌*◌, ◌/◌, ◌%◌, ◌^◌, ◌==◌, ◌||◌, List, ◌++◌, min, nat_le, nat_lt, not, Result, Ok}
use Rattle.std.specs.Prelude.{Err, if◌then◌else◌}
use Rattle.{verity_format.specs.Descriptors.digest_of_file, verity_blocks.specs.{ClosingOrder.blocks_before, Levels.{data_blocks, root}}}
use Rattle.verity_plan.specs.{Plans.{PlanFields, start_byte_of}, PlanCounts.{level_count_of, count_under}, Settings.{digest_len, fan}}
use Rattle.verity_builders.specs.{Feeding.feeding_length, Parts.{join_length, blocks_in_part, piece_fault, plan_of_part}}
use Rattle.verity_builders.specs.Parts.{AreDigests, IsDigestOfPart, IsFedPart, IsHandedOutOfJoin, IsHandedOutOfPart, IsJoined, IsPlacedOfJoin}
use Rattle.verity_builders.specs.Parts.{IsPlacedOfPart, digest_fault, digests_fault, first_block, handed_out_of_join, handed_out_of_part, join_fault}
use Rattle.verity_builders.specs.declared.{join_builder.JoinBuilder.JoinBuilder, part_builder.PartBuilder.PartBuilder}
use Rattle.verity_c_api.specs.{declared.{fault.Fault.{TheVariants.{Length, Level, Part, Root}, Fault}, build.VerityFed.VerityFed}, Answers.number_in}
use Rattle.verity_c_api.specs.{Building.{block_of, given_by, unless, without_block}, declared.build.{VerityJoin.VerityJoin, VerityPart.VerityPart}}

-- the builder of a part of a plan's tree that a struct says, and that of a join
abbrev pub part_builder_of : PlanFields → VerityPart → PartBuilder
part_builder_of p part =
    record { plan = p; level = part.level; part = part.part; fed = part.fed; closed = part.closed }

abbrev pub join_builder_of : PlanFields → VerityJoin → JoinBuilder
join_builder_of p join = record { plan = p; level = join.level; taken = join.taken; closed = join.closed }

-- the struct of a part of a level to which nothing was fed yet, and of a join that has taken no digest yet
abbrev pub begun_part : ℕ → ℕ → VerityPart
begun_part level part = record { level = level; part = part; fed = 0; closed = 0 }

abbrev pub begun_join : ℕ → VerityJoin
begun_join level = record { level = level; taken = 0; closed = 0 }

-- these bytes were fed to the part that a struct says: struct and memory are as the calls that fed them left them
abbrev pub IsFedPartTo : Result PlanFields Fault → VerityPart → List ℕ → List ℕ → Type 0
IsFedPartTo (Err fault) part memory fed = ⊥
IsFedPartTo (Ok p) part memory fed = IsFedPart (part_builder_of p part) memory fed

-- the digests of the first parts were joined, in the tree above these bytes: struct and memory are as the calls that
-- took them left them
abbrev pub IsJoinedTo : Result PlanFields Fault → VerityJoin → List ℕ → List ℕ → Type 0
IsJoinedTo (Err fault) join memory bytes = ⊥
IsJoinedTo (Ok p) join memory bytes = IsJoined (join_builder_of p join) memory bytes

-- the digest is the part's in each tree whose part has the bytes that were fed
abbrev pub IsDigestOfFed : Result PlanFields Fault → VerityPart → List ℕ → List ℕ → Type 0
IsDigestOfFed (Err fault) part fed digest = ⊥
IsDigestOfFed (Ok p) part fed digest = IsDigestOfPart (part_builder_of p part) fed digest

-- these bytes are the digests of the parts that come next, one after another, in the tree above some bytes
abbrev pub AreNextDigests : Result PlanFields Fault → VerityJoin → List ℕ → List ℕ → Type 0
AreNextDigests (Err fault) join digests bytes = ⊥
AreNextDigests (Ok p) join digests bytes = AreDigests p join.level join.taken digests bytes

-- the plan, if it has this level, or this is the number of its levels
abbrev pub with_parts : Result PlanFields Fault → ℕ → Result PlanFields Fault
with_parts (Err fault) level = Err fault
with_parts (Ok p) level = if nat_lt (level_count_of p) level then Err Level else Ok p

-- the plan, if the level has this part
abbrev pub with_part : Result PlanFields Fault → ℕ → ℕ → Result PlanFields Fault
with_part (Err fault) level part = Err fault
with_part (Ok p) level part = if nat_lt (level_count_of p) level then Err Level
    else (if nat_le (count_under p level) part then Err Part else Ok p)

-- how many parts a level has, and how many data blocks each but the last one, which has what is left
abbrev pub part_count_in : Result PlanFields Fault → ℕ → Result ℕ Fault
part_count_in plan level = number_in (with_parts plan level) (λ p. count_under p level)

abbrev pub part_blocks_in : Result PlanFields Fault → ℕ → Result ℕ Fault
part_blocks_in plan level = number_in (with_parts plan level) (λ p. min (blocks_in_part p level) p.blocks)

-- the length of the memory that a part of a level is built in, and of that in which the parts are joined
abbrev pub part_memory_in : Result PlanFields Fault → ℕ → Result ℕ Fault
part_memory_in plan level = number_in (with_parts plan level) (λ p. feeding_length p.settings level)

abbrev pub join_memory_in : Result PlanFields Fault → ℕ → Result ℕ Fault
join_memory_in plan level = number_in (with_parts plan level) (λ p. join_length p level)

-- the plan, if the memory has its length, in bytes
abbrev pub if_room : Result PlanFields Fault → (PlanFields → ℕ) → ℕ → Result PlanFields Fault
if_room (Err fault) length room = Err fault
if_room (Ok p) length room = if room == length p then Ok p else Err Length

abbrev pub with_part_memory : Result PlanFields Fault → ℕ → ℕ → ℕ → Result PlanFields Fault
with_part_memory plan level part room = if_room (with_part plan level part) (λ p. feeding_length p.settings level) room

abbrev pub with_join_memory : Result PlanFields Fault → ℕ → ℕ → Result PlanFields Fault
with_join_memory plan level room = if_room (with_parts plan level) (λ p. join_length p level) room

-- the plan, if the builder of the part takes a piece of this length
abbrev pub with_part_piece : Result PlanFields Fault → VerityPart → ℕ → Result PlanFields Fault
with_part_piece (Err fault) part count = Err fault
with_part_piece (Ok p) part count = unless (piece_fault (part_builder_of p part) count) p

-- the plan, if there is room for just a digest, all bytes of the part were fed and all its hash blocks handed out
abbrev pub with_part_fed : Result PlanFields Fault → VerityPart → ℕ → Result PlanFields Fault
with_part_fed (Err fault) part room = Err fault
with_part_fed (Ok p) part room =
    if not (room == digest_len p.settings) then Err Length else unless (digest_fault (part_builder_of p part)) p

-- the plan, if so many bytes are whole digests, and the join takes them
abbrev pub with_digests : Result PlanFields Fault → VerityJoin → ℕ → Result PlanFields Fault
with_digests (Err fault) join count = Err fault
with_digests (Ok p) join count = if not (count % digest_len p.settings == 0) then Err Length
    else unless (digests_fault (join_builder_of p join) count) p

-- the plan, if there is room for just a root hash, the digests of all parts were taken and all hash blocks handed out
abbrev pub with_joined : Result PlanFields Fault → VerityJoin → ℕ → Result PlanFields Fault
with_joined (Err fault) join room = Err fault
with_joined (Ok p) join room =
    if not (room == digest_len p.settings) then Err Root else unless (join_fault (join_builder_of p join)) p

-- the same with a file digest, too
abbrev pub with_joined_file : Result PlanFields Fault → VerityJoin → ℕ → ℕ → Result PlanFields Fault
with_joined_file (Err fault) join root_room digest_room = Err fault
with_joined_file (Ok p) join root_room digest_room = if not (root_room == digest_len p.settings) then Err Root
    else (if not (digest_room == digest_len p.settings) then Err Length
    else unless (join_fault (join_builder_of p join)) p)

-- what an answer to a piece of a length says, whatever struct and memory were: all of the piece is taken, or a hash
-- block, which is within the memory, is handed out before its end, or after the part's last byte; and after that byte
-- none is left when none is handed out
pub record TakesPartPiece (p : PlanFields) (before after : VerityPart) (count : ℕ) (fed : VerityFed) : Type 0 where
  pub level_is : after.level ≡ before.level
  pub part_is : after.part ≡ before.part
  pub fed_is : after.fed ≡ before.fed + fed.taken
  pub most : fed.taken ≤ count
  pub block_length : (fed.block_length ≡ 0) ⊎ (fed.block_length ≡ p.settings.hash_block)
  pub none : fed.block_length ≡ 0 → fed ≡ without_block fed.taken
  pub all : fed.block_length ≡ 0 → fed.taken ≡ count
  pub done : fed.block_length ≡ 0 → after.fed ≡ (plan_of_part p before.level before.part).wanted
      → after.closed ≡ before.level
  pub placed : fed.block_length ≢ 0 → IsPlacedOfPart (part_builder_of p after) (block_of fed)
  pub within : fed.block_at + fed.block_length ≤ feeding_length p.settings before.level
  pub waits : fed.block_length ≢ 0
      → (fed.taken < count) ⊎ (after.fed ≡ (plan_of_part p before.level before.part).wanted)
  pub rises : fed.block_length ≢ 0 → fed.taken ≡ 0 → after.closed ≡ before.closed + 1

-- with these bytes fed, a struct hands out the part's next hash block in closing order, or none: its bytes in the
-- memory are those of each tree whose part begins with these bytes, and its start is its place on the whole tree's
-- device
pub record HandsOutOfPart (p : PlanFields) (before after : VerityPart) (bytes memory : List ℕ) (fed : VerityFed)
    : Type 0 where
  pub order : handed_out_of_part p before.level before.part after.fed after.closed
      ≡ handed_out_of_part p before.level before.part before.fed before.closed ++ given_by fed
  pub block : fed.block_length ≢ 0 → IsHandedOutOfPart (part_builder_of p before) bytes memory (block_of fed)

-- the hash block of the part that was handed out last, by what a struct counts; all numbers are 0 if it counts none
-- since the latest byte was fed
abbrev pub last_index_of_part : PlanFields → VerityPart → ℕ
last_index_of_part p part =
    (first_block p part.level part.part + blocks_before p.settings part.fed) / fan p.settings ^ part.closed

abbrev pub last_of_part : PlanFields → VerityPart → VerityFed
last_of_part p part = if (part.fed == 0) || (part.closed == 0) then without_block 0 else record {
  taken = 0;
  block_length = p.settings.hash_block;
  block_at = (part.closed - 1) * p.settings.hash_block;
  block_start = start_byte_of p (part.closed - 1) (last_index_of_part p part);
  block_index = last_index_of_part p part;
  block_level = part.closed - 1;
}

abbrev pub last_of_part_in : Result PlanFields Fault → VerityPart → Result VerityFed Fault
last_of_part_in (Err fault) part = Err fault
last_of_part_in (Ok p) part = Ok (last_of_part p part)

-- with these bytes fed, the hash block that is named stands in the memory and is the tree's; if none is named, none was
-- handed out since the latest byte was fed
pub record StandsLastOfPart (p : PlanFields) (part : VerityPart) (bytes memory : List ℕ) (fed : VerityFed)
    : Type 0 where
  pub none : fed.block_length ≡ 0 → part.closed ≡ 0
  pub block : fed.block_length ≢ 0 → IsHandedOutOfPart (part_builder_of p part) bytes memory (block_of fed)

-- what an answer to so many bytes of digests says, whatever struct and memory were: all are taken, or those up to one
-- with which a hash block closes, which is within the memory and is handed out; and after the last digest none is left
-- when none is handed out
pub record TakesDigests (p : PlanFields) (before after : VerityJoin) (count : ℕ) (fed : VerityFed) : Type 0 where
  pub level_is : after.level ≡ before.level
  pub taken_is : after.taken ≡ before.taken + fed.taken / digest_len p.settings
  pub whole : fed.taken ≡ fed.taken / digest_len p.settings * digest_len p.settings
  pub most : fed.taken ≤ count
  pub block_length : (fed.block_length ≡ 0) ⊎ (fed.block_length ≡ p.settings.hash_block)
  pub none : fed.block_length ≡ 0 → fed ≡ without_block fed.taken
  pub all : fed.block_length ≡ 0 → fed.taken ≡ count
  pub done : fed.block_length ≡ 0 → after.taken ≡ count_under p before.level
      → before.level + after.closed ≡ level_count_of p
  pub placed : fed.block_length ≢ 0 → IsPlacedOfJoin (join_builder_of p after) (block_of fed)
  pub within : fed.block_at + fed.block_length ≤ join_length p before.level
  pub rises : fed.block_length ≢ 0 → fed.taken ≡ 0 → after.closed ≡ before.closed + 1

-- a struct hands out the next hash block of the join in closing order, or none: its bytes in the memory are those of
-- the tree above these bytes, and its start is its place on the device
pub record HandsOutOfJoin (p : PlanFields) (before after : VerityJoin) (bytes memory : List ℕ) (fed : VerityFed)
    : Type 0 where
  pub order : handed_out_of_join p before.level after.taken after.closed
      ≡ handed_out_of_join p before.level before.taken before.closed ++ given_by fed
  pub block : fed.block_length ≢ 0 → IsHandedOutOfJoin (join_builder_of p before) bytes memory (block_of fed)

-- the hash block of the join that was handed out last, by what a struct counts; all numbers are 0 if it counts none
-- since the latest digest was taken
abbrev pub last_index_of_join : PlanFields → VerityJoin → ℕ
last_index_of_join p join = (join.taken - 1) / fan p.settings ^ join.closed

abbrev pub last_of_join : PlanFields → VerityJoin → VerityFed
last_of_join p join = if (join.taken == 0) || (join.closed == 0) then without_block 0 else record {
  taken = 0;
  block_length = p.settings.hash_block;
  block_at = (join.closed - 1) * p.settings.hash_block;
  block_start = start_byte_of p (join.level + join.closed - 1) (last_index_of_join p join);
  block_index = last_index_of_join p join;
  block_level = join.level + join.closed - 1;
}

abbrev pub last_of_join_in : Result PlanFields Fault → VerityJoin → Result VerityFed Fault
last_of_join_in (Err fault) join = Err fault
last_of_join_in (Ok p) join = Ok (last_of_join p join)

-- the hash block that is named stands in the memory and is the one of the tree above these bytes; if none is named,
-- none was handed out since the latest digest was taken
pub record StandsLastOfJoin (p : PlanFields) (join : VerityJoin) (bytes memory : List ℕ) (fed : VerityFed)
    : Type 0 where
  pub none : fed.block_length ≡ 0 → join.closed ≡ 0
  pub block : fed.block_length ≢ 0 → IsHandedOutOfJoin (join_builder_of p join) bytes memory (block_of fed)

-- the digest of the file that these bytes are, if the plan is that of its tree
abbrev pub file_digest_of : Result PlanFields Fault → List ℕ → Result (List ℕ) Fault
file_digest_of (Err fault) bytes = Err fault
file_digest_of (Ok p) bytes = Ok (digest_of_file
    (record { tree = p.settings; size = p.wanted; root = root p.settings (data_blocks p bytes) }))
