-- The calls that verity.h shows for parts: a tree is built from parts by calls of verity_part_feed for each of them,
-- apart from the others, and joined by calls of verity_join_feed; and each hash block that is handed out is written.
-- What such calls have answered, and what is there when the last ones hand out none; also when their loops go on, and
-- what may be written besides if a part was given up. The plan is what parameters of either format make: so all this is
-- said of the functions whose names begin with verity_, and of those whose names begin with fsverity_.
use Rattle.std.specs.Prelude.{◌≡◌, ◌≢◌, ◌⊎◌, ◌<◌, ⊤, ℕ, ℤ, List, [], ◌∷◌, ◌++◌, length, map, take, drop, Result, Ok, IfOk}
use Rattle.{std.specs.List.{Contains, flat_map, range_with_len}, verity_format.specs.Descriptors.digest_of_file}
use Rattle.verity_plan.specs.{Plans.PlanFields, PlanCounts.count_under, Settings.{digest_len, fan}}
use Rattle.verity_blocks.specs.{ClosingOrder.{closed_after, times}, Levels.{data_blocks, root}, TreeOnDevice.HoldsTree, TreeWriting.tree_on_device}
use Rattle.verity_c_api.specs.{Building.root_in, BuildingLoop.hash_block_by, Statuses.{done, status_of}, declared.build.VerityFed.VerityFed}
use Rattle.verity_c_api.specs.Parts.{AreNextDigests, HandsOutOfJoin, HandsOutOfPart, IsDigestOfFed, IsFedPartTo, IsJoinedTo, TakesDigests}
use Rattle.verity_c_api.specs.Parts.{TakesPartPiece, begun_join, begun_part, file_digest_of, join_builder_of, part_builder_of, with_digests}
use Rattle.verity_c_api.specs.Parts.{with_join_memory, with_joined, with_joined_file, with_part_fed, with_part_memory, with_part_piece}
use Rattle.verity_c_api.specs.declared.{build.{VerityJoin.VerityJoin, VerityPart.VerityPart}, fault.Fault.Fault}
use Rattle.verity_builders.specs.{Feeding.{FeedCall, given, written_all}, Parts.{JoinInCalls, PartInCalls, bytes_of_part, digest_of_part}}

-- what is kept of a part between two calls
pub record KeptPart : Type 0 where
  pub part : VerityPart
  pub memory : List ℕ

-- what verity_part_begin leaves with status 0: no bytes were fed
pub record IsBegunPart (made : Result PlanFields Fault) (level part : ℕ) (kept : KeptPart) : Type 0 where
  pub status : status_of (with_part_memory made level part (length kept.memory)) ≡ done
  pub begun : kept.part ≡ begun_part level part
  pub is_fed : IsFedPartTo made kept.part kept.memory []

-- one call of verity_part_feed: the piece that it was given, what it has answered, and what is kept after it
pub record PartCall : Type 0 where
  pub piece : List ℕ
  pub fed : VerityFed
  pub after : KeptPart

-- the bytes that it has taken
abbrev pub bytes_taken_by : PartCall → List ℕ
bytes_taken_by call = take call.fed.taken call.piece

-- it has answered with status 0
pub record IsFedPartBy (made : Result PlanFields Fault) (before : KeptPart) (call : PartCall) : Type 0 where
  pub status : status_of (with_part_piece
      (with_part_memory made before.part.level before.part.part (length before.memory)) before.part (length call.piece))
      ≡ done
  pub room : length call.after.memory ≡ length before.memory
  pub takes : IfOk made (λ p. TakesPartPiece p before.part call.after.part (length call.piece) call.fed)
  pub fed : (bytes : List ℕ) → IsFedPartTo made before.part before.memory bytes
      → IsFedPartTo made call.after.part call.after.memory (bytes ++ bytes_taken_by call)
  pub block : (bytes : List ℕ) → IsFedPartTo made before.part before.memory bytes
      → IfOk made
      (λ p. HandsOutOfPart p before.part call.after.part (bytes ++ bytes_taken_by call) call.after.memory call.fed)

-- so have these calls, one after another
unfoldable pub AreFedPartBy : Result PlanFields Fault → KeptPart → List PartCall → Type 0
AreFedPartBy made before [] = ⊤
AreFedPartBy made before (call ∷ rest) = IsFedPartBy made before call × AreFedPartBy made call.after rest

-- calls of the loop that have each handed out a hash block, so that it goes on; struct and memory may be any
unfoldable pub PartGoesOn : Result PlanFields Fault → KeptPart → List ℕ → List PartCall → Type 0
PartGoesOn made before piece [] = ⊤
PartGoesOn made before piece (call ∷ rest) = (call.piece ≡ piece) × IsFedPartBy made before call
    × (call.fed.block_length ≢ 0) × PartGoesOn made call.after (drop call.fed.taken piece) rest

-- the status of verity_part_end, with room for so many bytes of a digest
abbrev pub part_end_status : Result PlanFields Fault → KeptPart → ℕ → ℤ
part_end_status made kept room = status_of
    (with_part_fed (with_part_memory made kept.part.level kept.part.part (length kept.memory)) kept.part room)

-- the bytes that verity_part_end leaves where there is room for just a digest: with status 0 they are the part's digest
pub record IsLeftByPartEnd (made : Result PlanFields Fault) (kept : KeptPart) (digest : List ℕ) : Type 0 where
  pub room : IfOk made (λ p. length digest ≡ digest_len p.settings)
  pub digest_is : (bytes : List ℕ) → IsFedPartTo made kept.part kept.memory bytes
      → part_end_status made kept (length digest) ≡ done → IsDigestOfFed made kept.part bytes digest

-- the calls for one part: what verity_part_begin left, the calls of verity_part_feed, the last one by itself, and what
-- verity_part_end left after them
pub record PartCalls : Type 0 where
  pub begun : KeptPart
  pub calls : List PartCall
  pub last : PartCall
  pub digest : List ℕ

abbrev pub feeding_calls : PartCalls → List PartCall
feeding_calls part = part.calls ++ part.last ∷ []

-- they have taken these bytes, and the last one hands out no hash block
pub record AreCallsOfPart (made : Result PlanFields Fault) (level number : ℕ) (bytes : List ℕ)
    (part : PartCalls) : Type 0 where
  pub begins : IsBegunPart made level number part.begun
  pub feeds : AreFedPartBy made part.begun (feeding_calls part)
  pub none_left : part.last.fed.block_length ≡ 0
  pub bytes_are : flat_map bytes_taken_by (feeding_calls part) ≡ bytes
  pub ends : IsLeftByPartEnd made part.last.after part.digest

-- a call of verity_part_feed for a part of a level, after calls from the part's first byte on, in a run that was perhaps
-- given up after it
pub record IsCallForPart (p : PlanFields) (level : ℕ) (bytes : List ℕ) (call : PartCall) : Type 0 where
  pub number : ℕ
  pub begun : KeptPart
  pub before : List PartCall
  pub begins : IsBegunPart (Ok p) level number begun
  pub feeds : AreFedPartBy (Ok p) begun (before ++ call ∷ [])
  pub rest : List ℕ
  pub bytes_are : flat_map bytes_taken_by (before ++ call ∷ []) ++ rest ≡ bytes_of_part p level number bytes

-- what is kept of a join between two calls
pub record KeptJoin : Type 0 where
  pub join : VerityJoin
  pub memory : List ℕ

-- what verity_join_begin leaves with status 0: no digest was taken
pub record IsBegunJoin (made : Result PlanFields Fault) (level : ℕ) (kept : KeptJoin) : Type 0 where
  pub status : status_of (with_join_memory made level (length kept.memory)) ≡ done
  pub begun : kept.join ≡ begun_join level
  pub is_joined : (bytes : List ℕ) → IsJoinedTo made kept.join kept.memory bytes

-- one call of verity_join_feed: the digests that it was given, one after another, what it has answered, and what is
-- kept after it
pub record JoinCall : Type 0 where
  pub digests : List ℕ
  pub fed : VerityFed
  pub after : KeptJoin

-- the digests that it has taken
abbrev pub digests_taken_by : JoinCall → List ℕ
digests_taken_by call = take call.fed.taken call.digests

-- it has answered with status 0
pub record IsJoinedBy (made : Result PlanFields Fault) (before : KeptJoin) (call : JoinCall) : Type 0 where
  pub status : status_of (with_digests
      (with_join_memory made before.join.level (length before.memory)) before.join (length call.digests)) ≡ done
  pub room : length call.after.memory ≡ length before.memory
  pub takes : IfOk made (λ p. TakesDigests p before.join call.after.join (length call.digests) call.fed)
  pub joined : (bytes : List ℕ) → IsJoinedTo made before.join before.memory bytes
      → AreNextDigests made before.join (digests_taken_by call) bytes
      → IsJoinedTo made call.after.join call.after.memory bytes
  pub block : (bytes : List ℕ) → IsJoinedTo made before.join before.memory bytes
      → AreNextDigests made before.join (digests_taken_by call) bytes
      → IfOk made (λ p. HandsOutOfJoin p before.join call.after.join bytes call.after.memory call.fed)

-- so have these calls, one after another
unfoldable pub AreJoinedBy : Result PlanFields Fault → KeptJoin → List JoinCall → Type 0
AreJoinedBy made before [] = ⊤
AreJoinedBy made before (call ∷ rest) = IsJoinedBy made before call × AreJoinedBy made call.after rest

-- calls of the loop that have each handed out a hash block, so that it goes on; struct and memory may be any
unfoldable pub JoinGoesOn : Result PlanFields Fault → KeptJoin → List ℕ → List JoinCall → Type 0
JoinGoesOn made before digests [] = ⊤
JoinGoesOn made before digests (call ∷ rest) = (call.digests ≡ digests) × IsJoinedBy made before call
    × (call.fed.block_length ≢ 0) × JoinGoesOn made call.after (drop call.fed.taken digests) rest

-- the calls for the join: what verity_join_begin left, and the calls of verity_join_feed, the last one by itself
pub record JoinCalls : Type 0 where
  pub begun : KeptJoin
  pub calls : List JoinCall
  pub last : JoinCall

abbrev pub joining_calls : JoinCalls → List JoinCall
joining_calls join = join.calls ++ join.last ∷ []

-- they have taken these digests, and the last one hands out no hash block
pub record AreCallsOfJoin (made : Result PlanFields Fault) (level : ℕ) (digests : List ℕ)
    (join : JoinCalls) : Type 0 where
  pub begins : IsBegunJoin made level join.begun
  pub joins : AreJoinedBy made join.begun (joining_calls join)
  pub none_left : join.last.fed.block_length ≡ 0
  pub digests_are : flat_map digests_taken_by (joining_calls join) ≡ digests

-- the status of verity_join_end, with room for so many bytes of a root hash, and that of fsverity_join_end, with room
-- for a file digest too
abbrev pub join_end_status : Result PlanFields Fault → KeptJoin → ℕ → ℤ
join_end_status made kept room =
    status_of (with_joined (with_join_memory made kept.join.level (length kept.memory)) kept.join room)

abbrev pub file_join_end_status : Result PlanFields Fault → KeptJoin → ℕ → ℕ → ℤ
file_join_end_status made kept root_room digest_room = status_of
    (with_joined_file (with_join_memory made kept.join.level (length kept.memory)) kept.join root_room digest_room)

-- calls in the words of the builders
abbrev pub part_builder_call : PartCall → FeedCall
part_builder_call call =
    record { taken = bytes_taken_by call; hash_block = hash_block_by call.fed; memory = call.after.memory }

abbrev pub join_builder_call : JoinCall → FeedCall
join_builder_call call =
    record { taken = digests_taken_by call; hash_block = hash_block_by call.fed; memory = call.after.memory }

abbrev pub part_in_calls : PlanFields → PartCalls → PartInCalls
part_in_calls p part = record {
  begun = part_builder_of p part.begun.part;
  memory = part.begun.memory;
  calls = map part_builder_call (feeding_calls part);
  after = part_builder_of p part.last.after.part;
  memory_after = part.last.after.memory;
  digest = part.digest;
}

abbrev pub join_in_calls : PlanFields → JoinCalls → List ℕ → JoinInCalls
join_in_calls p join root_hash = record {
  begun = join_builder_of p join.begun.join;
  memory = join.begun.memory;
  calls = map join_builder_call (joining_calls join);
  after = join_builder_of p join.last.after.join;
  memory_after = join.last.after.memory;
  root_hash = root_hash;
}

-- the digests of the first parts, one after another, as verity_part_end left them
abbrev pub digests_of : ℕ → (ℕ → PartCalls) → List ℕ
digests_of count parts = flat_map (λ number. (parts number).digest) (range_with_len 0 count)

-- the calls that hand out hash blocks, of the first parts and of the join
abbrev pub calls_of_all : ℕ → (ℕ → PartCalls) → JoinCalls → List FeedCall
calls_of_all count parts join =
    flat_map (λ number. map part_builder_call (feeding_calls (parts number))) (range_with_len 0 count)
    ++ map join_builder_call (joining_calls join)

-- these are the calls of all parts and of the join, in whatever order and each as often as one likes, and perhaps calls
-- for parts that were given up
pub record AreWrites (p : PlanFields) (level : ℕ) (bytes : List ℕ) (parts : ℕ → PartCalls) (join : JoinCalls)
    (writes : List FeedCall) : Type 0 where
  pub all : (call : FeedCall) → Contains (calls_of_all (count_under p level) parts join) call → Contains writes call
  pub only : (call : FeedCall) → Contains writes call
      → Contains (calls_of_all (count_under p level) parts join) call
      ⊎ ((again : PartCall) × IsCallForPart p level bytes again × (call ≡ part_builder_call again))

-- the calls have built the tree above these bytes from the parts of a level. verity_part_end answers 0 for each part,
-- with its digest. Each hash block was handed out once. Written where the calls said, in whatever order and as often as
-- one likes, also where a part was given up and built again, they leave a device as building the tree at once does, so
-- that it holds the tree. And verity_join_end answers 0, with the root hash, or fsverity_join_end, with the file digest
-- too
pub record BuildsTreeFromParts (made : Result PlanFields Fault) (p : PlanFields) (level : ℕ) (bytes : List ℕ)
    (parts : ℕ → PartCalls) (join : JoinCalls) : Type 0 where
  pub part_status : (number : ℕ) → number < count_under p level
      → part_end_status made (parts number).last.after (digest_len p.settings) ≡ done
  pub digest_is : (number : ℕ) → number < count_under p level
      → (parts number).digest ≡ digest_of_part p level number bytes
  pub is_joined : IsJoinedTo made join.last.after.join join.last.after.memory bytes
  pub once : (l j : ℕ)
      → times l j (flat_map (λ call. given call.hash_block) (calls_of_all (count_under p level) parts join))
      ≡ times l j (closed_after (fan p.settings) p.blocks p.blocks)
  pub stands : (writes : List FeedCall) (device : List ℕ) → AreWrites p level bytes parts join writes
      → written_all p writes device ≡ tree_on_device p (data_blocks p bytes) device
  pub holds : (writes : List FeedCall) (device : List ℕ) → AreWrites p level bytes parts join writes
      → HoldsTree p (written_all p writes device) bytes (root p.settings (data_blocks p bytes))
  pub status : join_end_status made join.last.after (digest_len p.settings) ≡ done
  pub root_is : root_in made bytes ≡ Ok (root p.settings (data_blocks p bytes))
  pub file_status :
      file_join_end_status made join.last.after (digest_len p.settings) (digest_len p.settings) ≡ done
  pub file_digest_is : file_digest_of made bytes ≡ Ok (digest_of_file
      (record { tree = p.settings; size = p.wanted; root = root p.settings (data_blocks p bytes) }))
