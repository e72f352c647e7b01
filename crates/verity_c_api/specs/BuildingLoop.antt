-- The loop that verity.h shows: a tree is built by calls of verity_build_feed, and each hash block that is handed out
-- is written. What such calls have answered, and what is there when the last one hands out none. Of the loop for a
-- file's tree, by calls of fsverity_tree_build_feed, it is said only when it goes on.
use Rattle.std.specs.Prelude.{◌≡◌, ◌≢◌, ◌⊎◌, ◌<◌, ⊤, ℕ, ◌==◌, List, [], ◌∷◌, ◌++◌, length, map, take, drop, Option, Some, None, Ok, IfOk}
use Rattle.std.specs.Prelude.{if◌then◌else◌}
use Rattle.{std.specs.List.flat_map, verity_plan.specs.{Plans.PlanFields, Settings.digest_len}}
use Rattle.{verity_builders.specs.Feeding.{BuildsInCalls, FeedCall, written_all}, verity_c_api.specs.declared.parameters.VerityParams.VerityParams}
use Rattle.verity_blocks.specs.{Levels.{data_blocks, root}, TreeOnDevice.HoldsTree, declared.hash_block.HashBlock.HashBlock}
use Rattle.verity_c_api.specs.Building.{HandsOut, IsFedTo, TakesPiece, block_of, root_in, with_all_fed, with_memory, with_file_memory, with_piece}
use Rattle.verity_c_api.specs.{FileTrees.{TakesFilePiece, with_tree_piece}, Parameters.{fsverity_tree_of, plan_of}, Statuses.{done, status_of}}
use Rattle.verity_c_api.specs.declared.{build.{VerityBuild.VerityBuild, VerityFed.VerityFed}, parameters.FsverityParams.FsverityParams}

-- what is kept between two calls
pub record Kept : Type 0 where
  pub build : VerityBuild
  pub memory : List ℕ

-- what verity_build_begin leaves with status 0: no bytes were fed
pub record IsBegun (params : VerityParams) (kept : Kept) : Type 0 where
  pub status : status_of (with_memory (plan_of params) (length kept.memory)) ≡ done
  pub is_fed : IsFedTo params kept.build kept.memory []

-- one call of verity_build_feed: the piece that it was given, what it has answered, and what is kept after it
pub record FeedingCall : Type 0 where
  pub piece : List ℕ
  pub fed : VerityFed
  pub after : Kept

-- the bytes that it has taken
abbrev pub taken_by : FeedingCall → List ℕ
taken_by call = take call.fed.taken call.piece

-- it has answered with status 0
pub record IsFedBy (params : VerityParams) (before : Kept) (call : FeedingCall) : Type 0 where
  pub status : status_of
      (with_piece (with_memory (plan_of params) (length before.memory)) before.build (length call.piece))
      ≡ done
  pub room : length call.after.memory ≡ length before.memory
  pub takes : IfOk (plan_of params)
      (λ p. TakesPiece p before.build call.after.build (length call.piece) call.fed)
  pub fed : (bytes : List ℕ) → IsFedTo params before.build before.memory bytes
      → IsFedTo params call.after.build call.after.memory (bytes ++ taken_by call)
  pub block : (bytes : List ℕ) → IsFedTo params before.build before.memory bytes
      → IfOk (plan_of params)
      (λ p. HandsOut p before.build call.after.build (bytes ++ taken_by call) call.after.memory call.fed)

-- so have these calls, one after another
unfoldable pub AreFedBy : VerityParams → Kept → List FeedingCall → Kept → Type 0
AreFedBy params before [] after = after ≡ before
AreFedBy params before (call ∷ rest) after = IsFedBy params before call × AreFedBy params call.after rest after

-- the calls that the loop makes for a piece: the first is given the piece, each other what the call before has left of
-- it; the last one hands out none, and each other hands out a hash block
unfoldable pub FeedsPiece : VerityParams → Kept → List ℕ → List FeedingCall → Kept → Type 0
FeedsPiece params before piece [] after = ⊥
FeedsPiece params before piece (call ∷ rest) after = (call.piece ≡ piece) × IsFedBy params before call
    × (((call.fed.block_length ≡ 0) × (rest ≡ []) × (after ≡ call.after))
    ⊎ ((call.fed.block_length ≢ 0) × FeedsPiece params call.after (drop call.fed.taken piece) rest after))

-- calls of the loop that have each handed out a hash block, so that it goes on; struct and memory may be any
unfoldable pub GoesOn : VerityParams → Kept → List ℕ → List FeedingCall → Type 0
GoesOn params before piece [] = ⊤
GoesOn params before piece (call ∷ rest) = (call.piece ≡ piece) × IsFedBy params before call
    × (call.fed.block_length ≢ 0) × GoesOn params call.after (drop call.fed.taken piece) rest

-- a piece, and the calls that feed it
pub record FedPiece : Type 0 where
  pub piece : List ℕ
  pub calls : List FeedingCall

-- pieces are fed by the loop, one after another
unfoldable pub FeedsPieces : VerityParams → Kept → List FedPiece → Kept → Type 0
FeedsPieces params before [] after = after ≡ before
FeedsPieces params before (fed ∷ rest) after = (next : Kept) × FeedsPiece params before fed.piece fed.calls next
    × FeedsPieces params next rest after

-- the data that the pieces are, and the calls that fed them
abbrev pub bytes_of : List FedPiece → List ℕ
bytes_of pieces = flat_map (λ fed. fed.piece) pieces

abbrev pub calls_of : List FedPiece → List FeedingCall
calls_of pieces = flat_map (λ fed. fed.calls) pieces

-- the hash block that a struct hands out, if there is one; its length is that of the plan's hash blocks (TakesPiece)
abbrev pub hash_block_by : VerityFed → Option HashBlock
hash_block_by fed = if fed.block_length == 0 then None else Some (block_of fed)

-- a call in the words of the builder
abbrev pub builder_call : FeedingCall → FeedCall
builder_call call =
    record { taken = taken_by call; hash_block = hash_block_by call.fed; memory = call.after.memory }

-- the calls have built the tree above these bytes. Its hash blocks were handed out in closing order, each once; written
-- where the calls said, they leave a device as building the tree at once does, so that it holds the tree. And
-- verity_build_end answers 0, with the root hash
pub record BuildsTree (params : VerityParams) (p : PlanFields) (bytes : List ℕ) (calls : List FeedingCall)
    (kept : Kept) : Type 0 where
  pub is_fed : IsFedTo params kept.build kept.memory bytes
  pub builds : (device : List ℕ) → BuildsInCalls p bytes (map builder_call calls) device
  pub holds : (device : List ℕ) → HoldsTree p (written_all p (map builder_call calls) device) bytes
      (root p.settings (data_blocks p bytes))
  pub status :
      status_of (with_all_fed (with_memory (plan_of params) (length kept.memory)) kept.build (digest_len p.settings))
      ≡ done
  pub root_is : root_in (plan_of params) bytes ≡ Ok (root p.settings (data_blocks p bytes))

-- fsverity_tree_build_feed has answered with status 0
pub record IsFedTreeBy (params : FsverityParams) (before : Kept) (call : FeedingCall) : Type 0 where
  pub status : status_of (with_tree_piece
      (with_file_memory (fsverity_tree_of params) (length before.memory)) before.build (length call.piece))
      ≡ done
  pub takes : IfOk (fsverity_tree_of params)
      (λ tree. TakesFilePiece tree before.build call.after.build (length call.piece) call.fed)

-- calls of the loop for a file's tree that have each left bytes of the piece, so that it goes on; struct and memory may
-- be any
unfoldable pub TreeGoesOn : FsverityParams → Kept → List ℕ → List FeedingCall → Type 0
TreeGoesOn params before piece [] = ⊤
TreeGoesOn params before piece (call ∷ rest) = (call.piece ≡ piece) × IsFedTreeBy params before call
    × (call.fed.taken < length piece) × TreeGoesOn params call.after (drop call.fed.taken piece) rest
