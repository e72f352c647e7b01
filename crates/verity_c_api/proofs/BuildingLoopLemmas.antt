-- Calls of verity_build_feed build the tree, and so does the loop of verity.h.
use Rattle.std.proofs.Common.{◌≡◌, ℕ, true, false, List, [], ◌∷◌, ◌++◌, length, map, take, drop, Result, Ok, arith, ap, refl, sym, subst, ◌∙◌}
use Rattle.std.proofs.{Common.{append_assoc, inl, inr}, lemmas.{Bool.Decides.nat_tests, Grind.flat_map-append, List.Folds.flat_map-map}}
use Rattle.std.{proofs.lemmas.List.{append-nil, take-append-drop, take_all}, specs.{List.flat_map, Prelude.{◌==◌, nat_lt}}}
use Rattle.{verity_plan.specs.{Plans.PlanFields, PlanCounts.level_count_of, Settings.digest_len}, verity_pass.proofs.PutTree.put-holds}
use Rattle.verity_builders.{proofs.TreeCalls.calls-build, specs.Feeding.{BuildsInCalls, FeedCall, Feeds, FeedsCalls, IsFed, IsHandedOut}}
use Rattle.verity_c_api.proofs.{StatusLemmas.room-of, BuildingLemmas.{IsFedTo-at, given-by, handed-by}, ParameterLemmas.{of_plan, plan-made}}
use Rattle.verity_c_api.specs.{Building.{HandsOut, IsFedTo, TakesPiece, builder_of, memory_length_of, with_all_fed, with_memory}, Parameters.plan_of}
use Rattle.verity_c_api.specs.BuildingLoop.{AreFedBy, BuildsTree, FedPiece, FeedingCall, FeedsPiece, FeedsPieces, IsBegun, IsFedBy, Kept}
use Rattle.verity_c_api.specs.{BuildingLoop.{builder_call, bytes_of, calls_of, hash_block_by, taken_by}, Statuses.{done, status_of}}
use Rattle.verity_c_api.specs.declared.{build.VerityBuild.VerityBuild, fault.Fault.Fault, parameters.VerityParams.VerityParams}
use Rattle.verity_blocks.specs.{ClosingOrder.{BlockIndex, handed_out}, Levels.{data_blocks, root}, TreeOnDevice.HoldsTree}

-- a call is one of the builder
feeds-call : (params : VerityParams) (p : PlanFields) (before : Kept) (call : FeedingCall) (fed : List ℕ)
    → plan_of params ≡ Ok p → IsFedBy params before call → IsFed (builder_of p before.build) before.memory fed
    → Feeds (builder_of p before.build) (builder_of p call.after.build) fed (taken_by call) call.after.memory
    (hash_block_by call.fed)
feeds-call params p before call fed made answered h =
    let was : IsFedTo params before.build before.memory fed = record { plan = p; planned = made; is_fed = h } in
    let after = call.after in
    let bytes = fed ++ taken_by call in
    let hands : HandsOut p before.build after.build bytes after.memory call.fed =
    of_plan (plan_of params) p (λ q. HandsOut q before.build after.build bytes after.memory call.fed) made
    (answered.block fed was) in
    record {
      is_fed = IsFedTo-at params p after.build after.memory bytes made (answered.fed fed was);
      order = hands.order
          ∙ ap (λ (blocks : List BlockIndex). handed_out p before.build.fed before.build.closed ++ blocks)
          (sym (given-by call.fed));
      stands = handed-by call.fed (λ block. IsHandedOut p bytes after.memory block) hands.block;
    }

feeds-calls : (params : VerityParams) (p : PlanFields) (calls : List FeedingCall) (before after : Kept)
    → plan_of params ≡ Ok p → AreFedBy params before calls after
    → FeedsCalls (builder_of p before.build) before.memory (map builder_call calls) (builder_of p after.build)
    after.memory
unfolding AreFedBy FeedsCalls
feeds-calls params p [] before after made fed =
    (ap (λ (k : Kept). builder_of p k.build) fed, ap (λ (k : Kept). k.memory) fed)
feeds-calls params p (call ∷ rest) before after made fed = (
  builder_of p call.after.build,
  refl,
  λ bytes h. feeds-call params p before call bytes made fed.0 h,
  feeds-calls params p rest call.after after made fed.1,
)

-- the memory keeps its length
same-room : (params : VerityParams) (calls : List FeedingCall) (before after : Kept)
    → AreFedBy params before calls after
    → length after.memory ≡ length before.memory
unfolding AreFedBy
same-room params [] before after fed = ap (λ (k : Kept). length k.memory) fed
same-room params (call ∷ rest) before after fed = same-room params rest call.after after fed.1 ∙ fed.0.room

-- what was fed by the calls
fed-joined : (params : VerityParams) (calls : List FeedingCall) (before after : Kept) (bytes : List ℕ)
    → IsFedTo params before.build before.memory bytes → AreFedBy params before calls after
    → IsFedTo params after.build after.memory (bytes ++ flat_map taken_by calls)
unfolding AreFedBy
fed-joined params [] before after bytes h fed =
    rw append-nil (subst (λ (k : Kept). IsFedTo params k.build k.memory bytes) (sym fed) h)
fed-joined params (call ∷ rest) before after bytes h fed =
    rw (← append_assoc) (fed-joined params rest call.after after (bytes ++ taken_by call) (fed.0.fed bytes h) fed.1)

-- some calls after others
fed-append : (params : VerityParams) (xs ys : List FeedingCall) (before mid after : Kept)
    → AreFedBy params before xs mid
    → AreFedBy params mid ys after → AreFedBy params before (xs ++ ys) after
unfolding AreFedBy
fed-append params [] ys before mid after front back =
    subst (λ (k : Kept). AreFedBy params k ys after) front back
fed-append params (call ∷ xs) ys before mid after front back =
    (front.0, fed-append params xs ys call.after mid after front.1 back)

-- a call that hands out none when all bytes were fed has none left
call-closed : (params : VerityParams) (p : PlanFields) (before : Kept) (call : FeedingCall) → plan_of params ≡ Ok p
    → IsFedBy params before call → call.fed.block_length ≡ 0 → call.after.build.fed ≡ p.wanted
    → call.after.build.closed ≡ level_count_of p
call-closed params p before call made answered none all =
    let takes : TakesPiece p before.build call.after.build (length call.piece) call.fed =
    of_plan (plan_of params) p (λ q. TakesPiece q before.build call.after.build (length call.piece) call.fed) made
    answered.takes in
    takes.done none all

last-closed : (params : VerityParams) (p : PlanFields) (calls : List FeedingCall) (last : FeedingCall)
    (before after : Kept)
    → plan_of params ≡ Ok p → AreFedBy params before (calls ++ last ∷ []) after → last.fed.block_length ≡ 0
    → after.build.fed ≡ p.wanted → after.build.closed ≡ level_count_of p
unfolding AreFedBy
last-closed params p [] last before after made fed none all =
    let here : after ≡ last.after = fed.1 in
    ap (λ (k : Kept). k.build.closed) here
    ∙ call-closed params p before last made fed.0 none (sym (ap (λ (k : Kept). k.build.fed) here) ∙ all)
last-closed params p (call ∷ calls) last before after made fed none all =
    last-closed params p calls last call.after after made fed.1 none all

-- a call that is done goes on with the plan, since the memory has its length
memory-of : (made : Result PlanFields Fault) (p : PlanFields) (room : ℕ) → made ≡ Ok p
    → status_of (with_memory made room) ≡ done → with_memory made room ≡ Ok p
memory-of made p room is status = rw is (room-of p memory_length_of room (rw is at status))

-- all was fed and handed out, so there is a root hash
ends : (p : PlanFields) (build : VerityBuild) → build.fed ≡ p.wanted → build.closed ≡ level_count_of p
    → with_all_fed (Ok p) build (digest_len p.settings) ≡ Ok p
ends p build all closed =
    let room : (digest_len p.settings == digest_len p.settings) ≡ true = grind (arith, nat_tests) in
    let levels : nat_lt (level_count_of p) build.closed ≡ false = grind (arith, nat_tests, closed) in
    let most : nat_lt p.wanted build.fed ≡ false = grind (arith, nat_tests, all) in
    let least : nat_lt build.fed p.wanted ≡ false = grind (arith, nat_tests, all) in
    let waits : nat_lt build.closed (level_count_of p) ≡ false = grind (arith, nat_tests, closed) in
    rw (room, levels, most, least, waits) refl

-- calls after which all was fed and handed out have built the tree
pub calls-built : (params : VerityParams) (p : PlanFields) (calls : List FeedingCall) (begun after : Kept)
    → plan_of params ≡ Ok p → IsBegun params begun → AreFedBy params begun calls after
    → after.build.fed ≡ p.wanted → after.build.closed ≡ level_count_of p
    → BuildsTree params p (flat_map taken_by calls) calls after
calls-built params p calls begun after made begins fed all closed =
    let planned = (plan-made params p made).planned in
    let bytes = flat_map taken_by calls in
    let none : IsFed (builder_of p begun.build) begun.memory [] =
    IsFedTo-at params p begun.build begun.memory [] made begins.is_fed in
    let is_fed : IsFedTo params after.build after.memory bytes =
    fed-joined params calls begun after [] begins.is_fed fed in
    let same : flat_map (λ (call : FeedCall). call.taken) (map builder_call calls) ≡ bytes =
    flat_map-map (λ (call : FeedCall). call.taken) builder_call calls in
    let builds : (device : List ℕ) → BuildsInCalls p bytes (map builder_call calls) device =
    λ device. subst (λ (all_taken : List ℕ). BuildsInCalls p all_taken (map builder_call calls) device) same
    (calls-build (builder_of p begun.build) (builder_of p after.build) begun.memory after.memory device
    (map builder_call calls) planned none (feeds-calls params p calls begun after made fed) all closed).1 in
    let count : length bytes ≡ after.build.fed = is_fed.is_fed.count in
    let room : with_memory (plan_of params) (length after.memory) ≡ Ok p =
    ap (with_memory (plan_of params)) (same-room params calls begun after fed)
    ∙ memory-of (plan_of params) p (length begun.memory) made begins.status in
    record {
      is_fed = is_fed;
      builds = builds;
      holds = λ device.
          subst (λ (left : List ℕ). HoldsTree p left bytes (root p.settings (data_blocks p bytes)))
          (sym (builds device).stands) (put-holds p bytes device planned (omega (arith, count, all)));
      status =
          ap
          (λ (plan : Result PlanFields Fault). status_of (with_all_fed plan after.build (digest_len p.settings))) room
          ∙ ap (λ (plan : Result PlanFields Fault). status_of plan) (ends p after.build all closed);
      root_is = rw made refl;
    }

-- the calls that the loop makes for a piece take all of it
record FeedsWhole (params : VerityParams) (p : PlanFields) (before : Kept) (piece : List ℕ) (calls : List FeedingCall)
    (after : Kept) : Type 0 where
  fed : AreFedBy params before calls after
  taken : flat_map taken_by calls ≡ piece
  closed : after.build.fed ≡ p.wanted → after.build.closed ≡ level_count_of p

piece-fed : (params : VerityParams) (p : PlanFields) (calls : List FeedingCall) (before after : Kept) (piece : List ℕ)
    → plan_of params ≡ Ok p → FeedsPiece params before piece calls after → FeedsWhole params p before piece calls after
unfolding AreFedBy FeedsPiece
piece-fed params p [] before after piece made h = absurd h
piece-fed params p (call ∷ rest) before after piece made h =
    elim h.2 [
      | inl ends_here ↦
          let takes : TakesPiece p before.build call.after.build (length call.piece) call.fed =
          of_plan (plan_of params) p (λ q. TakesPiece q before.build call.after.build (length call.piece) call.fed) made
          h.1.takes in
          let all : take call.fed.taken call.piece ≡ piece =
          ap (λ (n : ℕ). take n call.piece) (takes.all ends_here.0)
          ∙ take_all (length call.piece) call.piece (omega arith) ∙ h.0 in
          record {
            fed = rw ends_here.1 (h.1, ends_here.2);
            taken = rw (ends_here.1, append-nil) all;
            closed = λ whole.
                ap (λ (k : Kept). k.build.closed) ends_here.2
                ∙ call-closed params p before call made h.1 ends_here.0
                (sym (ap (λ (k : Kept). k.build.fed) ends_here.2) ∙ whole);
          }
      | inr goes_on ↦
          let more = piece-fed params p rest call.after after (drop call.fed.taken piece) made goes_on.1 in
          record {
            fed = (h.1, more.fed);
            taken = ap (λ (xs : List ℕ). take call.fed.taken xs ++ flat_map taken_by rest) h.0
                ∙ ap (λ (xs : List ℕ). take call.fed.taken piece ++ xs) more.taken
                ∙ take-append-drop call.fed.taken piece;
            closed = more.closed;
          }
    ]

-- and so do those for all pieces
pieces-fed : (params : VerityParams) (p : PlanFields) (pieces : List FedPiece) (before after : Kept)
    → plan_of params ≡ Ok p → FeedsPieces params before pieces after
    → AreFedBy params before (calls_of pieces) after × (flat_map taken_by (calls_of pieces) ≡ bytes_of pieces)
unfolding AreFedBy FeedsPieces
pieces-fed params p [] before after made h = (h, refl)
pieces-fed params p (fed ∷ rest) before after made h =
    let first = piece-fed params p fed.calls before h.0 fed.piece made h.1 in
    let others = pieces-fed params p rest h.0 after made h.2 in (
      fed-append params fed.calls (calls_of rest) before h.0 after first.fed others.0,
      flat_map-append taken_by fed.calls (calls_of rest)
          ∙ ap (λ (xs : List ℕ). xs ++ flat_map taken_by (calls_of rest)) first.taken
          ∙ ap (λ (xs : List ℕ). fed.piece ++ xs) others.1,
    )

-- after the last of them no hash block is left
pieces-closed : (params : VerityParams) (p : PlanFields) (rest : List FedPiece) (fed : FedPiece) (before after : Kept)
    → plan_of params ≡ Ok p → FeedsPieces params before (fed ∷ rest) after → after.build.fed ≡ p.wanted
    → after.build.closed ≡ level_count_of p
unfolding FeedsPieces
pieces-closed params p [] fed before after made h all =
    let first = piece-fed params p fed.calls before h.0 fed.piece made h.1 in
    ap (λ (k : Kept). k.build.closed) h.2 ∙ first.closed (sym (ap (λ (k : Kept). k.build.fed) h.2) ∙ all)
pieces-closed params p (next ∷ rest) fed before after made h all =
    pieces-closed params p rest next h.0 after made h.2 all

pub last-built : (params : VerityParams) (p : PlanFields) (begun after : Kept) (calls : List FeedingCall)
    (last : FeedingCall) → plan_of params ≡ Ok p → IsBegun params begun
    → AreFedBy params begun (calls ++ last ∷ []) after → last.fed.block_length ≡ 0 → after.build.fed ≡ p.wanted
    → BuildsTree params p (flat_map taken_by (calls ++ last ∷ [])) (calls ++ last ∷ []) after
last-built params p begun after calls last made begins fed none all =
    calls-built params p (calls ++ last ∷ []) begun after made begins fed all
    (last-closed params p calls last begun after made fed none all)

pub pieces-built : (params : VerityParams) (p : PlanFields) (begun after : Kept) (pieces : List FedPiece)
    → plan_of params ≡ Ok p → IsBegun params begun → FeedsPieces params begun pieces after
    → length (bytes_of pieces) ≡ p.wanted
    → BuildsTree params p (bytes_of pieces) (calls_of pieces) after
pieces-built params p begun after [] made begins h whole =
    absurd (omega (arith, whole, (plan-made params p made).planned.some))
pieces-built params p begun after (fed ∷ rest) made begins h whole =
    let calls = calls_of (fed ∷ rest) in
    let all_fed = pieces-fed params p (fed ∷ rest) begun after made h in
    let is_fed : IsFedTo params after.build after.memory (flat_map taken_by calls) =
    fed-joined params calls begun after [] begins.is_fed all_fed.0 in
    let count : after.build.fed ≡ p.wanted =
    sym is_fed.is_fed.count ∙ ap length all_fed.1 ∙ whole in
    subst (λ (bytes : List ℕ). BuildsTree params p bytes calls after) all_fed.1
    (calls-built params p calls begun after made begins all_fed.0 count
    (pieces-closed params p rest fed begun after made h count))
