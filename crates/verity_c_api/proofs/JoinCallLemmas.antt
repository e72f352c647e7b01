-- Calls of verity_join_feed join the parts of a tree. All this is said of a plan that was made.
use Rattle.std.proofs.Common.{◌≡◌, ℕ, ◌+◌, ◌*◌, ◌<◌, ◌≤◌, Bool, true, false, List, [], ◌∷◌, ◌++◌, length, map, Result, Ok, Err, if◌then◌else◌, arith}
use Rattle.std.proofs.{Common.{ap, refl, sym, ◌∙◌, append_assoc, length-append}, lemmas.{Bool.Decides.nat_tests, List.{append-nil, length-take-le}}}
use Rattle.std.{proofs.{lemmas.List.Folds.flat_map-map, Math.Nat.le_of_mul-le-mul_right}, specs.List.{flat_map, range_with_len}}
use Rattle.{std.specs.Prelude.{◌==◌, ◌||◌, nat_lt, slice_index_or}, verity_blocks.specs.ClosingOrder.BlockIndex}
use Rattle.verity_plan.{specs.{Plans.PlanFields, PlanCounts.{level_count_of, count_under}, Settings.digest_len}, proofs.FanLemmas.digest_len_of-pos}
use Rattle.verity_blocks.{specs.Levels.{data_blocks, root}, proofs.{OpenBlocks.OpenBlock.length-hash, JoinedLists.length-pieces}}
use Rattle.verity_builders.specs.Parts.{AreDigests, BuildsJoinInCalls, PartInCalls, IsHandedOutOfJoin, IsJoined, Joins, JoinsCalls, blocks_under}
use Rattle.verity_builders.{specs.Parts.{counts_none_closed, digest_of_part, handed_out_of_join, join_length}, proofs.PartCalls.run-digests}
use Rattle.verity_c_api.{specs.BuildingLoop.hash_block_by, proofs.{BuildingLemmas.{given-by, handed-by}, StatusLemmas.{fault-not_done, room-of}}}
use Rattle.verity_c_api.specs.{Parts.{if_room, join_builder_of, with_join_memory, with_joined, with_joined_file}, Statuses.{done, status_of}}
use Rattle.verity_c_api.specs.PartsLoop.{AreJoinedBy, IsJoinedBy, JoinCall, JoinCalls, KeptJoin, AreCallsOfJoin, digests_taken_by}
use Rattle.verity_c_api.specs.PartsLoop.{file_join_end_status, join_builder_call, join_end_status, join_in_calls, joining_calls}
use Rattle.{verity_c_api.specs.declared.{build.VerityJoin.VerityJoin, fault.Fault.Fault}, verity_builders.specs.Feeding.FeedCall}
use Rattle.verity_c_api.specs.declared.fault.Fault.TheVariants as fault

-- with the memory of a join, the plan has the level, or one level fewer
record HasLevel (p : PlanFields) (level room : ℕ) : Type 0 where
  most : level ≤ level_count_of p
  memory : with_join_memory (Ok p) level room ≡ Ok p

join-room : (p : PlanFields) (level room : ℕ) → status_of (with_join_memory (Ok p) level room) ≡ done
    → HasLevel p level room
join-room p level room status = by_test (nat_lt (level_count_of p) level) refl status
  where
    by_test : (above : Bool) → nat_lt (level_count_of p) level ≡ above
        → status_of (if_room (if above then Err fault.Level else Ok p) (λ q. join_length q level) room) ≡ done
        → HasLevel p level room
    by_test true test e = absurd (fault-not_done fault.Level (sym e))
    by_test false test e = record {
      most = grind (arith, nat_tests, test);
      memory = rw test (room-of p (λ (q : PlanFields). join_length q level) room e);
    }

-- a call is one of the builder
joins-call : (p : PlanFields) (before : KeptJoin) (call : JoinCall) (bytes : List ℕ) → IsJoinedBy (Ok p) before call
    → IsJoined (join_builder_of p before.join) before.memory bytes
    → AreDigests p before.join.level before.join.taken (digests_taken_by call) bytes
    → Joins (join_builder_of p before.join) (join_builder_of p call.after.join) bytes call.after.memory
    (hash_block_by call.fed)
joins-call p before call bytes answered h digests =
    let hands = answered.block bytes h digests in
    record {
      is_joined = answered.joined bytes h digests;
      order = hands.order
          ∙ ap (λ (blocks : List BlockIndex). handed_out_of_join p before.join.level before.join.taken
          before.join.closed ++ blocks) (sym (given-by call.fed));
      stands = handed-by call.fed
          (λ block. IsHandedOutOfJoin (join_builder_of p before.join) bytes call.after.memory block) hands.block;
    }

-- how many bytes of digests were taken
joins-count : (p : PlanFields) (before : KeptJoin) (call : JoinCall) → IsJoinedBy (Ok p) before call
    → call.after.join.taken * digest_len p.settings
    ≡ before.join.taken * digest_len p.settings + length (digests_taken_by call)
joins-count p before call answered =
    let takes = answered.takes in
    let count : length (digests_taken_by call) ≡ call.fed.taken =
    length-take-le call.fed.taken call.digests takes.most in
    ap (λ (n : ℕ). n * digest_len p.settings) takes.taken_is ∙ omega (arith, count, takes.whole)

-- the digests of all parts, one after another, in the tree above some bytes
abbrev pub all_digests : PlanFields → ℕ → List ℕ → List ℕ
all_digests p level bytes =
    flat_map (λ part. digest_of_part p level part bytes) (range_with_len 0 (count_under p level))

-- some calls, of which the last one is by itself
record JoinParts (p : PlanFields) (before : KeptJoin) (calls : List JoinCall) (last : JoinCall)
    (bytes : List ℕ) : Type 0 where
  joins : JoinsCalls (join_builder_of p before.join) before.memory (map join_builder_call (calls ++ last ∷ []))
      (join_builder_of p last.after.join) last.after.memory
  is_joined : IsJoined (join_builder_of p last.after.join) last.after.memory bytes
  count : last.after.join.taken * digest_len p.settings ≡ length (all_digests p before.join.level bytes)
  level_is : last.after.join.level ≡ before.join.level
  room : length last.after.memory ≡ length before.memory
  closed : last.fed.block_length ≡ 0 → last.after.join.taken ≡ count_under p before.join.level
      → before.join.level + last.after.join.closed ≡ level_count_of p

join-parts : (p : PlanFields) (before : KeptJoin) (calls : List JoinCall) (last : JoinCall) (done_before bytes : List ℕ)
    → AreJoinedBy (Ok p) before (calls ++ last ∷ [])
    → IsJoined (join_builder_of p before.join) before.memory bytes
    → length done_before ≡ before.join.taken * digest_len p.settings
    → all_digests p before.join.level bytes ≡ done_before ++ flat_map digests_taken_by (calls ++ last ∷ [])
    → JoinParts p before calls last bytes
unfolding AreJoinedBy JoinsCalls
join-parts p before [] last done_before bytes answered h start all =
    let takes = answered.0.takes in
    let digests : AreDigests p before.join.level before.join.taken (digests_taken_by last) bytes =
    run-digests p before.join.level before.join.taken bytes done_before (digests_taken_by last) [] start all in
    let whole : all_digests p before.join.level bytes ≡ done_before ++ digests_taken_by last = rw append-nil at all in
    let count = joins-count p before last answered.0 in
    record {
      joins = (
        join_builder_of p last.after.join,
        refl,
        takes.level_is,
        count,
        λ more g next. joins-call p before last more answered.0 g next,
        (refl, refl),
      );
      is_joined = answered.0.joined bytes h digests;
      count = count
          ∙ omega (arith, start, ap length whole, length-append done_before (digests_taken_by last));
      level_is = takes.level_is;
      room = answered.0.room;
      closed = takes.done;
    }
join-parts p before (call ∷ rest) last done_before bytes answered h start all =
    let takes = answered.0.takes in
    let taken = digests_taken_by call in
    let digests : AreDigests p before.join.level before.join.taken taken bytes =
    run-digests p before.join.level before.join.taken bytes done_before taken
    (flat_map digests_taken_by (rest ++ last ∷ [])) start all in
    let count = joins-count p before call answered.0 in
    let longer : length (done_before ++ taken) ≡ call.after.join.taken * digest_len p.settings =
    length-append done_before taken ∙ omega (arith, start, count) in
    let split : all_digests p call.after.join.level bytes
    ≡ (done_before ++ taken) ++ flat_map digests_taken_by (rest ++ last ∷ []) =
    ap (λ (level : ℕ). all_digests p level bytes) takes.level_is
    ∙ all
    ∙ sym (append_assoc done_before taken (flat_map digests_taken_by (rest ++ last ∷ []))) in
    let goes_on = join-parts p call.after rest last (done_before ++ taken) bytes answered.1
    (answered.0.joined bytes h digests) longer split in
    record {
      joins = (
        join_builder_of p call.after.join,
        refl,
        takes.level_is,
        count,
        λ more g next. joins-call p before call more answered.0 g next,
        goes_on.joins,
      );
      is_joined = goes_on.is_joined;
      count = goes_on.count ∙ ap (λ (level : ℕ). length (all_digests p level bytes)) takes.level_is;
      level_is = goes_on.level_is ∙ takes.level_is;
      room = goes_on.room ∙ answered.0.room;
      closed = rw takes.level_is at goes_on.closed;
    }

-- when all levels were handed out, none is open that no call leaves open
none-open : (p : PlanFields) (join : VerityJoin) → join.level + join.closed ≡ level_count_of p
    → (nat_lt (level_count_of p) (join.level + join.closed) || counts_none_closed (join_builder_of p join)) ≡ false
none-open p join closed = grind (arith, nat_tests, closed)

-- all was taken and handed out, so there is a root hash
join-done : (p : PlanFields) (join : VerityJoin) → join.taken ≡ count_under p join.level
    → join.level + join.closed ≡ level_count_of p → with_joined (Ok p) join (digest_len p.settings) ≡ Ok p
join-done p join all closed =
    let fits : (digest_len p.settings == digest_len p.settings) ≡ true = grind (arith, nat_tests) in
    let levels = none-open p join closed in
    let more : nat_lt (count_under p join.level) join.taken ≡ false = grind (arith, nat_tests, all) in
    let less : nat_lt join.taken (count_under p join.level) ≡ false = grind (arith, nat_tests, all) in
    let waits : nat_lt (join.level + join.closed) (level_count_of p) ≡ false = grind (arith, nat_tests, closed) in
    rw (fits, levels, more, less, waits) refl

file-join-done : (p : PlanFields) (join : VerityJoin) → join.taken ≡ count_under p join.level
    → join.level + join.closed ≡ level_count_of p
    → with_joined_file (Ok p) join (digest_len p.settings) (digest_len p.settings) ≡ Ok p
file-join-done p join all closed =
    let fits : (digest_len p.settings == digest_len p.settings) ≡ true = grind (arith, nat_tests) in
    let levels = none-open p join closed in
    let more : nat_lt (count_under p join.level) join.taken ≡ false = grind (arith, nat_tests, all) in
    let less : nat_lt join.taken (count_under p join.level) ≡ false = grind (arith, nat_tests, all) in
    let waits : nat_lt (join.level + join.closed) (level_count_of p) ≡ false = grind (arith, nat_tests, closed) in
    rw (fits, levels, more, less, waits) refl

-- the calls for the join have joined the parts, and at its end there is a root hash
pub record IsJoinBuilt (p : PlanFields) (level : ℕ) (bytes : List ℕ) (parts : ℕ → PartInCalls) (join : JoinCalls)
    : Type 0 where
  pub level_most : level ≤ level_count_of p
  pub builds : BuildsJoinInCalls p level bytes parts (join_in_calls p join (root p.settings (data_blocks p bytes)))
  pub is_joined : IsJoined (join_builder_of p join.last.after.join) join.last.after.memory bytes
  pub status : join_end_status (Ok p) join.last.after (digest_len p.settings) ≡ done
  pub file_status :
      file_join_end_status (Ok p) join.last.after (digest_len p.settings) (digest_len p.settings) ≡ done

pub join-built : (p : PlanFields) (level : ℕ) (bytes : List ℕ) (runs : ℕ → PartInCalls) (join : JoinCalls)
    → flat_map (λ part. (runs part).digest) (range_with_len 0 (count_under p level)) ≡ all_digests p level bytes
    → AreCallsOfJoin (Ok p) level (all_digests p level bytes) join → IsJoinBuilt p level bytes runs join
join-built p level bytes runs join digests taken =
    let begun = join.begun in
    let kept = join.last.after in
    let size = digest_len p.settings in
    let parts = count_under p level in
    let begun_level : begun.join.level ≡ level = ap (λ (k : VerityJoin). k.level) taken.begins.begun in
    let begun_taken : begun.join.taken ≡ 0 = ap (λ (k : VerityJoin). k.taken) taken.begins.begun in
    let begun_closed : begun.join.closed ≡ 0 = ap (λ (k : VerityJoin). k.closed) taken.begins.begun in
    let start : 0 ≡ begun.join.taken * size = rw begun_taken (omega arith) in
    let all : all_digests p begun.join.level bytes ≡ flat_map digests_taken_by (joining_calls join) =
    ap (λ (l : ℕ). all_digests p l bytes) begun_level ∙ sym taken.digests_are in
    let joins = join-parts p begun join.calls join.last [] bytes taken.joins (taken.begins.is_joined bytes) start all in
    let level_is : kept.join.level ≡ level = joins.level_is ∙ begun_level in
    let some : 0 < size = digest_len_of-pos p.settings.algorithm in
    let whole : length (all_digests p level bytes) ≡ parts * size =
    length-pieces (λ part. digest_of_part p level part bytes) size 0 parts
    (λ part _ _. length-hash p.settings (slice_index_or (blocks_under p level bytes) part [])) in
    let count : kept.join.taken * size ≡ parts * size =
    joins.count ∙ ap (λ (l : ℕ). length (all_digests p l bytes)) begun_level ∙ whole in
    let most : kept.join.taken * size ≤ parts * size = omega (arith, count) in
    let least : parts * size ≤ kept.join.taken * size = omega (arith, count) in
    let taken_all : kept.join.taken ≡ parts =
    omega (arith, le_of_mul-le-mul_right {k = size} most some, le_of_mul-le-mul_right {k = size} least some) in
    let here : kept.join.taken ≡ count_under p begun.join.level = rw begun_level taken_all in
    let closed_all : level + kept.join.closed ≡ level_count_of p =
    rw begun_level at (joins.closed taken.none_left here) in
    let has = join-room p level (length begun.memory) taken.begins.status in
    let room : with_join_memory (Ok p) kept.join.level (length kept.memory) ≡ Ok p =
    rw (level_is, joins.room) has.memory in
    let done_here : with_joined (Ok p) kept.join size ≡ Ok p =
    join-done p kept.join (rw level_is taken_all) (rw level_is closed_all) in
    let file_done_here : with_joined_file (Ok p) kept.join size size ≡ Ok p =
    file-join-done p kept.join (rw level_is taken_all) (rw level_is closed_all) in
    record {
      level_most = has.most;
      builds = record {
        plan_is = refl;
        level_is = begun_level;
        none_taken = begun_taken;
        none_closed = begun_closed;
        begins = taken.begins.is_joined bytes;
        joins = joins.joins;
        taken_all = taken_all;
        closed_all = closed_all;
        digests_are =
            flat_map-map (λ (call : FeedCall). call.taken) join_builder_call (joining_calls join) ∙ taken.digests_are
            ∙ sym digests;
        ends = λ _. refl;
      };
      is_joined = joins.is_joined;
      status = ap (λ (made : Result PlanFields Fault). status_of (with_joined made kept.join size)) room
          ∙ ap (λ (made : Result PlanFields Fault). status_of made) done_here;
      file_status = ap (λ (made : Result PlanFields Fault). status_of (with_joined_file made kept.join size size)) room
          ∙ ap (λ (made : Result PlanFields Fault). status_of made) file_done_here;
    }
