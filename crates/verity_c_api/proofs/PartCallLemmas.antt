-- Calls of verity_part_feed build a part of a tree. All this is said of a plan that was made.
use Rattle.std.proofs.Common.{◌≡◌, ℕ, ◌-◌, ◌*◌, ◌≤◌, true, false, List, [], ◌∷◌, ◌++◌, length, map, Result, Ok, arith, ap, refl, sym, subst, ◌∙◌}
use Rattle.std.proofs.{Common.append_assoc, lemmas.{Bool.Decides.nat_tests, List.{append-nil, length-drop, length-take, length-take-le, map-append}}}
use Rattle.std.proofs.{lemmas.List.{Elements.{Contains-append_right, Contains-push}, Folds.flat_map-map}, Math.Nat.mul_assoc}
use Rattle.{std.specs.{List.{Contains, flat_map}, Prelude.{◌==◌, min, nat_le, nat_lt}}, verity_blocks.specs.ClosingOrder.BlockIndex}
use Rattle.verity_builders.specs.Parts.{BuildsPartInCalls, FeedsPart, FeedsPartCalls, HasPart, IsFedPart, IsHandedOutOfPart, bytes_of_part}
use Rattle.{verity_builders.specs.Parts.{digest_of_part, handed_out_of_part, blocks_in_part, plan_of_part}, verity_plan.specs.Plans.PlanFields}
use Rattle.verity_c_api.{proofs.{BuildingLemmas.{given-by, handed-by}, StatusLemmas.room-of}, specs.BuildingLoop.hash_block_by}
use Rattle.verity_c_api.specs.{Parts.{if_room, part_builder_of, with_part_fed, with_part_memory}, Statuses.{done, status_of}}
use Rattle.verity_c_api.specs.PartsLoop.{AreFedPartBy, IsCallForPart, IsFedPartBy, KeptPart, PartCall, PartCalls, AreCallsOfPart, bytes_taken_by}
use Rattle.verity_c_api.specs.{PartsLoop.{feeding_calls, part_builder_call, part_end_status, part_in_calls}, declared.build.VerityPart.VerityPart}
use Rattle.{verity_c_api.specs.declared.fault.Fault.Fault, verity_plan.specs.{PlanCounts.{level_count_of, count_under}, Settings.digest_len}}
use Rattle.verity_builders.specs.{Feeding.{FeedCall, feeding_length}, PartsBuiltAgain.IsCallForPart as IsBuilderCall}

part-room : (p : PlanFields) (level number room : ℕ) → HasPart p level number
    → status_of (with_part_memory (Ok p) level number room) ≡ done → with_part_memory (Ok p) level number room ≡ Ok p
part-room p level number room has status =
    let most : nat_lt (level_count_of p) level ≡ false = grind (arith, nat_tests, has.level_most) in
    let below : nat_le (count_under p level) number ≡ false = grind (arith, nat_tests, has.part_below) in
    let fits : status_of (if_room (Ok p) (λ q. feeding_length q.settings level) room) ≡ done =
    rw (most, below) at status in
    rw (most, below) (room-of p (λ (q : PlanFields). feeding_length q.settings level) room fits)

-- a call is one of the builder
feeds-call : (p : PlanFields) (before : KeptPart) (call : PartCall) (fed : List ℕ) → IsFedPartBy (Ok p) before call
    → IsFedPart (part_builder_of p before.part) before.memory fed
    → FeedsPart (part_builder_of p before.part) (part_builder_of p call.after.part) fed (bytes_taken_by call)
    call.after.memory (hash_block_by call.fed)
feeds-call p before call fed answered h =
    let hands = answered.block fed h in
    let bytes = fed ++ bytes_taken_by call in
    record {
      is_fed = answered.fed fed h;
      order = hands.order
          ∙ ap (λ (blocks : List BlockIndex). handed_out_of_part p before.part.level before.part.part before.part.fed
          before.part.closed ++ blocks) (sym (given-by call.fed));
      stands = handed-by call.fed
          (λ block. IsHandedOutOfPart (part_builder_of p before.part) bytes call.after.memory block) hands.block;
    }

-- some calls, of which the last one is by itself
record FeedPart (p : PlanFields) (before : KeptPart) (calls : List PartCall) (last : PartCall) : Type 0 where
  feeds : FeedsPartCalls (part_builder_of p before.part) before.memory (map part_builder_call (calls ++ last ∷ []))
      (part_builder_of p last.after.part) last.after.memory
  is_fed : (fed : List ℕ) → IsFedPart (part_builder_of p before.part) before.memory fed
      → IsFedPart (part_builder_of p last.after.part) last.after.memory
      (fed ++ flat_map bytes_taken_by (calls ++ last ∷ []))
  level_is : last.after.part.level ≡ before.part.level
  part_is : last.after.part.part ≡ before.part.part
  room : length last.after.memory ≡ length before.memory
  closed : last.fed.block_length ≡ 0
      → last.after.part.fed ≡ (plan_of_part p before.part.level before.part.part).wanted
      → last.after.part.closed ≡ before.part.level

feed-part : (p : PlanFields) (before : KeptPart) (calls : List PartCall) (last : PartCall)
    → AreFedPartBy (Ok p) before (calls ++ last ∷ []) → FeedPart p before calls last
unfolding AreFedPartBy FeedsPartCalls
feed-part p before [] last answered =
    let takes = answered.0.takes in
    record {
      feeds = (
        part_builder_of p last.after.part,
        refl,
        takes.level_is,
        takes.part_is,
        λ fed h. feeds-call p before last fed answered.0 h,
        (refl, refl),
      );
      is_fed = λ fed h. rw append-nil (answered.0.fed fed h);
      level_is = takes.level_is;
      part_is = takes.part_is;
      room = answered.0.room;
      closed = takes.done;
    }
feed-part p before (call ∷ rest) last answered =
    let takes = answered.0.takes in
    let goes_on = feed-part p call.after rest last answered.1 in
    record {
      feeds = (
        part_builder_of p call.after.part,
        refl,
        takes.level_is,
        takes.part_is,
        λ fed h. feeds-call p before call fed answered.0 h,
        goes_on.feeds,
      );
      is_fed = λ fed h. rw (← append_assoc)
          (goes_on.is_fed (fed ++ bytes_taken_by call) (answered.0.fed fed h));
      level_is = goes_on.level_is ∙ takes.level_is;
      part_is = goes_on.part_is ∙ takes.part_is;
      room = goes_on.room ∙ answered.0.room;
      closed = rw (takes.level_is, takes.part_is) at goes_on.closed;
    }

-- where there is all the data, a part has all its bytes
length-part : (p : PlanFields) (level number : ℕ) (bytes : List ℕ) → p.wanted ≤ length bytes
    → length (bytes_of_part p level number bytes) ≡ (plan_of_part p level number).wanted
length-part p level number bytes enough =
    let size = blocks_in_part p level * p.settings.data_block in
    let whole : min p.wanted (length bytes) ≡ p.wanted =
    sym (length-take p.wanted bytes) ∙ length-take-le p.wanted bytes enough in
    simp (length-take, length-drop)
    (ap (λ (n : ℕ). min size (n - number * size)) whole
    ∙ ap (λ (n : ℕ). min size (p.wanted - n)) (sym (mul_assoc number (blocks_in_part p level) p.settings.data_block)))

-- all was fed and handed out, so verity_part_end answers 0
part-done : (p : PlanFields) (part : VerityPart) (room : ℕ) → HasPart p part.level part.part
    → part.fed ≡ (plan_of_part p part.level part.part).wanted → part.closed ≡ part.level → room ≡ digest_len p.settings
    → with_part_fed (Ok p) part room ≡ Ok p
part-done p part room has all closed long =
    let wanted = (plan_of_part p part.level part.part).wanted in
    let fits : (room == digest_len p.settings) ≡ true = grind (arith, nat_tests, long) in
    let most : nat_lt (level_count_of p) part.level ≡ false = grind (arith, nat_tests, has.level_most) in
    let below : nat_le (count_under p part.level) part.part ≡ false = grind (arith, nat_tests, has.part_below) in
    let more : nat_lt wanted part.fed ≡ false = grind (arith, nat_tests, all) in
    let less : nat_lt part.fed wanted ≡ false = grind (arith, nat_tests, all) in
    let levels : nat_lt part.level part.closed ≡ false = grind (arith, nat_tests, closed) in
    let waits : nat_lt part.closed part.level ≡ false = grind (arith, nat_tests, closed) in
    rw (fits, most, below, less, levels, more, waits) refl

-- the calls for a part have built it, and what is left at its end is its digest
pub record IsPartBuilt (p : PlanFields) (level number : ℕ) (bytes : List ℕ) (part : PartCalls) : Type 0 where
  pub builds : BuildsPartInCalls p level number bytes (part_in_calls p part)
  pub status : part_end_status (Ok p) part.last.after (digest_len p.settings) ≡ done
  pub digest_is : part.digest ≡ digest_of_part p level number bytes

pub part-built : (p : PlanFields) (level number : ℕ) (bytes : List ℕ) (part : PartCalls) → p.wanted ≤ length bytes
    → AreCallsOfPart (Ok p) level number (bytes_of_part p level number bytes) part
    → IsPartBuilt p level number bytes part
part-built p level number bytes part enough taken =
    let begun = part.begun in
    let kept = part.last.after in
    let fed = bytes_of_part p level number bytes in
    let begun_level : begun.part.level ≡ level = ap (λ (k : VerityPart). k.level) taken.begins.begun in
    let begun_part : begun.part.part ≡ number = ap (λ (k : VerityPart). k.part) taken.begins.begun in
    let feeds = feed-part p begun part.calls part.last taken.feeds in
    let level_is : kept.part.level ≡ level = feeds.level_is ∙ begun_level in
    let part_is : kept.part.part ≡ number = feeds.part_is ∙ begun_part in
    let has : HasPart p level number = rw (begun_level, begun_part) at taken.begins.is_fed.part in
    let is_fed : IsFedPart (part_builder_of p kept.part) kept.memory fed =
    subst (λ (xs : List ℕ). IsFedPart (part_builder_of p kept.part) kept.memory xs) taken.bytes_are
    (feeds.is_fed [] taken.begins.is_fed) in
    let all : kept.part.fed ≡ (plan_of_part p level number).wanted =
    sym is_fed.count ∙ length-part p level number bytes enough in
    let here : kept.part.fed ≡ (plan_of_part p begun.part.level begun.part.part).wanted =
    rw (begun_level, begun_part) all in
    let closed : kept.part.closed ≡ level = feeds.closed taken.none_left here ∙ begun_level in
    let room : with_part_memory (Ok p) kept.part.level kept.part.part (length kept.memory) ≡ Ok p =
    rw (level_is, part_is, feeds.room) (part-room p level number (length begun.memory) has taken.begins.status) in
    let done_here : with_part_fed (Ok p) kept.part (digest_len p.settings) ≡ Ok p =
    part-done p kept.part (digest_len p.settings) (rw (level_is, part_is) has) (rw (level_is, part_is) all)
    (closed ∙ sym level_is) refl in
    let status : part_end_status (Ok p) kept (digest_len p.settings) ≡ done =
    ap (λ (made : Result PlanFields Fault). status_of (with_part_fed made kept.part (digest_len p.settings))) room
    ∙ ap (λ (made : Result PlanFields Fault). status_of made) done_here in
    let left : part_end_status (Ok p) kept (length part.digest) ≡ done = rw taken.ends.room status in
    record {
      builds = record {
        plan_is = refl;
        level_is = begun_level;
        part_is = begun_part;
        begins = taken.begins.is_fed;
        feeds = feeds.feeds;
        fed_all = all;
        closed_all = closed;
        bytes_are =
            flat_map-map (λ (call : FeedCall). call.taken) part_builder_call (feeding_calls part) ∙ taken.bytes_are;
        ends = λ xs stands. taken.ends.digest_is xs stands left;
      };
      status = status;
      digest_is =
          let digest = taken.ends.digest_is fed is_fed left bytes (rw (level_is, part_is) refl) in
          rw (level_is, part_is) at digest;
    }

-- a call for a part, whether the part was given up after it or not, is one of the builder
pub call-for_part : (p : PlanFields) (level : ℕ) (bytes : List ℕ) (call : PartCall) → IsCallForPart p level bytes call
    → IsBuilderCall p level bytes (part_builder_call call)
call-for_part p level bytes call taken =
    let run : PartCalls = record { begun = taken.begun; calls = taken.before; last = call; digest = [] } in
    let calls = map part_builder_call (feeding_calls run) in
    record {
      part = taken.number;
      run = part_in_calls p run;
      plan_is = refl;
      level_is = ap (λ (k : VerityPart). k.level) taken.begins.begun;
      part_is = ap (λ (k : VerityPart). k.part) taken.begins.begun;
      begins = taken.begins.is_fed;
      feeds = (feed-part p taken.begun taken.before call taken.feeds).feeds;
      rest = taken.rest;
      bytes_are = ap (λ (xs : List ℕ). xs ++ taken.rest)
          (flat_map-map (λ (one : FeedCall). one.taken) part_builder_call (feeding_calls run)) ∙ taken.bytes_are;
      is_call = subst (λ (xs : List FeedCall). Contains xs (part_builder_call call))
          (sym (map-append part_builder_call taken.before (call ∷ [])))
          (Contains-append_right (map part_builder_call taken.before) (part_builder_call call ∷ [])
          (part_builder_call call) (Contains-push [] (part_builder_call call)));
    }
