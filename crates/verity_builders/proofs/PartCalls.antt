-- A tree that is built from parts, each in calls of its own, in any order and at the same time, and joined by their
-- digests.
use Rattle.std.proofs.Common.{◌≡◌, ℕ, zero, suc, ◌+◌, ◌*◌, ◌/◌, ◌<◌, ◌≤◌, List, [], ◌∷◌, ◌++◌, length, take, drop, Option, Some, None, arith, refl}
use Rattle.std.proofs.{Common.{sym, subst, ◌∙◌, ap, inl, inr, append_assoc, length-append}, lemmas.{Bool.cases_lt, List.append-nil}}
use Rattle.std.proofs.lemmas.List.{Concat.flat_map-append, Elements.{Contains-append_left, Contains-append_right, Contains-push}, Sums.sum_by-append}
use Rattle.std.proofs.lemmas.List.Elements.{All-append, All-cons, All-contains, All-contains_itself, All-head, All-nil, All-tail, All-weaker}
use Rattle.std.{proofs.Math.{Nat.{div-mul-le_self, le_of_mul-le-mul_right}, Seq.drop-append-add}, specs.Fork.slice_chunk}
use Rattle.std.specs.{List.{All, Contains, flat_map, range_with_len}, Prelude.{◌==◌, ◌&&◌, cond, slice_index_or}}
use Rattle.verity_plan.specs.{Plans.{HasBlock, IsPlan, PlanFields}, PlanCounts.{level_count_of, count_under}, Settings.{digest_len, fan}}
use Rattle.{verity_plan.proofs.{CountLemmas.mul_le, FanLemmas.{digest_len_of-pos, fan-some}}, verity_builders.specs.Parts.{part_order, plan_of_part}}
use Rattle.verity_blocks.specs.{ClosingOrder.{BlockIndex, closed_after, times}, Levels.{data_blocks, root}, Steps.Feeding.Stands}
use Rattle.verity_blocks.{specs.{TreeWriting.device_with, declared.hash_block.HashBlock.HashBlock}, proofs.Order.HandedOut.first-closed}
use Rattle.verity_blocks.proofs.{Order.{ClosesOnce.ClosesOnce-all, ClosingInTurn.device_with-append}, Levels.FirstBlocks.chunk-front}
use Rattle.verity_blocks.proofs.{Levels.CutBlocks.length-cut, OpenBlocks.OpenBlock.length-hash, JoinedLists.{flat_map-same, length-pieces, piece}}
use Rattle.verity_builders.specs.Parts.{AreDigests, BuildsFromParts, BuildsJoinInCalls, BuildsPartInCalls, FeedsPartCalls, HasPart, IsFedPart}
use Rattle.verity_builders.specs.Parts.{IsHandedOutOfJoin, IsHandedOutOfPart, IsJoined, JoinInCalls, JoinsCalls, PartInCalls, blocks_under}
use Rattle.verity_builders.specs.Parts.{bytes_of_part, calls_from_parts, digest_of_part, handed_out_of_join, handed_out_of_part, join_order}
use Rattle.verity_builders.specs.{PartsBuiltAgain.{AreWrites, IsCallForPart}, declared.join_builder.JoinBuilder.JoinBuilder}
use Rattle.verity_builders.{specs.declared.part_builder.PartBuilder.PartBuilder, proofs.Parts.WrittenInAnyOrder.any-order}
use Rattle.verity_builders.proofs.Parts.{PartEnds.{join-all, join-none, part-all, part-none}, PartMemory.part-bytes-most, PartInWhole.part-last-below}
use Rattle.verity_builders.{proofs.Parts.PartsInOrder.{handed_out-has, parts-once, range-more}, specs.Feeding.{FeedCall, given, written, written_all}}

-- ---- calls in any order

-- what a call hands out, written, is a block of the tree above these bytes put at its place
abbrev WritesRight : PlanFields → List ℕ → FeedCall → Type 0
WritesRight p bytes call = (device : List ℕ) → written p call.hash_block call.memory device
    ≡ device_with p.settings (data_blocks p bytes) p.base (given call.hash_block) device

-- the hash blocks that some calls hand out
abbrev blocks_of : List FeedCall → List BlockIndex
blocks_of calls = flat_map (λ call. given call.hash_block) calls

-- and so is what all of some calls hand out
all-written : (p : PlanFields) (bytes : List ℕ) (calls : List FeedCall) (device : List ℕ)
    → All (WritesRight p bytes) calls
    → written_all p calls device ≡ device_with p.settings (data_blocks p bytes) p.base (blocks_of calls) device
unfolding written_all device_with
all-written p bytes [] device right = refl
all-written p bytes (call ∷ rest) device right =
    all-written p bytes rest (written p call.hash_block call.memory device)
    (All-tail (WritesRight p bytes) call rest right)
    ∙ ap (device_with p.settings (data_blocks p bytes) p.base (blocks_of rest))
    (All-head (WritesRight p bytes) call rest right device)
    ∙ sym (device_with-append p.settings (data_blocks p bytes) p.base (given call.hash_block) (blocks_of rest) device)

-- how often some calls hand out a block
times-more-calls : (l j : ℕ) (call : FeedCall) (rest : List FeedCall)
    → times l j (blocks_of (call ∷ rest)) ≡ times l j (given call.hash_block) + times l j (blocks_of rest)
times-more-calls l j call rest =
    sum_by-append (λ (at : BlockIndex). cond ((at.level == l) && (at.index == j)) 1 0) (given call.hash_block)
    (blocks_of rest)

-- one of some calls hands out no more than all
times-one : (l j : ℕ) (calls : List FeedCall) (call : FeedCall) → Contains calls call
    → times l j (given call.hash_block) ≤ times l j (blocks_of calls)
times-one l j [] call there = absurd (omega (arith, there.1))
times-one l j (first ∷ rest) call (zero, low, is) =
    omega (arith, times-more-calls l j first rest, ap (λ (c : FeedCall). times l j (given c.hash_block)) is)
times-one l j (first ∷ rest) call (suc k, low, is) =
    omega (arith, times-more-calls l j first rest, times-one l j rest call (k, omega (arith, low), is))

-- a block that is handed out is handed out by one of the calls
times-of : (l j : ℕ) (calls : List FeedCall) → 0 < times l j (blocks_of calls)
    → (call : FeedCall) × Contains calls call × (0 < times l j (given call.hash_block))
times-of l j [] some = absurd (omega (arith, some))
times-of l j (call ∷ rest) some = elim (cases_lt 0 (times l j (given call.hash_block))) [
  | inl here ↦ (call, Contains-append_left (call ∷ []) rest call (Contains-push [] call), here)
  | inr none ↦
      let later = times-of l j rest (omega (arith, some, none, times-more-calls l j call rest)) in
      (later.0, Contains-append_right (call ∷ []) rest later.0 later.1, later.2)
]

-- calls among which are all of some calls hand out their blocks
times-among : (l j : ℕ) (calls writes : List FeedCall)
    → ((call : FeedCall) → Contains calls call → Contains writes call)
    → 0 < times l j (blocks_of calls) → 0 < times l j (blocks_of writes)
times-among l j calls writes among some =
    let one = times-of l j calls some in
    omega (arith, one.2, times-one l j writes one.0 (among one.0 one.1))

-- ---- the calls of a part

-- what one call hands out, written
part-written : (b : PartBuilder) (p : PlanFields) (level part : ℕ) (block : Option HashBlock)
    (memory fed more bytes : List ℕ)
    (device : List ℕ) → b.plan ≡ p → b.level ≡ level → b.part ≡ part
    → ((one : HashBlock) → block ≡ Some one → IsHandedOutOfPart b fed memory one)
    → bytes_of_part p level part bytes ≡ fed ++ more
    → written p block memory device ≡ device_with p.settings (data_blocks p bytes) p.base (given block) device
unfolding device_with
part-written b p level part None memory fed more bytes device plan_is level_is part_is handed is = refl
part-written b p level part (Some block) memory fed more bytes device plan_is level_is part_is handed is =
    let h = handed block refl in
    let here = rw plan_is at h.start_is in
    let stands = (rw (plan_is, level_is, part_is) at (h.bytes bytes more)) is in
    rw (here, stands, length-cut p.settings p.blocks p.wanted bytes) refl

-- the calls of a part, one after another
pub record CallsPart (p : PlanFields) (level part : ℕ) (calls : List FeedCall) (b after : PartBuilder)
    (memory_after fed bytes : List ℕ) : Type 0 where
  pub plan_is : after.plan ≡ p
  pub level_is : after.level ≡ level
  pub part_is : after.part ≡ part
  pub is_fed : IsFedPart after memory_after (fed ++ flat_map (λ call. call.taken) calls)
  pub order : handed_out_of_part p level part after.fed after.closed
      ≡ handed_out_of_part p level part b.fed b.closed ++ blocks_of calls
  pub right : (rest : List ℕ) → bytes_of_part p level part bytes ≡ fed ++ (flat_map (λ call. call.taken) calls ++ rest)
      → All (WritesRight p bytes) calls

part-joined : (p : PlanFields) (level part : ℕ) (calls : List FeedCall) (b after : PartBuilder)
    (memory memory_after fed bytes : List ℕ)
    → b.plan ≡ p → b.level ≡ level → b.part ≡ part → IsFedPart b memory fed
    → FeedsPartCalls b memory calls after memory_after → CallsPart p level part calls b after memory_after fed bytes
unfolding FeedsPartCalls
part-joined p level part [] b after memory memory_after fed bytes plan_is level_is part_is h calls = record {
  plan_is = rw calls.0 plan_is;
  level_is = rw calls.0 level_is;
  part_is = rw calls.0 part_is;
  is_fed = rw (calls.0, calls.1, append-nil fed) h;
  order = rw (calls.0, append-nil) refl;
  right = λ more is. All-nil (WritesRight p bytes);
}
part-joined p level part (call ∷ rest) b after memory memory_after fed bytes plan_is level_is part_is h calls =
    let next = calls.0 in
    let step = calls.4 fed h in
    let taken = flat_map (λ (c : FeedCall). c.taken) rest in
    let goes_on =
    part-joined p level part rest next after call.memory memory_after (fed ++ call.taken) bytes (calls.1 ∙ plan_is)
    (calls.2 ∙ level_is) (calls.3 ∙ part_is) step.is_fed calls.5 in
    record {
      plan_is = goes_on.plan_is;
      level_is = goes_on.level_is;
      part_is = goes_on.part_is;
      is_fed = subst (IsFedPart after memory_after) (append_assoc fed call.taken taken) goes_on.is_fed;
      order = goes_on.order
          ∙ ap (λ (xs : List BlockIndex). xs ++ blocks_of rest) (rw (plan_is, level_is, part_is) at step.order)
          ∙ append_assoc (handed_out_of_part p level part b.fed b.closed) (given call.hash_block) (blocks_of rest);
      right = λ more is.
          let is_all : bytes_of_part p level part bytes ≡ (fed ++ call.taken) ++ (taken ++ more) =
          is
          ∙ ap (λ (xs : List ℕ). fed ++ xs) (append_assoc call.taken taken more)
          ∙ sym (append_assoc fed call.taken (taken ++ more)) in
          All-cons (WritesRight p bytes) call rest
          (λ device.
          part-written b p level part call.hash_block call.memory (fed ++ call.taken) (taken ++ more) bytes device
          plan_is level_is part_is step.stands is_all)
          (goes_on.right more is_all);
    }

-- from the first to the last, they have handed out the part's blocks, and the end has answered its digest
pub record HasBuiltPart (p : PlanFields) (level part : ℕ) (bytes : List ℕ) (run : PartInCalls) : Type 0 where
  pub order : blocks_of run.calls ≡ part_order p level part
  pub right : All (WritesRight p bytes) run.calls
  pub fed : IsFedPart run.after run.memory_after (bytes_of_part p level part bytes)
  pub digest_is : run.digest ≡ digest_of_part p level part bytes

part-built : (p : PlanFields) (level part : ℕ) (bytes : List ℕ) (run : PartInCalls) → IsPlan p → HasPart p level part
    → BuildsPartInCalls p level part bytes run → HasBuiltPart p level part bytes run
part-built p level part bytes run planned has built =
    let b = run.begun in
    let own = bytes_of_part p level part bytes in
    let done = part-joined p level part run.calls b run.after run.memory run.memory_after [] bytes built.plan_is
    built.level_is built.part_is built.begins built.feeds in
    let fed : IsFedPart run.after run.memory_after own =
    subst (IsFedPart run.after run.memory_after) built.bytes_are done.is_fed in
    let first : b.closed ≡ 0 =
    first-closed (plan_of_part b.plan b.level b.part) b.level b.closed _ _ built.begins.stands in
    let none : handed_out_of_part p level part b.fed b.closed ≡ [] =
    rw (← built.begins.count, first) (part-none p level part) in
    record {
      order = sym (rw (built.fed_all, built.closed_all, none) at done.order) ∙ part-all p level part planned has;
      right = done.right [] (sym (append-nil (flat_map (λ (c : FeedCall). c.taken) run.calls) ∙ built.bytes_are));
      fed = fed;
      digest_is = (rw (done.plan_is, done.level_is, done.part_is) at (built.ends own fed bytes)) refl;
    }

-- no more levels have closed than a part has
closed-most : (own : PlanFields) (levels closed : ℕ) (fed opened window : List ℕ)
    → Stands own levels fed closed opened window → closed ≤ levels
closed-most own levels zero fed opened window h = omega arith
closed-most own levels (suc level) fed opened window h = omega (arith, h.level_below)

-- what a call hands out is of the tree, and is put at its place when it is written
abbrev IsOfTree : PlanFields → List ℕ → FeedCall → Type 0
IsOfTree p bytes call =
    WritesRight p bytes call × ((l j : ℕ) → 0 < times l j (given call.hash_block) → HasBlock p l j)

-- so it is with each call of a run that was perhaps given up
call-of_tree : (p : PlanFields) (level : ℕ) (bytes : List ℕ) (call : FeedCall) → IsPlan p
    → IsCallForPart p level bytes call → IsOfTree p bytes call
call-of_tree p level bytes call planned h =
    let run = h.run in
    let b = run.begun in
    let after = run.after in
    let taken = flat_map (λ (c : FeedCall). c.taken) run.calls in
    let done = part-joined p level h.part run.calls b after run.memory run.memory_after [] bytes h.plan_is h.level_is
    h.part_is h.begins h.feeds in
    let has : HasPart p level h.part = rw (h.plan_is, h.level_is, h.part_is) at h.begins.part in
    let few : after.closed ≤ level =
    rw done.level_is at (closed-most _ after.level after.closed taken _ _ done.is_fed.stands) in
    let inside = part-last-below p level h.part after.fed planned has (omega (
      arith,
      done.is_fed.count,
      length-append taken h.rest,
      ap length h.bytes_are,
      part-bytes-most p level h.part bytes,
    )) in (
      All-contains (WritesRight p bytes) run.calls call (done.right h.rest (sym h.bytes_are)) h.is_call,
      λ l j some. handed_out-has p level h.part after.fed after.closed l j has.level_most few inside.1 (omega (
        arith,
        some,
        times-one l j run.calls call h.is_call,
        ap (times l j) done.order,
        sum_by-append (λ (at : BlockIndex). cond ((at.level == l) && (at.index == j)) 1 0)
            (handed_out_of_part p level h.part b.fed b.closed) (blocks_of run.calls),
      )),
    )

-- ---- the calls of a join

-- what one call hands out, written
join-written : (b : JoinBuilder) (p : PlanFields) (block : Option HashBlock) (memory bytes device : List ℕ) → b.plan ≡ p
    → ((one : HashBlock) → block ≡ Some one → IsHandedOutOfJoin b bytes memory one)
    → written p block memory device ≡ device_with p.settings (data_blocks p bytes) p.base (given block) device
unfolding device_with
join-written b p None memory bytes device plan_is handed = refl
join-written b p (Some block) memory bytes device plan_is handed =
    let h = handed block refl in
    let here = rw plan_is at h.start_is in
    let stands = rw plan_is at h.stands in
    rw (here, stands, length-cut p.settings p.blocks p.wanted bytes) refl

-- a run of all digests, one after another, is digests
pub run-digests : (p : PlanFields) (level from : ℕ) (bytes done taken rest : List ℕ)
    → length done ≡ from * digest_len p.settings
    → flat_map (λ part. digest_of_part p level part bytes) (range_with_len 0 (count_under p level))
    ≡ done ++ (taken ++ rest)
    → AreDigests p level from taken bytes
run-digests p level from bytes done taken rest start all = λ k low.
    let size = digest_len p.settings in
    let parts = count_under p level in
    let some : 0 < size = digest_len_of-pos p.settings.algorithm in
    let digest = λ (part : ℕ). digest_of_part p level part bytes in
    let each : (part : ℕ) → 0 ≤ part → part < 0 + parts → length (digest part) ≡ size = λ part _ _.
    length-hash p.settings (slice_index_or (blocks_under p level bytes) part []) in
    let room : k * size + size ≤ length taken =
    omega (
      arith,
      mul_le (k + 1) (length taken / size) size (omega (arith, low)),
      div-mul-le_self (length taken) size,
    ) in
    let whole : length (flat_map digest (range_with_len 0 parts)) ≡ parts * size =
    length-pieces digest size 0 parts each in
    let long : (from + k + 1) * size ≤ parts * size =
    omega (arith, whole, ap length all, length-append done (taken ++ rest), length-append taken rest, start, room) in
    let below : from + k < parts = omega (arith, le_of_mul-le-mul_right {k = size} long some) in
    let at : (from + k) * size ≡ length done + k * size = omega (arith, start) in
    let same : 0 + (from + k) ≡ from + k = omega arith in
    sym (chunk-front taken rest size k room)
    ∙ ap (take size) (sym (drop-append-add done (taken ++ rest) (k * size))
    ∙ ap (λ (n : ℕ). drop n (done ++ (taken ++ rest))) (sym at))
    ∙ ap (λ (xs : List ℕ). slice_chunk xs size (from + k)) (sym all)
    ∙ piece digest size 0 parts (from + k) below each
    ∙ ap digest same

-- the calls of a join, one after another
pub record CallsJoin (p : PlanFields) (level : ℕ) (calls : List FeedCall) (b after : JoinBuilder)
    (memory_after bytes : List ℕ) : Type 0 where
  pub plan_is : after.plan ≡ p
  pub is_joined : IsJoined after memory_after bytes
  pub order : handed_out_of_join p level after.taken after.closed
      ≡ handed_out_of_join p level b.taken b.closed ++ blocks_of calls
  pub right : All (WritesRight p bytes) calls

join-joined : (p : PlanFields) (level : ℕ) (calls : List FeedCall) (b after : JoinBuilder)
    (memory memory_after done bytes : List ℕ)
    → b.plan ≡ p → b.level ≡ level → length done ≡ b.taken * digest_len p.settings → IsJoined b memory bytes
    → flat_map (λ part. digest_of_part p level part bytes) (range_with_len 0 (count_under p level))
    ≡ done ++ flat_map (λ call. call.taken) calls
    → JoinsCalls b memory calls after memory_after → CallsJoin p level calls b after memory_after bytes
unfolding JoinsCalls
join-joined p level [] b after memory memory_after done bytes plan_is level_is start h all calls = record {
  plan_is = rw calls.0 plan_is;
  is_joined = rw (calls.0, calls.1) h;
  order = rw (calls.0, append-nil) refl;
  right = All-nil (WritesRight p bytes);
}
join-joined p level (call ∷ rest) b after memory memory_after done bytes plan_is level_is start h all calls =
    let next = calls.0 in
    let taken = flat_map (λ (c : FeedCall). c.taken) rest in
    let count = rw plan_is at calls.3 in
    let digests : AreDigests b.plan b.level b.taken call.taken bytes =
    rw (plan_is, level_is) (run-digests p level b.taken bytes done call.taken taken start all) in
    let step = calls.4 bytes h digests in
    let longer : length (done ++ call.taken) ≡ next.taken * digest_len p.settings =
    length-append done call.taken ∙ omega (arith, start, count) in
    let goes_on = join-joined p level rest next after call.memory memory_after (done ++ call.taken) bytes
    (calls.1 ∙ plan_is)
    (calls.2 ∙ level_is) longer step.is_joined (all ∙ sym (append_assoc done call.taken taken)) calls.5 in
    record {
      plan_is = goes_on.plan_is;
      is_joined = goes_on.is_joined;
      order = goes_on.order
          ∙ ap (λ (xs : List BlockIndex). xs ++ blocks_of rest) (rw (plan_is, level_is) at step.order)
          ∙ append_assoc (handed_out_of_join p level b.taken b.closed) (given call.hash_block) (blocks_of rest);
      right = All-cons (WritesRight p bytes) call rest
          (λ device. join-written b p call.hash_block call.memory bytes device plan_is step.stands) goes_on.right;
    }

-- from the first to the last, they have handed out the join's blocks, and the end has answered the root hash
pub record HasBuiltJoin (p : PlanFields) (level : ℕ) (bytes : List ℕ) (run : JoinInCalls) : Type 0 where
  pub order : blocks_of run.calls ≡ join_order p level
  pub right : All (WritesRight p bytes) run.calls
  pub joined : IsJoined run.after run.memory_after bytes
  pub root_is : run.root_hash ≡ root p.settings (data_blocks p bytes)

join-built : (p : PlanFields) (level : ℕ) (bytes : List ℕ) (parts : ℕ → PartInCalls) (run : JoinInCalls) → IsPlan p
    → ((part : ℕ) → part < count_under p level → (parts part).digest ≡ digest_of_part p level part bytes)
    → BuildsJoinInCalls p level bytes parts run → HasBuiltJoin p level bytes run
join-built p level bytes parts run planned digests built =
    let b = run.begun in
    let start : 0 ≡ b.taken * digest_len p.settings = rw built.none_taken (omega arith) in
    let all =
    flat_map-same (λ part. (parts part).digest) (λ part. digest_of_part p level part bytes) 0 (count_under p level)
    (λ part _ low. digests part (omega (arith, low))) in
    let done =
    join-joined p level run.calls b run.after run.memory run.memory_after [] bytes built.plan_is built.level_is
    start built.begins (sym (built.digests_are ∙ all)) built.joins in
    let none : handed_out_of_join p level b.taken b.closed ≡ [] =
    rw (built.none_taken, built.none_closed) (join-none p level) in
    record {
      order = sym (rw (built.taken_all, none) at done.order)
          ∙ join-all p level run.after.closed planned built.closed_all;
      right = done.right;
      joined = done.is_joined;
      root_is = rw done.plan_is at (built.ends done.is_joined);
    }

-- ---- all calls

-- the calls of the first parts
first-parts : (p : PlanFields) (level : ℕ) (bytes : List ℕ) (parts : ℕ → PartInCalls) (k : ℕ)
    → ((part : ℕ) → part < k → HasBuiltPart p level part bytes (parts part))
    → (blocks_of (flat_map (λ part. (parts part).calls) (range_with_len 0 k))
    ≡ flat_map (λ part. part_order p level part) (range_with_len 0 k))
    × All (WritesRight p bytes) (flat_map (λ part. (parts part).calls) (range_with_len 0 k))
first-parts p level bytes parts zero built = (refl, All-nil (WritesRight p bytes))
first-parts p level bytes parts (suc k) built =
    let of_part : ℕ → List FeedCall = λ part. (parts part).calls in
    let next : suc k ≡ k + 1 = omega arith in
    let before = first-parts p level bytes parts k (λ part low. built part (omega (arith, low))) in
    let one = built k (omega arith) in
    let calls = flat_map of_part (range_with_len 0 k) in
    let all : flat_map of_part (range_with_len 0 (suc k)) ≡ calls ++ of_part k =
    ap (λ (n : ℕ). flat_map of_part (range_with_len 0 n)) next ∙ range-more of_part k in (
      ap blocks_of all
          ∙ flat_map-append (λ (call : FeedCall). given call.hash_block) calls (of_part k)
          ∙ ap (λ (xs : List BlockIndex). xs ++ blocks_of (of_part k)) before.0
          ∙ ap (λ (xs : List BlockIndex). flat_map (part_order p level) (range_with_len 0 k) ++ xs) one.order
          ∙ sym (range-more (part_order p level) k)
          ∙ ap (λ (n : ℕ). flat_map (part_order p level) (range_with_len 0 n)) (sym next),
      rw all (All-append (WritesRight p bytes) calls (of_part k) before.1 one.right),
    )

-- parts and join leave the tree, in whatever order and however often what they hand out is written, and with it what
-- runs for parts handed out that were perhaps given up
pub parts-build : (p : PlanFields) (level : ℕ) (bytes device : List ℕ) (parts : ℕ → PartInCalls)
    (join : JoinInCalls) (writes : List FeedCall) → IsPlan p → level ≤ level_count_of p
    → ((part : ℕ) → part < count_under p level → BuildsPartInCalls p level part bytes (parts part))
    → BuildsJoinInCalls p level bytes parts join
    → AreWrites p level bytes parts join writes
    → BuildsFromParts p level bytes parts join writes device
parts-build p level bytes device parts join writes planned most built joined written =
    let n = count_under p level in
    let calls = calls_from_parts p level parts join in
    let of_parts = flat_map (λ part. (parts part).calls) (range_with_len 0 n) in
    let each : (part : ℕ) → part < n → HasBuiltPart p level part bytes (parts part) = λ part low.
    part-built p level part bytes (parts part) planned (record { level_most = most; part_below = low })
    (built part low) in
    let below = first-parts p level bytes parts n each in
    let above = join-built p level bytes parts join planned (λ part low. (each part low).digest_is) joined in
    let order : blocks_of calls
    ≡ flat_map (λ part. part_order p level part) (range_with_len 0 n) ++ join_order p level =
    flat_map-append (λ (call : FeedCall). given call.hash_block) of_parts join.calls
    ∙ ap (λ (xs : List BlockIndex). xs ++ blocks_of join.calls) below.0
    ∙ ap (λ (xs : List BlockIndex). flat_map (part_order p level) (range_with_len 0 n) ++ xs) above.order in
    let once : (l j : ℕ) → times l j (blocks_of calls) ≡ times l j (closed_after (fan p.settings) p.blocks p.blocks) =
    λ l j. ap (times l j) order ∙ parts-once p level l j in
    let right : All (WritesRight p bytes) calls =
    All-append (WritesRight p bytes) of_parts join.calls below.1 above.right in
    let tree = ClosesOnce-all (fan p.settings) p.blocks (fan-some p.settings) in
    let of_tree : (call : FeedCall) → Contains writes call → IsOfTree p bytes call = λ call there.
    elim (written.only call there) [
      | inl one ↦ (
        All-contains (WritesRight p bytes) calls call right one,
        λ l j some. tree.only l j (omega (arith, once l j, some, times-one l j calls call one)),
      )
      | inr again ↦ call-of_tree p level bytes call planned again
    ] in
    record {
      fed = λ part low. (each part low).fed;
      joined = above.joined;
      root_is = above.root_is;
      once = once;
      stands = all-written p bytes writes device
          (All-weaker (Contains writes) (WritesRight p bytes) (λ call there. (of_tree call there).0) writes
          (All-contains_itself writes))
          ∙ any-order p (blocks_of writes) bytes device planned (λ l j. (
            λ some.
                let one = times-of l j writes some in
                omega (arith, tree.once l j ((of_tree one.0 one.1).1 l j one.2)),
            λ some. times-among l j calls writes written.all (omega (arith, once l j, some)),
          ));
    }
