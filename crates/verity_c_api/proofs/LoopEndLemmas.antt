-- The loops of verity.h end: each of their calls takes a byte or a digest, or hands out a hash block of a higher level.
use Rattle.std.proofs.Common.{◌≡◌, ℕ, ◌+◌, ◌-◌, ◌*◌, ◌/◌, ◌<◌, ◌≤◌, Bool, true, false, List, [], ◌∷◌, length, drop, Option, Some, None, Result, Ok}
use Rattle.std.proofs.{Common.{Err, if◌then◌else◌, arith, ap, inl, inr, length-drop, refl, sym, ◌∙◌}, lemmas.Bool.{cases_lt, Decides.nat_tests}}
use Rattle.std.{proofs.Math.Nat.{add-mul-div_right, zero-mul}, specs.Prelude.{◌≢◌, ◌⊎◌, ◌==◌, nat_lt, not}}
use Rattle.verity_plan.proofs.{CountLemmas.mul_le, FanLemmas.digest_len_of-pos, PlanLemmas.IsPlan-checked_plan}
use Rattle.verity_plan.specs.{Plans.{PlanFields, plan_for_bytes, plan_of_file}, declared.plan_fault.PlanFault.PlanFault}
use Rattle.verity_plan.specs.{PlanCounts.{level_count_of, most_level_count}, Settings.{IsValid, TreeSettingsFields, digest_len}}
use Rattle.verity_builders.{proofs.FilePlans.{file_levels, no-levels, plan_of_file-is}, specs.Feeding.is_too_large}
use Rattle.verity_builders.specs.{FileTrees.{last_block_fault, levels_of_file}, declared.feed_fault.FeedFault.FeedFault}
use Rattle.verity_builders.specs.declared.feed_fault.FeedFault.TheVariants.{Level, TooLarge, Waiting}
use Rattle.verity_c_api.{proofs.{ParameterLemmas.{file_settings-made, of_plan}, StatusLemmas.fault-not_done}, specs.declared.fault.Fault.Fault}
use Rattle.verity_c_api.specs.{Building.{TakesPiece, file_memory_length_of, unless, with_file_memory}, Parts.{TakesDigests, TakesPartPiece}}
use Rattle.verity_c_api.specs.{BuildingLoop.{FeedingCall, GoesOn, Kept, TreeGoesOn}, FileTrees.{TakesFilePiece, tree_builder_of, with_last_block}}
use Rattle.verity_c_api.specs.{Parameters.{fsverity_tree_of, plan_of}, PartsLoop.{JoinCall, JoinGoesOn, KeptJoin, KeptPart, PartCall, PartGoesOn}}
use Rattle.verity_c_api.specs.{Statuses.{done, fault_of_feed, status_of}, declared.build.VerityBuild.VerityBuild}
use Rattle.verity_c_api.specs.declared.parameters.{FsverityParams.FsverityParams, VerityParams.VerityParams}
use Rattle.verity_plan.specs.declared.plan_fault.PlanFault.TheVariants.{NoData, TooLarge as NoRoom}
use Rattle.verity_c_api.specs.declared.fault.Fault.TheVariants as fault

-- what is left to take and to hand out becomes less
less : (levels count rest taken closed after : ℕ) → rest + taken ≡ count → after ≤ levels
    → (taken ≡ 0 → after ≡ closed + 1)
    → rest * (levels + 1) + (levels - after) < count * (levels + 1) + (levels - closed)
less levels count rest taken closed after parts within rises =
    elim (cases_lt 0 taken) [
      | inl some ↦
          let step : rest + 1 ≤ count = omega (arith, parts, some) in
          omega (arith, mul_le (rest + 1) count (levels + 1) step)
      | inr none ↦
          let same : rest ≡ count = omega (arith, parts, none) in
          let higher : after ≡ closed + 1 = rises (omega (arith, none)) in
          omega (arith, ap (λ (n : ℕ). n * (levels + 1)) same, higher, within)
    ]

-- whole digests that are taken are so many fewer that are left
digests-left : (size count rest taken : ℕ) → 0 < size → rest + taken ≡ count → taken ≡ taken / size * size
    → rest / size + taken / size ≡ count / size
digests-left size count rest taken some parts whole =
    sym (ap (λ (n : ℕ). n / size) (omega (arith, parts, whole)) ∙ add-mul-div_right rest (taken / size) some)

loop-measured : (params : VerityParams) (p : PlanFields) (kept : Kept) (piece : List ℕ) (calls : List FeedingCall)
    → plan_of params ≡ Ok p → GoesOn params kept piece calls
    → length calls ≤ length piece * (level_count_of p + 1) + (level_count_of p - kept.build.closed)
unfolding GoesOn
loop-measured params p kept piece [] made h = omega arith
loop-measured params p kept piece (call ∷ rest) made h =
    let takes : TakesPiece p kept.build call.after.build (length call.piece) call.fed =
    of_plan (plan_of params) p (λ q. TakesPiece q kept.build call.after.build (length call.piece) call.fed) made
    h.1.takes in
    let placed = takes.placed h.2 in
    let most : call.fed.taken ≤ length piece = omega (arith, takes.most, ap (λ (xs : List ℕ). length xs) h.0) in
    let left : length (drop call.fed.taken piece) + call.fed.taken ≡ length piece =
    omega (arith, length-drop call.fed.taken piece, most) in
    let within : call.after.build.closed ≤ level_count_of p = omega (arith, placed.level_is, placed.level_below) in
    omega (
      arith,
      loop-measured params p call.after (drop call.fed.taken piece) rest made h.3,
      less (level_count_of p) (length piece) (length (drop call.fed.taken piece)) call.fed.taken kept.build.closed
          call.after.build.closed left within (takes.rises h.2),
    )

pub loop-ends : (params : VerityParams) (p : PlanFields) (kept : Kept) (piece : List ℕ) (calls : List FeedingCall)
    → plan_of params ≡ Ok p → GoesOn params kept piece calls
    → length calls ≤ length piece * (level_count_of p + 1) + level_count_of p
loop-ends params p kept piece calls made h = omega (arith, loop-measured params p kept piece calls made h)

-- the same of the loop for a part, whose level stands for the number of levels
part-measured : (made : Result PlanFields Fault) (p : PlanFields) (level : ℕ) (kept : KeptPart) (piece : List ℕ)
    (calls : List PartCall) → made ≡ Ok p → kept.part.level ≡ level → PartGoesOn made kept piece calls
    → length calls ≤ length piece * (level + 1) + (level - kept.part.closed)
unfolding PartGoesOn
part-measured made p level kept piece [] planned at h = omega arith
part-measured made p level kept piece (call ∷ rest) planned at h =
    let takes : TakesPartPiece p kept.part call.after.part (length call.piece) call.fed =
    of_plan made p (λ q. TakesPartPiece q kept.part call.after.part (length call.piece) call.fed) planned h.1.takes in
    let placed = takes.placed h.2 in
    let most : call.fed.taken ≤ length piece = omega (arith, takes.most, ap (λ (xs : List ℕ). length xs) h.0) in
    let left : length (drop call.fed.taken piece) + call.fed.taken ≡ length piece =
    omega (arith, length-drop call.fed.taken piece, most) in
    let within : call.after.part.closed ≤ level =
    omega (arith, placed.level_is, placed.level_below, takes.level_is, at) in
    omega (
      arith,
      part-measured made p level call.after (drop call.fed.taken piece) rest planned (takes.level_is ∙ at) h.3,
      less level (length piece) (length (drop call.fed.taken piece)) call.fed.taken kept.part.closed
          call.after.part.closed left within (takes.rises h.2),
    )

pub part-loop-ends : (made : Result PlanFields Fault) (kept : KeptPart) (piece : List ℕ) (calls : List PartCall)
    → PartGoesOn made kept piece calls → length calls ≤ length piece * (kept.part.level + 1) + kept.part.level
unfolding PartGoesOn
part-loop-ends made kept piece [] h = omega arith
part-loop-ends (Err why) kept piece (call ∷ rest) h = absurd (fault-not_done why (sym h.1.status))
part-loop-ends (Ok p) kept piece (call ∷ rest) h =
    omega (arith, part-measured (Ok p) p kept.part.level kept piece (call ∷ rest) refl refl h)

-- of the loop for a file's tree, with the most levels that it can have
tree-measured : (params : FsverityParams) (tree : TreeSettingsFields) (kept : Kept) (piece : List ℕ)
    (calls : List FeedingCall) → fsverity_tree_of params ≡ Ok tree → TreeGoesOn params kept piece calls
    → length calls ≤ length piece * (most_level_count tree + 1) + (most_level_count tree - kept.build.closed)
unfolding TreeGoesOn
tree-measured params tree kept piece [] made h = omega arith
tree-measured params tree kept piece (call ∷ rest) made h =
    let takes : TakesFilePiece tree kept.build call.after.build (length call.piece) call.fed =
    (rw made at h.1.takes) in
    let some : call.fed.block_length ≢ 0 = λ none.
    omega (arith, takes.all none, h.2, ap (λ (xs : List ℕ). length xs) h.0) in
    let placed = takes.placed some in
    let left : length (drop call.fed.taken piece) + call.fed.taken ≡ length piece =
    omega (arith, length-drop call.fed.taken piece, h.2) in
    let within : call.after.build.closed ≤ most_level_count tree =
    omega (arith, placed.level_is, placed.level_below) in
    omega (
      arith,
      tree-measured params tree call.after (drop call.fed.taken piece) rest made h.3,
      less (most_level_count tree) (length piece) (length (drop call.fed.taken piece)) call.fed.taken
          kept.build.closed call.after.build.closed left within (takes.rises some),
    )

pub tree-loop-ends : (params : FsverityParams) (tree : TreeSettingsFields) (kept : Kept) (piece : List ℕ)
    (calls : List FeedingCall) → fsverity_tree_of params ≡ Ok tree → TreeGoesOn params kept piece calls
    → length calls ≤ length piece * (most_level_count tree + 1) + most_level_count tree
tree-loop-ends params tree kept piece calls made h =
    omega (arith, tree-measured params tree kept piece calls made h)

-- of the loop for a join, in which digests stand for bytes, and the levels above that of the parts for all
join-measured : (made : Result PlanFields Fault) (p : PlanFields) (level : ℕ) (kept : KeptJoin) (digests : List ℕ)
    (calls : List JoinCall) → made ≡ Ok p → kept.join.level ≡ level → JoinGoesOn made kept digests calls
    → length calls ≤ length digests / digest_len p.settings * (level_count_of p - level + 1)
    + (level_count_of p - level - kept.join.closed)
unfolding JoinGoesOn
join-measured made p level kept digests [] planned at h = omega arith
join-measured made p level kept digests (call ∷ rest) planned at h =
    let takes : TakesDigests p kept.join call.after.join (length call.digests) call.fed =
    of_plan made p (λ q. TakesDigests q kept.join call.after.join (length call.digests) call.fed) planned
    h.1.takes in
    let size = digest_len p.settings in
    let placed = takes.placed h.2 in
    let most : call.fed.taken ≤ length digests = omega (arith, takes.most, ap (λ (xs : List ℕ). length xs) h.0) in
    let left : length (drop call.fed.taken digests) / size + call.fed.taken / size ≡ length digests / size =
    digests-left size (length digests) (length (drop call.fed.taken digests)) call.fed.taken
    (digest_len_of-pos p.settings.algorithm) (omega (arith, length-drop call.fed.taken digests, most)) takes.whole in
    let within : call.after.join.closed ≤ level_count_of p - level =
    omega (arith, placed.level_is, placed.level_below, takes.level_is, at) in
    let rises : call.fed.taken / size ≡ 0 → call.after.join.closed ≡ kept.join.closed + 1 = λ none.
    takes.rises h.2 (takes.whole ∙ ap (λ (n : ℕ). n * size) none ∙ zero-mul size) in
    omega (
      arith,
      join-measured made p level call.after (drop call.fed.taken digests) rest planned (takes.level_is ∙ at) h.3,
      less (level_count_of p - level) (length digests / size) (length (drop call.fed.taken digests) / size)
          (call.fed.taken / size) kept.join.closed call.after.join.closed left within rises,
    )

pub join-loop-ends : (made : Result PlanFields Fault) (p : PlanFields) (kept : KeptJoin) (digests : List ℕ)
    (calls : List JoinCall) → made ≡ Ok p → JoinGoesOn made kept digests calls
    → length calls ≤ length digests / digest_len p.settings * (level_count_of p - kept.join.level + 1)
    + (level_count_of p - kept.join.level)
join-loop-ends made p kept digests calls planned h =
    omega (arith, join-measured made p kept.join.level kept digests calls planned refl h)

-- the bytes are too many, or there is no such level
no-none : (waits large below : Bool) → (large ≡ true) ⊎ (below ≡ false)
    → (if waits then Some Waiting else (if large then Some TooLarge else (if below then None else Some Level))) ≢ None
no-none true large below why = λ e. cc
no-none false true below why = λ e. cc
no-none false false false why = λ e. cc
no-none false false true (inl e) = absurd cc
no-none false false true (inr e) = absurd cc

-- a file's tree has no hash block of a level that none has
no-block : (s : TreeSettingsFields) (build : VerityBuild) (level : ℕ) → IsValid s → most_level_count s ≤ level
    → last_block_fault (tree_builder_of s build) level ≢ None
no-block s build level valid most =
    no-none (nat_lt 0 build.closed) (is_too_large (plan_for_bytes s build.fed 0))
    (nat_lt level (levels_of_file s build.fed)) (by_plan (plan_for_bytes s build.fed 0) refl)
  where
    by_plan : (made : Result PlanFields PlanFault) → made ≡ plan_for_bytes s build.fed 0
        → (is_too_large (plan_for_bytes s build.fed 0) ≡ true) ⊎ (nat_lt level (levels_of_file s build.fed) ≡ false)
    by_plan (Ok plan) is =
        let planned = IsPlan-checked_plan (plan_of_file s build.fed) plan (sym is) valid refl in
        let few = file_levels plan s build.fed planned is in
        let same = ap level_count_of (plan_of_file-is plan s build.fed is) in
        inr (grind (arith, nat_tests, most, same, few))
    by_plan (Err NoData) is = inr (grind (arith, nat_tests, no-levels s build.fed is))
    by_plan (Err NoRoom) is = inl (ap is_too_large (sym is))

pub end-loop-ends : (params : FsverityParams) (tree : TreeSettingsFields) (build : VerityBuild)
    (level memory_length room : ℕ) → fsverity_tree_of params ≡ Ok tree → most_level_count tree ≤ level
    → status_of (with_last_block (with_file_memory (fsverity_tree_of params) memory_length) build level room) ≢ done
end-loop-ends params tree build level memory_length room made most =
    rw made (by_memory (memory_length == file_memory_length_of tree))
  where
    by_fault : (fault : Option FeedFault) → fault ≢ None → status_of (unless fault tree) ≢ done
    by_fault None some = λ _. absurd (some refl)
    by_fault (Some why) some = λ is. fault-not_done (fault_of_feed why) (sym is)

    by_room : (fits : Bool) → status_of (if not fits then Err fault.Length
        else unless (last_block_fault (tree_builder_of tree build) level) tree) ≢ done
    by_room true = by_fault (last_block_fault (tree_builder_of tree build) level)
        (no-block tree build level (file_settings-made params tree made).valid most)
    by_room false = λ is. fault-not_done fault.Length (sym is)

    by_memory : (fits : Bool)
        → status_of (with_last_block (if fits then Ok tree else Err fault.Length) build level room) ≢ done
    by_memory true = by_room (room == tree.hash_block)
    by_memory false = λ is. fault-not_done fault.Length (sym is)
