-- Calls that build the parts of a tree, and those that join them, build the tree together: by a plan that was made, and
-- in the end by parameters that make it.
use Rattle.std.proofs.Common.{◌≡◌, ℕ, ◌<◌, ◌≤◌, List, [], length, Result, Ok, arith, refl, inl, inr, sym, subst}
use Rattle.{verity_plan.specs.{Plans.{IsPlan, PlanFields}, PlanCounts.count_under}, verity_pass.proofs.PutTree.put-holds}
use Rattle.verity_builders.{specs.Parts.{BuildsFromParts, PartInCalls, bytes_of_part, digest_of_part}, proofs.PartCalls.parts-build}
use Rattle.verity_blocks.{proofs.JoinedLists.flat_map-same, specs.{Levels.{data_blocks, root}, TreeOnDevice.HoldsTree}}
use Rattle.verity_c_api.proofs.{JoinCallLemmas.{all_digests, join-built}, ParameterLemmas.{file_plan-made, plan-made}}
use Rattle.verity_c_api.{proofs.PartCallLemmas.{IsPartBuilt, call-for_part, part-built}, specs.Parameters.{fsverity_plan_of, plan_of}}
use Rattle.verity_c_api.specs.PartsLoop.{AreWrites, BuildsTreeFromParts, JoinCalls, PartCalls, AreCallsOfJoin, AreCallsOfPart, calls_of_all}
use Rattle.verity_c_api.specs.{PartsLoop.{digests_of, join_in_calls, part_in_calls}, declared.fault.Fault.Fault}
use Rattle.{verity_c_api.specs.declared.parameters.{FsverityParams.FsverityParams, VerityParams.VerityParams}, verity_builders.specs.Feeding.FeedCall}

-- a tree that is built by calls for each part and for the join
pub parts-built : (p : PlanFields) (level : ℕ) (bytes : List ℕ) (parts : ℕ → PartCalls) (join : JoinCalls) → IsPlan p
    → p.wanted ≤ length bytes
    → ((number : ℕ) → number < count_under p level
    → AreCallsOfPart (Ok p) level number (bytes_of_part p level number bytes) (parts number))
    → AreCallsOfJoin (Ok p) level (digests_of (count_under p level) parts) join
    → BuildsTreeFromParts (Ok p) p level bytes parts join
parts-built p level bytes parts join planned enough of_parts of_join =
    let count = count_under p level in
    let each : (number : ℕ) → number < count → IsPartBuilt p level number bytes (parts number) =
    λ number below. part-built p level number bytes (parts number) enough (of_parts number below) in
    let digests : digests_of count parts ≡ all_digests p level bytes =
    flat_map-same (λ number. (parts number).digest) (λ number. digest_of_part p level number bytes) 0 count
    (λ number _ below. (each number (omega (arith, below))).digest_is) in
    let runs : ℕ → PartInCalls = λ number. part_in_calls p (parts number) in
    let built = join-built p level bytes runs join digests
    (subst (λ (xs : List ℕ). AreCallsOfJoin (Ok p) level xs join) digests of_join) in
    let calls = calls_of_all count parts join in
    let joined = join_in_calls p join (root p.settings (data_blocks p bytes)) in
    let together : (writes : List FeedCall) (device : List ℕ) → AreWrites p level bytes parts join writes
    → BuildsFromParts p level bytes runs joined writes device =
    λ writes device written. parts-build p level bytes device runs joined writes planned built.level_most
    (λ number below. (each number below).builds) built.builds (record {
      all = written.all;
      only = λ call there. elim (written.only call there) [
        | inl one ↦ inl one
        | inr again ↦ inr (rw again.2 (call-for_part p level bytes again.0 again.1))
      ];
    }) in
    record {
      part_status = λ number below. (each number below).status;
      digest_is = λ number below. (each number below).digest_is;
      is_joined = built.is_joined;
      once = (together calls [] (record { all = λ call there. there; only = λ call there. inl there })).once;
      stands = λ writes device same. (together writes device same).stands;
      holds = λ writes device same.
          subst (λ (left : List ℕ). HoldsTree p left bytes (root p.settings (data_blocks p bytes)))
          (sym (together writes device same).stands) (put-holds p bytes device planned enough);
      status = built.status;
      root_is = refl;
      file_status = built.file_status;
      file_digest_is = refl;
    }

-- so it is for the plan that parameters make
pub made-built : (made : Result PlanFields Fault) (p : PlanFields) (level : ℕ) (bytes : List ℕ) (parts : ℕ → PartCalls)
    (join : JoinCalls) → made ≡ Ok p → IsPlan p → p.wanted ≤ length bytes
    → ((number : ℕ) → number < count_under p level
    → AreCallsOfPart made level number (bytes_of_part p level number bytes) (parts number))
    → AreCallsOfJoin made level (digests_of (count_under p level) parts) join
    → BuildsTreeFromParts made p level bytes parts join
made-built made p level bytes parts join is planned enough =
    subst (λ (r : Result PlanFields Fault).
    ((number : ℕ) → number < count_under p level
    → AreCallsOfPart r level number (bytes_of_part p level number bytes) (parts number))
    → AreCallsOfJoin r level (digests_of (count_under p level) parts) join
    → BuildsTreeFromParts r p level bytes parts join)
    (sym is) (parts-built p level bytes parts join planned enough)

pub verity-built : (params : VerityParams) (p : PlanFields) (level : ℕ) (bytes : List ℕ) (parts : ℕ → PartCalls)
    (join : JoinCalls) → plan_of params ≡ Ok p → p.wanted ≤ length bytes
    → ((number : ℕ) → number < count_under p level
    → AreCallsOfPart (plan_of params) level number (bytes_of_part p level number bytes) (parts number))
    → AreCallsOfJoin (plan_of params) level (digests_of (count_under p level) parts) join
    → BuildsTreeFromParts (plan_of params) p level bytes parts join
verity-built params p level bytes parts join made =
    made-built (plan_of params) p level bytes parts join made (plan-made params p made).planned

pub fsverity-built : (params : FsverityParams) (p : PlanFields) (level : ℕ) (bytes : List ℕ) (parts : ℕ → PartCalls)
    (join : JoinCalls) → fsverity_plan_of params ≡ Ok p → p.wanted ≤ length bytes
    → ((number : ℕ) → number < count_under p level
    → AreCallsOfPart (fsverity_plan_of params) level number (bytes_of_part p level number bytes) (parts number))
    → AreCallsOfJoin (fsverity_plan_of params) level (digests_of (count_under p level) parts) join
    → BuildsTreeFromParts (fsverity_plan_of params) p level bytes parts join
fsverity-built params p level bytes parts join made =
    made-built (fsverity_plan_of params) p level bytes parts join made (file_plan-made params p made).planned
