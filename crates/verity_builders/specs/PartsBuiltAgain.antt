-- Parts that were begun, given up and built again: which hash blocks may have been written besides.
use Rattle.std.specs.Prelude.{◌≡◌, ◌⊎◌, ℕ, List, [], ◌++◌}
use Rattle.{std.specs.List.{Contains, flat_map}, verity_plan.specs.Plans.PlanFields}
use Rattle.verity_builders.specs.{Feeding.FeedCall, Parts.{FeedsPartCalls, IsFedPart, JoinInCalls, PartInCalls, bytes_of_part, calls_from_parts}}

-- a call for a part of the tree above these bytes, in a run that fed the part's bytes from its first one on, and was
-- perhaps given up before its last one
pub record IsCallForPart (p : PlanFields) (level : ℕ) (bytes : List ℕ) (call : FeedCall) : Type 0 where
  pub part : ℕ
  pub run : PartInCalls
  pub plan_is : run.begun.plan ≡ p
  pub level_is : run.begun.level ≡ level
  pub part_is : run.begun.part ≡ part
  pub begins : IsFedPart run.begun run.memory []
  pub feeds : FeedsPartCalls run.begun run.memory run.calls run.after run.memory_after
  pub rest : List ℕ
  pub bytes_are : flat_map (λ call. call.taken) run.calls ++ rest ≡ bytes_of_part p level part bytes
  pub is_call : Contains run.calls call

-- these calls are those of all parts and of the join, in whatever order and each as often as one likes, and perhaps calls
-- for parts that were given up
pub record AreWrites (p : PlanFields) (level : ℕ) (bytes : List ℕ) (parts : ℕ → PartInCalls) (join : JoinInCalls)
    (writes : List FeedCall) : Type 0 where
  pub all : (call : FeedCall) → Contains (calls_from_parts p level parts join) call → Contains writes call
  pub only : (call : FeedCall) → Contains writes call
      → Contains (calls_from_parts p level parts join) call ⊎ IsCallForPart p level bytes call
