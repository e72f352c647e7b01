use Rattle.std.proofs.Common.{◌≡◌, ◌∙◌, ℕ, ℤ, Bool, true, false, Err, Ok, Result, ap, if◌then◌else◌, length, of_z, refl, to_z, w32}
use Rattle.{std.specs.Prelude.{◌==◌, not}, verity_plan.specs.{Plans.PlanFields, Settings.digest_len}, verity_builders.specs.Parts.join_fault}
use Rattle.verity_c_api.{proofs.StatusLemmas.fault_status-fits, specs.{Building.unless, Statuses.status_of, declared.build.VerityJoin.VerityJoin}}
use Rattle.verity_c_api.specs.{Parts.{join_builder_of, with_join_memory, with_joined, with_joined_file}, declared.fault.Fault.Fault}
use Rattle.verity_c_api.specs.declared.fault.Fault.TheVariants.{Length, Root}
use Rattle.verity_c.proofs.joins.verity_join_end.Goals as goal

-- another buffer of the same length has no fault of its own
one-room : (made : Result PlanFields Fault) (join : VerityJoin) (room : ℕ)
    → with_joined_file made join room room ≡ with_joined made join room
one-room (Err fault) join room = refl
one-room (Ok p) join room = by_test (room == digest_len p.settings) (unless (join_fault (join_builder_of p join)) p)
  where
    by_test : (fits : Bool) (rest : Result PlanFields Fault)
        → (if not fits then Err Root else (if not fits then Err Length else rest))
        ≡ (if not fits then Err Root else rest)
    by_test true rest = refl
    by_test false rest = refl

pub returns-in-Err-clause-status : goal.returns-in-Err-clause-status
returns-in-Err-clause-status c =
    let join = c.args.join.now in
    let room = length c.args.root.now in
    let memory_room = length c.args.memory.now in
    ap (λ (z : ℤ). to_z w32 (of_z w32 z)) c.status.ensures
    ∙ fault_status-fits c.in-Err.fault
    ∙ c.in-Err.ensures.status
    ∙ ap (λ (r : Result PlanFields Fault). status_of r)
    (one-room (with_join_memory c.plan_of.result join.level memory_room) join room)
    ∙ ap (λ (r : Result PlanFields Fault). status_of (with_joined (with_join_memory r join.level memory_room) join room))
    c.plan_of.ensures
