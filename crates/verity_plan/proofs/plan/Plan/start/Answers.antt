use Rattle.{std.proofs.Common.{ℕ, ◌*◌, arith, ap, ◌∙◌, subst}, verity_plan.{specs.{Plans.IsPlan, PlanCounts.place_of}, proofs.PlanLemmas.start-room}}
use Rattle.verity_plan.proofs.plan.Plan.start.Goals as goal

pub overflow_mul-result : goal.overflow_mul-result
overflow_mul-result c =
    let p = c.args.self.now in
    let planned = subst IsPlan c.self.view_is c.self.invariant.planned in
    let size = c.from.ensures ∙ c.hash_block.ensures.value ∙ ap (λ q. q.settings.hash_block) c.self.view_is in
    omega (
      arith,
      start-room p planned c.args.level c.args.index c.requires,
      ap (λ (n : ℕ). n * c.from.result) c.place.ensures,
      ap (λ (n : ℕ). place_of p c.args.level c.args.index * n) size,
    )

pub returns-clause-room : goal.returns-clause-room
returns-clause-room c =
    let p = c.args.self.now in
    let planned = subst IsPlan c.self.view_is c.self.invariant.planned in
    let size = c.from.ensures ∙ c.hash_block.ensures.value ∙ ap (λ q. q.settings.hash_block) c.self.view_is in
    omega (
      arith,
      start-room p planned c.args.level c.args.index c.requires,
      ap (λ (n : ℕ). n * c.from.result) c.place.ensures,
      ap (λ (n : ℕ). place_of p c.args.level c.args.index * n) size,
    )
