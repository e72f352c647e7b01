use Rattle.{std.proofs.{Common.{◌*◌, ◌-◌, ◌∙◌, ℕ, ap, arith, take}, lemmas.List.take-replicate}, verity_plan.specs.PlanCounts.level_count_of}
use Rattle.verity_builders.{specs.Parts.blocks_under, proofs.Joins.{JoinDigests.JoinStands-begun, PlanOfJoin.{length-under, parts-some}}}
use Rattle.{verity_blocks.proofs.OpenBlocks.DigestsInTurn.HasOpenBlocks-zeros, verity_plan.proofs.FanLemmas.fan-some}
use Rattle.verity_builders.proofs.join_builder.JoinBuilder.begin.Goals as goal

pub returns-clause-joined : goal.returns-clause-joined
returns-clause-joined c = λ bytes.
    let p = c.args.plan.now in
    let s = p.settings in
    let level = c.args.level in
    let levels = level_count_of p - level in
    let zeros = c.fill.ensures.after (λ y e. e) in
    JoinStands-begun s (blocks_under p level bytes) levels _ _
    (omega (arith, length-under p level bytes, parts-some p level c.planned.ensures))
    (HasOpenBlocks-zeros s (blocks_under p level bytes) levels (levels * s.hash_block) _ (fan-some s)
    (ap (take (levels * s.hash_block)) zeros ∙ take-replicate {X = ℕ} (levels * s.hash_block) _ 0
    (omega (arith, c.requires)))
    (omega arith))
