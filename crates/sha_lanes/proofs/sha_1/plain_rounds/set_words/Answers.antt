use Rattle.std.{proofs.Common.{subst, sym, ap, take, drop, ◌∙◌, arith}, specs.Prelude.replicate}
use Rattle.sha_lanes.{specs.Sha1.AddsConstants, proofs.OneMessage.zero_schedule_sha1}
use Rattle.sha1.specs.Sha1 as S1
use Rattle.sha_lanes.proofs.sha_1.plain_rounds.set_words.Goals as goal

pub returns-then-are_zeros : goal.returns-then-are_zeros
returns-then-are_zeros c j lt =
    subst (AddsConstants c.set_constants.new.kw j)
    (sym (zero_schedule_sha1 c.args.blocks.now (c.are_zeros.ensures.0 c.if-are_zeros.true ∙ ap (λ n. replicate n 0) c.requires) j lt))
    (c.set_constants.ensures j lt)

pub returns-else-are_zeros : goal.returns-else-are_zeros
returns-else-are_zeros c j lt =
    subst (AddsConstants c.add_constants.new.kw j)
    (c.schedule.ensures j lt _ (c.load.ensures j lt (omega (arith, c.requires))) ∙ ap (λ at. S1.schedule (take 64 (drop at c.args.blocks.now)) 64) (omega arith))
    (c.add_constants.ensures j lt)
