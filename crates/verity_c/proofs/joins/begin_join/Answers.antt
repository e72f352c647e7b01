use Rattle.verity_c.proofs.JoinLemmas.{no-part_fault}
use Rattle.verity_c.proofs.joins.begin_join.Goals as goal

pub returns-in-Err-begin-clause-status : goal.returns-in-Err-begin-clause-status
returns-in-Err-begin-clause-status c =
    absurd (no-part_fault c.in-Ok.plan c.args.level _ c.blocks-planned.ensures.planned c.in-Ok.ensures.level
    c.in-Err-begin.ensures.fault)
