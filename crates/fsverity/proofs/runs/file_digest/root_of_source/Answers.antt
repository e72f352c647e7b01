use Rattle.{std.proofs.Common.◌∙◌, verity_plan.proofs.PlanLemmas.planned_is, verity_pass.proofs.RootLevels.root_of_some}
use Rattle.fsverity.proofs.DigestLemmas.{ends_short, fails_within, tree_of_some}
use Rattle.fsverity.proofs.runs.file_digest.root_of_source.Goals as goal

pub returns-in-Ok-build-clause-bytes : goal.returns-in-Ok-build-clause-bytes
returns-in-Ok-build-clause-bytes g c = λ t.
    let same = planned_is _ _ c.in-Ok.ensures in
    let built = rw same at (c.in-Ok-build.ensures.read t) in
    (built.0 ∙ root_of_some _ _ _ c.requires, built.1)

pub returns-in-Ok-build-clause-stands : goal.returns-in-Ok-build-clause-stands
returns-in-Ok-build-clause-stands g c = λ t u.
    let same = planned_is _ _ c.in-Ok.ensures in
    let stands = rw same at (c.in-Ok-build.ensures.stands t u) in
    stands ∙ tree_of_some _ _ _ _ c.requires

pub returns-in-Err-SourceShort-clause-bytes : goal.returns-in-Err-SourceShort-clause-bytes
returns-in-Err-SourceShort-clause-bytes g c = λ t.
    let same = planned_is _ _ c.in-Ok.ensures in
    let read = rw c.in-Err-SourceShort.field-0-is at (c.in-Err-SourceShort.ensures.read t) in
    rw same at (ends_short c.in-Ok.plan c.in-Err-SourceShort.block _ _ read)

pub returns-in-Err-SourceShort-clause-stands : goal.returns-in-Err-SourceShort-clause-stands
returns-in-Err-SourceShort-clause-stands g c = λ t u.
    let same = planned_is _ _ c.in-Ok.ensures in
    let stands = rw c.in-Err-SourceShort.field-0-is at (c.in-Err-SourceShort.ensures.stands t u) in
    rw same at stands

pub returns-in-Err-SourceFailed-clause-bytes : goal.returns-in-Err-SourceFailed-clause-bytes
returns-in-Err-SourceFailed-clause-bytes g c = λ t.
    let same = planned_is _ _ c.in-Ok.ensures in
    let read = rw c.in-Err-SourceFailed.field-0-is at (c.in-Err-SourceFailed.ensures.read t) in
    rw same at (fails_within c.in-Ok.plan c.in-Err-SourceFailed.block _ _ read)

pub returns-in-Err-SourceFailed-clause-stands : goal.returns-in-Err-SourceFailed-clause-stands
returns-in-Err-SourceFailed-clause-stands g c = λ t u.
    let same = planned_is _ _ c.in-Ok.ensures in
    let stands = rw c.in-Err-SourceFailed.field-0-is at (c.in-Err-SourceFailed.ensures.stands t u) in
    rw same at stands

pub returns-clause-bytes : goal.returns-clause-bytes
returns-clause-bytes g c = λ t.
    let same = planned_is _ _ c.in-Ok.ensures in
    let read = rw c.in-Err-DeviceFailed.field-0-is at (c.in-Err-DeviceFailed.ensures.read t) in
    rw same at read

pub returns-clause-stands : goal.returns-clause-stands
returns-clause-stands g c = λ t u.
    let same = planned_is _ _ c.in-Ok.ensures in
    let stands = rw c.in-Err-DeviceFailed.field-0-is at (c.in-Err-DeviceFailed.ensures.stands t u) in
    rw same at stands
