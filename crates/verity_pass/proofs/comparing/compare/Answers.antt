use Rattle.std.proofs.{Common.{sym, ◌∙◌, refl}, lemmas.{List.Elements.All-nil, Slice.Eq.bytes_eq-Decides}}
use Rattle.verity_pass.proofs.{Passes.ComparedPass.{comes-to, judges-differs, judges-right, judges-root, judges-short}, PathSteps.bytes_eq-false}
use Rattle.verity_pass.proofs.comparing.compare.Goals as goal

pub returns-then-eq-clause-verdict : goal.returns-then-eq-clause-verdict
returns-then-eq-clause-verdict g c = λ tells told.
    let h = c.in-Ok.ensures.run.leaves tells told (refl, All-nil _) in
    let r = c.in-Ok.ensures.run.read tells in
    judges-right c.args.plan.now _ _ c.in-Ok.computed c.args.root.now r.1.enough h.1 r.0
    (sym c.as_bytes.ensures.bytes
    ∙ (bytes_eq-Decides c.as_bytes.result.now c.as_bytes-in-Ok.result.now).0 (sym c.eq.ensures ∙ c.if-eq.true)
    ∙ c.as_bytes-in-Ok.ensures.bytes)

pub returns-else-eq-clause-verdict : goal.returns-else-eq-clause-verdict
returns-else-eq-clause-verdict g c = λ tells told.
    let h = c.in-Ok.ensures.run.leaves tells told (refl, All-nil _) in
    let r = c.in-Ok.ensures.run.read tells in
    judges-root c.args.plan.now _ _ c.in-Ok.computed c.args.root.now r.1.enough h.1 r.0
    (λ same. bytes_eq-false c.as_bytes.result.now _ (sym c.eq.ensures ∙ c.if-eq.false)
    (c.as_bytes.ensures.bytes ∙ same ∙ sym c.as_bytes-in-Ok.ensures.bytes))

pub returns-in-Short-clause-verdict : goal.returns-in-Short-clause-verdict
returns-in-Short-clause-verdict g c = λ tells told.
    let p = c.args.plan.now in
    let h = c.in-Err-InData.ensures.run.leaves tells told (refl, All-nil _) in
    let r = c.in-Err-InData.ensures.run.read tells in
    let stopped = (rw c.in-Err-InData.field-0-is at r) in
    judges-short p _ _ _ c.args.root.now c.in-Err-InData.field-0-0.block (rw c.in-Short.is at stopped)
    (rw c.in-Err-InData.field-0-is at h).1

pub returns-in-Unread-clause-verdict : goal.returns-in-Unread-clause-verdict
returns-in-Unread-clause-verdict g c = λ tells told.
    let h = c.in-Err-AtBlock.ensures.run.leaves tells told (refl, All-nil _) in
    let stops = (rw c.in-Err-AtBlock.field-0-is at h) in
    comes-to c.args.plan.now _ _ _ c.in-Err-AtBlock.field-0-0 stops

pub returns-in-Differs-clause-verdict : goal.returns-in-Differs-clause-verdict
returns-in-Differs-clause-verdict g c = λ tells told.
    let h = c.in-Err-AtBlock.ensures.run.leaves tells told (refl, All-nil _) in
    let stops = (rw c.in-Err-AtBlock.field-0-is at h) in
    judges-differs c.args.plan.now c.pass.ensures.planned _ _ c.args.root.now _ c.in-Err-AtBlock.field-0-0 c.in-Differs.part
    stops c.in-Differs.is
