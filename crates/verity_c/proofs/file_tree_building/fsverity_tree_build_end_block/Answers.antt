use Rattle.{std.proofs.Common.{ℤ, Result, ap, of_z, sym, to_z, w32, ◌∙◌}, verity_plan.specs.Settings.TreeSettingsFields}
use Rattle.verity_c_api.{specs.{Statuses.{fault_of_feed, fault_status, status_of}, declared.fault.Fault.Fault}, proofs.StatusLemmas.fault_status-fits}
use Rattle.verity_c.proofs.FileTreeLemmas.{with_last_block-fault, with_last_block-ok}
use Rattle.verity_c.proofs.file_tree_building.fsverity_tree_build_end_block.Goals as goal

pub returns-in-Ok-end_block-clause-status : goal.returns-in-Ok-end_block-clause-status
returns-in-Ok-end_block-clause-status c =
    sym (ap (λ (r : Result TreeSettingsFields Fault). status_of r)
    (with_last_block-ok _ c.in-Ok.tree.now c.args.build.now c.args.level _ c.in-Ok.ensures.value
    (c.if-block-hash_block.false ∙ c.hash_block.ensures.value)
    (sym c.in-Ok-end_block.ensures.fault)))

pub returns-in-Err-end_block-clause-status : goal.returns-in-Err-end_block-clause-status
returns-in-Err-end_block-clause-status c =
    let fault = with_last_block-fault _ c.in-Ok.tree.now c.args.build.now c.args.level _ c.in-Err-end_block.fault
    c.in-Ok.ensures.value
    (c.if-block-hash_block.false ∙ c.hash_block.ensures.value)
    (sym c.in-Err-end_block.ensures.fault) in
    ap (λ (z : ℤ). to_z w32 (of_z w32 z)) (c.status-in-Err-end_block.ensures ∙ ap fault_status c.of_feed.ensures)
    ∙ fault_status-fits (fault_of_feed c.in-Err-end_block.fault)
    ∙ sym (ap (λ (r : Result TreeSettingsFields Fault). status_of r) fault)
