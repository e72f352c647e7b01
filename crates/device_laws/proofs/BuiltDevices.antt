-- A tree that the calls of the library for C have built, with the superblock, is a formatted device.
use Rattle.{std.proofs.Common.{◌≡◌, ◌≢◌, ◌∙◌, ℕ, ◌≤◌, List, Option, length, take, inl, inr, refl, subst, sym}, verity_io.specs.Counting.Change}
use Rattle.{verity_c_api.specs.{ReadBack.HasFields, declared.parameters.VerityParams.VerityParams}, verity_plan.specs.Plans.PlanFields}
use Rattle.veritysetup.{proofs.{AcceptedLemmas.accepted-back, FormattedLemmas.written-formatted}, specs.Options.Settings.SettingsFields}
use Rattle.veritysetup.specs.{Faults.{status_refused, status_verification_failed}, Runs.{Format.formatted_device, GivenBack.IsGivenBack}}
use Rattle.veritysetup.specs.{Runs.{Formatted.{IsFormattedDevice, root_above}, Verify.VerifyRun}, declared.runs.verify_input.VerifyInput.VerifyInput}
use Rattle.{device_laws.proofs.SettingsOfParameters.{settings-valid, superblock-written}, verity_blocks.specs.Levels.data_blocks}
use Rattle.{device_laws.specs.BuiltDevices.{AreSettingsOf, IsTreeByCalls, with_superblock_by}, verity_blocks.specs.TreeWriting.tree_on_device}

-- the calls leave the device as building the tree at once does, and there is as much data as the plan wants
tree-stands : (params : VerityParams) (p : PlanFields) (bytes before tree : List ℕ)
    → IsTreeByCalls params p bytes before tree
    → (tree ≡ tree_on_device p (data_blocks p bytes) before) × (p.wanted ≤ length bytes)
tree-stands params p bytes before tree (inl build) =
    (build.written ∙ (build.builds.builds before).stands, (build.builds.holds before).enough)
tree-stands params p bytes before tree (inr parts) =
    let all = parts.all_written in (
      parts.written ∙ parts.builds.stands parts.writes before all,
      (parts.builds.holds parts.writes before all).enough,
    )

pub device-written : (params : VerityParams) (s : SettingsFields) (bytes before tree : List ℕ) → HasFields params
    → AreSettingsOf params s → IsTreeByCalls params s.plan bytes before tree
    → with_superblock_by params tree ≡ formatted_device s (data_blocks s.plan bytes) before
device-written params s bytes before tree fields of by_calls =
    let valid = settings-valid params s fields of in
    let stands = (tree-stands params s.plan bytes before tree by_calls).0 in
    rw (superblock-written params s valid of, of.superblock_is, of.offset_is, stands) refl

pub device-formatted : (params : VerityParams) (s : SettingsFields) (bytes before tree : List ℕ) → HasFields params
    → AreSettingsOf params s → IsTreeByCalls params s.plan bytes before tree
    → IsFormattedDevice s bytes before (with_superblock_by params tree)
device-formatted params s bytes before tree fields of by_calls =
    let valid = settings-valid params s fields of in
    let enough = (tree-stands params s.plan bytes before tree by_calls).1 in
    subst (IsFormattedDevice s bytes before) (sym (device-written params s bytes before tree fields of by_calls))
    (written-formatted s bytes before valid enough)

pub device-verified : (params : VerityParams) (s : SettingsFields) (bytes before tree : List ℕ) (input : VerifyInput)
    (status : ℕ) (source device : Change) (msgs msgs_after : Option (List ℕ)) → HasFields params
    → AreSettingsOf params s → IsTreeByCalls params s.plan bytes before tree → IsGivenBack input s (root_above s bytes)
    → take s.plan.wanted source.before ≡ take s.plan.wanted bytes → device.before ≡ with_superblock_by params tree
    → source.told → device.told → VerifyRun input status source device msgs msgs_after
    → (status ≢ status_refused) × (status ≢ status_verification_failed)
device-verified params s bytes before tree input status source device msgs msgs_after fields of by_calls given same
    stands source_told device_told run =
    let formatted = device-formatted params s bytes before tree fields of by_calls in
    let accepted = accepted-back s bytes source.before before device.before source.after input run.outcome
    (settings-valid params s fields of) (subst (IsFormattedDevice s bytes before) (sym stands) formatted) given same
    (run.verdict source_told device_told) in
    subst (λ (n : ℕ). (n ≢ status_refused) × (n ≢ status_verification_failed)) (sym run.status_is) accepted
