use Rattle.{std.proofs.Common.{◌≡◌, ◌∙◌, ap, refl, List, ℕ, ◌++◌, Option}, verity_format.specs.Superblocks.SuperblockFields}
use Rattle.{verity_hash.specs.Hashing.name_of, verity_plan.specs.Settings.TreeSettingsFields}
use Rattle.veritysetup.specs.Texts.{ReportSteps.{with_hash, with_device, with_sizes}, Reports.{salt_text, title, root_line, report_text}}
use Rattle.veritysetup.proofs.texts.reports.report_with.Goals as goal

-- the report from the texts after each of its parts
by_parts : (path uuid name salt : List ℕ) (v : SuperblockFields) (tree : TreeSettingsFields) (root : Option (List ℕ))
    (first second third fourth last : List ℕ)
    → tree ≡ v.tree → name ≡ name_of tree.algorithm → salt ≡ salt_text tree.salt
    → first ≡ title path → second ≡ with_device first uuid v → third ≡ with_sizes second tree
    → fourth ≡ with_hash third name salt → last ≡ fourth ++ root_line root → last ≡ report_text path uuid v root
unfolding report_text
by_parts path uuid name salt v tree root first second third fourth last a b c d e f g h =
    let named = b ∙ ap (λ (t : TreeSettingsFields). name_of t.algorithm) a in
    let salted = c ∙ ap (λ (t : TreeSettingsFields). salt_text t.salt) a in
    let sized = f ∙ ap (λ (t : TreeSettingsFields). with_sizes second t) a in
    let whole : fourth ≡ with_hash (with_sizes (with_device (title path) uuid v) v.tree)
    (name_of v.tree.algorithm) (salt_text v.tree.salt) =
    rw (g, sized, e, d, named, salted) refl in
    h ∙ ap (λ (text : List ℕ). text ++ root_line root) whole

pub returns : goal.returns
returns c = by_parts c.args.path.now c.args.uuid.now c.name.result.now c.as_str.result.now c.args.superblock.now
    c.tree-tree.result.now _ _ _ _ _ _
    c.tree-tree.ensures.value (c.name.ensures ∙ ap name_of c.algorithm.ensures)
    (c.as_str.ensures.value ∙ c.in_ok-salt.ensures ∙ ap salt_text c.salt.ensures.value)
    c.in_ok-text.ensures.ok c.in_ok-push_device.ensures c.in_ok-push_sizes.ensures c.in_ok-push_hash.ensures
    c.in_ok-push_root.ensures
