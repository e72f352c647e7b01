-- The root above the digests of the data blocks.
use Rattle.std.{proofs.{Common.{◌≡◌, ◌<◌, ℕ, List, map, length, IfOk, arith, sym, ◌∙◌, ap, refl, subst}, lemmas.List.length-map}, specs.Int.div_ceil}
use Rattle.verity_plan.{proofs.{PlanLemmas.blocks-some, FanLemmas.fan-two}, specs.{Settings.{TreeSettingsFields, hash}, Plans.{PlanFields, IsPlan}}}
use Rattle.verity_pass.proofs.RootLevels.{root-digests}
use Rattle.verity_blocks.{specs.{Levels.{cut, data_blocks}, Steps.PlainRoots.root_of_digests}, proofs.Levels.CutBlocks.length-cut}
use Rattle.verity_pass.proofs.plain_root.root_by_levels.Goals as goal

-- the digests are those of the plan's data blocks
digests-are : (p : PlanFields) → IsPlan p → (s : TreeSettingsFields) (bytes : List ℕ) (digests : List (List ℕ))
    → s ≡ p.settings
    → length bytes ≡ p.wanted
    → digests ≡ map (hash s) (cut s (div_ceil (length bytes) s.data_block) (length bytes) bytes)
    → digests ≡ map (hash p.settings) (data_blocks p bytes)
digests-are p planned s bytes digests same all is =
    is ∙ rw (same, all, planned.blocks_are) refl

-- there are some
blocks-are-some : (p : PlanFields) → IsPlan p → (bytes : List ℕ) → 0 < length (data_blocks p bytes)
blocks-are-some p planned bytes = omega (arith, length-cut p.settings p.blocks p.wanted bytes, blocks-some p planned)

pub root_of_digests-requires : goal.root_of_digests-requires
root_of_digests-requires c =
    let p = c.args.plan.now in
    let planned = c.wanted-wanted.ensures.planned in
    let digests = digests-are p planned _ _ _ c.settings-settings.ensures c.requires c.in_ok-digests.ensures in
    omega (
      arith,
      c.in_ok-digests.digests.ok,
      ap length digests,
      length-map (data_blocks p c.args.bytes.now) (hash p.settings),
      blocks-are-some p planned c.args.bytes.now,
    )

pub returns : goal.returns
returns c =
    let p = c.args.plan.now in
    let planned = c.wanted-wanted.ensures.planned in
    let bytes = c.args.bytes.now in
    let digests = digests-are p planned _ bytes _ c.settings-settings.ensures c.requires c.in_ok-digests.ensures in
    let same = ap (λ (s : TreeSettingsFields). root_of_digests s c.in_ok-digests.digests.items) c.settings-settings.ensures
    ∙ ap (root_of_digests p.settings) digests
    ∙ sym (root-digests p.settings (data_blocks p bytes) (fan-two p.settings planned.valid)
    (blocks-are-some p planned bytes)) in
    subst (λ (x : List ℕ). IfOk c.root_of_digests.result (λ r. r ≡ x)) same c.root_of_digests.ensures
