use Rattle.{std.proofs.Common.{◌∙◌, ◌≡◌, ap, refl, List, ℕ}, command_line.proofs.Prefixes.Keeps-refl, verity_plan.specs.Plans.PlanFields}
use Rattle.{verity_blocks.specs.Levels.{root, data_blocks}, veritysetup.specs.Runs.Formatted.root_above}
use Rattle.veritysetup.proofs.runs.format.format.Goals as goal

-- equal plans give equal root hashes
by_plan : (p q : PlanFields) (bytes found : List ℕ) → found ≡ root p.settings (data_blocks p bytes) → p ≡ q
    → found ≡ root q.settings (data_blocks q bytes)
by_plan p q bytes found is same = is ∙ ap (λ (r : PlanFields). root r.settings (data_blocks r bytes)) same

pub returns-in-Err-clause-printed : goal.returns-in-Err-clause-printed
returns-in-Err-clause-printed g c =
    (root_above c.args.settings.now (g.S.Source.remaining c.args.source.now), λ tells. refl, Keeps-refl _)

pub returns-in-Err-build-clause-printed : goal.returns-in-Err-build-clause-printed
returns-in-Err-build-clause-printed g c =
    (root_above c.args.settings.now (g.S.Source.remaining c.args.source.now), λ tells. refl, Keeps-refl _)

pub returns-in-Ok-write_whole-clause-root : goal.returns-in-Ok-write_whole-clause-root
returns-in-Ok-write_whole-clause-root g c =
    λ tells. by_plan _ _ _ _ (c.in-Ok-build.ensures.read tells).0 c.plan-plan.ensures.value

pub returns-in-Ok-write_whole-clause-report : goal.returns-in-Ok-write_whole-clause-report
returns-in-Ok-write_whole-clause-report g c = c.in-Ok-write_whole.ensures.written _ c.settings_report.ensures

pub returns-in-Ok-write_whole-clause-printed : goal.returns-in-Ok-write_whole-clause-printed
returns-in-Ok-write_whole-clause-printed g c = (
  c.in-Ok-build.root,
  λ tells. by_plan _ _ _ _ (c.in-Ok-build.ensures.read tells).0 c.plan-plan.ensures.value,
  c.in-Ok-write_whole.ensures.written _ c.settings_report.ensures,
)

pub returns-clause-printed : goal.returns-clause-printed
returns-clause-printed g c = (
  c.in-Ok-build.root,
  λ tells. by_plan _ _ _ _ (c.in-Ok-build.ensures.read tells).0 c.plan-plan.ensures.value,
  c.in-Err-write_whole.ensures.written _ c.settings_report.ensures,
)
