use Rattle.std.proofs.{Common.{List, ap, arith, false, length, refl, subst, sym, ℕ, ◌*◌, ◌∙◌, ◌≡◌, ◌<◌}, lemmas.Bool.Decides.nat_tests}
use Rattle.{std.specs.Prelude.{Ok, nat_eq}, verity_plan.specs.PlanCounts.most_level_count}
use Rattle.verity_plan.{specs.{Settings.TreeSettingsFields, Plans.{IsPlan, PlanFields, plan_for_bytes}}, proofs.CountLemmas.mul_le}
use Rattle.verity_blocks.specs.{Levels.{root_of_file, data_blocks, root}, Steps.Feeding.HasFed}
use Rattle.verity_builders.proofs.{Trees.TreeMemory.{IsFedFile-parted, joined}, FilePlans.{file_levels, file_room, plan_of_file-is}}
use Rattle.verity_builders.proofs.file_builder.FileBuilder.end.Goals as goal

pub root_of_fed-requires-clause-opened : goal.root_of_fed-requires-clause-opened
root_of_fed-requires-clause-opened c =
    let plan = c.in-Ok.plan in
    let s = c.args.self.now.settings in
    let room = file_room plan s c.args.self.now.fed (most_level_count s) _ c.in-Ok.ensures
    (c.split_at_mut-opened.ensures.front_len ∙ c.open_length.ensures.value) in
    let most = file_levels plan s c.args.self.now.fed c.planned.ensures c.in-Ok.ensures in
    omega (arith, mul_le _ _ plan.settings.hash_block most, room)

-- the root hash of a file's bytes
file_root-some : (s : TreeSettingsFields) (plan : PlanFields) (size : ℕ) (fed : List ℕ) → IsPlan plan
    → Ok plan ≡ plan_for_bytes s size 0 → length fed ≡ size
    → root plan.settings (data_blocks plan fed) ≡ root_of_file s (length fed) fed
file_root-some s plan size fed planned is had =
    let asked : Ok plan ≡ plan_for_bytes s (length fed) 0 =
    subst (λ (n : ℕ). Ok plan ≡ plan_for_bytes s n 0) (sym had) is in
    let same = plan_of_file-is plan s (length fed) asked in
    let some : 0 < length fed = omega (arith, planned.some, ap (λ (p : PlanFields). p.wanted) same) in
    let tested : nat_eq (length fed) 0 ≡ false = grind (arith, nat_tests, some) in
    ap (λ (p : PlanFields). root p.settings (data_blocks p fed)) same ∙ rw tested refl

pub returns-in-Ok-clause-root : goal.returns-in-Ok-clause-root
returns-in-Ok-clause-root c = λ fed h.
    let plan = c.in-Ok.plan in
    let s = c.args.self.now.settings in
    let count = c.args.self.now.fed in
    let levels = most_level_count s in
    let planned = c.planned.ensures in
    let same : plan ≡ _ = plan_of_file-is plan s count c.in-Ok.ensures in
    let stood = IsFedFile-parted c.args.self.now _ c.args.memory.now c.split_at_mut-opened.result.0.now
    c.split_at_mut-opened.result.1.now fed c.open_length.ensures.value c.split_at_mut-opened.ensures.front
    c.split_at_mut-opened.ensures.back h in
    c.root_of_fed.ensures.root levels fed (file_levels plan s count planned c.in-Ok.ensures)
    (file_room plan s count levels _ c.in-Ok.ensures
    (c.split_at_mut-opened.ensures.front_len ∙ c.open_length.ensures.value))
    (h.count ∙ sym (ap (λ (p : PlanFields). p.wanted) same))
    (subst (λ (t : TreeSettingsFields). HasFed t levels fed c.split_at_mut-opened.result.0.now c.split_at_mut-opened.result.1.now)
    (sym (ap (λ (p : PlanFields). p.settings) same)) stood)
    ∙ file_root-some s plan count fed planned c.in-Ok.ensures h.count

pub returns-in-Ok-clause-stays : goal.returns-in-Ok-clause-stays
returns-in-Ok-clause-stays c = λ fed h.
    let plan = c.in-Ok.plan in
    let s = c.args.self.now.settings in
    let count = c.args.self.now.fed in
    let levels = most_level_count s in
    let planned = c.planned.ensures in
    let same : plan ≡ _ = plan_of_file-is plan s count c.in-Ok.ensures in
    let settings : plan.settings ≡ s = ap (λ (p : PlanFields). p.settings) same in
    let stood = IsFedFile-parted c.args.self.now _ c.args.memory.now c.split_at_mut-opened.result.0.now
    c.split_at_mut-opened.result.1.now fed c.open_length.ensures.value c.split_at_mut-opened.ensures.front
    c.split_at_mut-opened.ensures.back h in
    let stands = c.root_of_fed.ensures.stays levels fed (file_levels plan s count planned c.in-Ok.ensures)
    (file_room plan s count levels _ c.in-Ok.ensures
    (c.split_at_mut-opened.ensures.front_len ∙ c.open_length.ensures.value))
    (h.count ∙ sym (ap (λ (p : PlanFields). p.wanted) same))
    (subst (λ (t : TreeSettingsFields). HasFed t levels fed c.split_at_mut-opened.result.0.now c.split_at_mut-opened.result.1.now)
    (sym settings) stood) in
    record {
      count = h.count;
      stands = joined (λ (xs ys : List ℕ). HasFed s levels fed xs ys) (levels * s.hash_block)
          c.root_of_fed.new.opened c.root_of_fed.new.window
          (c.root_of_fed.auto.opened ∙ c.split_at_mut-opened.ensures.front_len ∙ c.open_length.ensures.value)
          (subst (λ (t : TreeSettingsFields). HasFed t levels fed c.root_of_fed.new.opened c.root_of_fed.new.window)
          settings stands);
    }
