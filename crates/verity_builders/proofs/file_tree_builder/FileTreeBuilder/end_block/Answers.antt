use Rattle.std.proofs.{Common.{List, ap, arith, subst, sym, false, refl, ℕ, ◌*◌, ◌∙◌, ◌≡◌}, lemmas.Bool.Decides.nat_tests}
use Rattle.{std.specs.Prelude.{Err, nat_lt}, verity_builders.proofs.file_tree_builder.FileTreeBuilder.end_block.Goals.After-split_at_mut-opened}
use Rattle.verity_builders.{proofs.FilePlans.{file_levels, file_room, no-levels, plan_of_file-is}, specs.FileTrees.{IsFedFileTree, levels_of_file}}
use Rattle.verity_builders.proofs.{Trees.TreeMemory.{IsFedFile-parted, joined}, Files.FileTreeMemory.{file-of_tree, tree-of_file}}
use Rattle.verity_plan.{proofs.CountLemmas.mul_le, specs.{Plans.{PlanFields, plan_for_bytes, plan_of_file}, PlanCounts.most_level_count}}
use Rattle.verity_plan.specs.{Settings.TreeSettingsFields, declared.plan_fault.PlanFault.{PlanFault, TheVariants.NoData}}
use Rattle.verity_blocks.specs.{Levels.data_blocks, Steps.Feeding.HasFed, TreeOnDevice.tree_block}
use Rattle.verity_builders.proofs.file_tree_builder.FileTreeBuilder.end_block.Goals as goal

pub last_block_of_fed-requires-clause-opened : goal.last_block_of_fed-requires-clause-opened
last_block_of_fed-requires-clause-opened c =
    let plan = c.in-Ok.plan in
    let s = c.args.self.now.settings in
    let room = file_room plan s c.args.self.now.fed (most_level_count s) _ c.in-Ok.ensures
    (c.split_at_mut-opened.ensures.front_len ∙ c.open_length-from.ensures.value) in
    let most = file_levels plan s c.args.self.now.fed c.planned.ensures c.in-Ok.ensures in
    omega (arith, mul_le _ _ plan.settings.hash_block most, room)

-- the plan is that of the file that ends here
plan-is : (c : After-split_at_mut-opened) → c.in-Ok.plan ≡ plan_of_file c.args.self.now.settings c.args.self.now.fed
plan-is c = plan_of_file-is c.in-Ok.plan c.args.self.now.settings c.args.self.now.fed c.in-Ok.ensures

-- what was fed stands in the memory's two parts
stood : (c : After-split_at_mut-opened) → (fed : List ℕ) → IsFedFileTree c.args.self.now c.args.memory.now fed
    → HasFed c.in-Ok.plan.settings (most_level_count c.args.self.now.settings) fed c.split_at_mut-opened.result.0.now
    c.split_at_mut-opened.result.1.now
stood c fed h =
    let b = c.args.self.now in
    let settings : c.in-Ok.plan.settings ≡ b.settings = ap (λ (p : PlanFields). p.settings) (plan-is c) in
    subst (λ (t : TreeSettingsFields). HasFed t (most_level_count b.settings) fed c.split_at_mut-opened.result.0.now
    c.split_at_mut-opened.result.1.now) (sym settings)
    (IsFedFile-parted (record { settings = b.settings; fed = b.fed }) c.open_length-from.result c.args.memory.now
    c.split_at_mut-opened.result.0.now c.split_at_mut-opened.result.1.now fed c.open_length-from.ensures.value
    c.split_at_mut-opened.ensures.front c.split_at_mut-opened.ensures.back
    (file-of_tree b c.args.memory.now fed (omega (arith, c.if-self-gt0.false)) h))

pub returns-else-level-levels-clause-block : goal.returns-else-level-levels-clause-block
returns-else-level-levels-clause-block c = λ fed h.
    let plan = c.in-Ok.plan in
    let b = c.args.self.now in
    let s = b.settings in
    let at = (goal.at.returns-else-level-levels-clause-block c).After-split_at_mut-opened in
    let same = plan-is at in
    let size = c.split_at_mut-opened.ensures.front_len ∙ c.open_length-from.ensures.value in
    let index = c.last_block_of_fed.result in
    c.last_block_of_fed.ensures.block (most_level_count s) fed
    (file_levels plan s b.fed c.planned.ensures c.in-Ok.ensures)
    (file_room plan s b.fed (most_level_count s) _ c.in-Ok.ensures size)
    (h.count ∙ sym (ap (λ (p : PlanFields). p.wanted) same)) (stood at fed h)
    ∙ ap (λ (p : PlanFields). tree_block p.settings (data_blocks p fed) c.args.level index) same
    ∙ ap (λ (n : ℕ). tree_block s (data_blocks (plan_of_file s n) fed) c.args.level index) (sym h.count)

pub returns-else-level-levels-clause-stays : goal.returns-else-level-levels-clause-stays
returns-else-level-levels-clause-stays c = λ fed h.
    let plan = c.in-Ok.plan in
    let b = c.args.self.now in
    let s = b.settings in
    let levels = most_level_count s in
    let at = (goal.at.returns-else-level-levels-clause-stays c).After-split_at_mut-opened in
    let same = plan-is at in
    let settings : plan.settings ≡ s = ap (λ (p : PlanFields). p.settings) same in
    let size = c.split_at_mut-opened.ensures.front_len ∙ c.open_length-from.ensures.value in
    let stands = c.last_block_of_fed.ensures.stays levels fed
    (file_levels plan s b.fed c.planned.ensures c.in-Ok.ensures) (file_room plan s b.fed levels _ c.in-Ok.ensures size)
    (h.count ∙ sym (ap (λ (p : PlanFields). p.wanted) same)) (stood at fed h) in
    tree-of_file b _ fed (omega (arith, c.if-self-gt0.false)) (record {
      count = h.count;
      stands = joined (λ (xs ys : List ℕ). HasFed s levels fed xs ys) (levels * s.hash_block)
          c.last_block_of_fed.new.opened c.last_block_of_fed.new.window (c.last_block_of_fed.auto.opened ∙ size)
          (subst (λ (t : TreeSettingsFields). HasFed t levels fed c.last_block_of_fed.new.opened
          c.last_block_of_fed.new.window) settings stands);
    })

pub returns-in-Err-NoData-clause-fault : goal.returns-in-Err-NoData-clause-fault
returns-in-Err-NoData-clause-fault c =
    let b = c.args.self.now in
    let is : plan_for_bytes b.settings b.fed 0 ≡ Err NoData =
    sym (ap (λ (f : PlanFault). Err f) (sym c.in-Err-NoData.field-0-is) ∙ c.in-Err-NoData.ensures) in
    let low : levels_of_file b.settings b.fed ≡ 0 = no-levels b.settings b.fed (sym is) in
    let open_is : nat_lt 0 b.closed ≡ false = grind (arith, nat_tests, c.if-self-gt0.false) in
    let tested : nat_lt c.args.level (levels_of_file b.settings b.fed) ≡ false = grind (arith, nat_tests, low) in
    rw (open_is, is, tested) refl
