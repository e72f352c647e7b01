use Rattle.std.proofs.Common.{List, ap, arith, length, refl, rules, subst, sym, take, true, ℕ, ◌+◌, ◌<◌, ◌∙◌, ◌≡◌, Some, None}
use Rattle.{std.{proofs.lemmas.Bool.Decides.nat_tests, specs.Prelude.{Err, Result, if◌then◌else◌, nat_lt}}, verity_io.specs.Writing.most_bytes}
use Rattle.verity_plan.{specs.{declared.plan_fault.PlanFault.{PlanFault, TheVariants.NoData}, PlanCounts.most_level_count}, proofs.CountLemmas.mul_le}
use Rattle.{verity_plan.specs.Plans.{PlanFields, plan_for_bytes, plan_of_file}, verity_blocks.specs.Steps.Feeding.{FeedsOn, Stands}}
use Rattle.verity_builders.{specs.{Feeding.is_too_large, FileTrees.{IsFedFileTree, levels_of_file}}, proofs.Files.FileTreeBlocks.Stands-moves}
use Rattle.{verity_builders.specs.declared.feed_fault.FeedFault.TheVariants.{Level, TooLarge}, verity_blocks.proofs.ClosingSteps.Advancing.length-fed}
use Rattle.verity_builders.proofs.FilePlans.{file_levels, file_room, no-levels, plan_of_file-is, plan_of_file-large}
use Rattle.verity_builders.proofs.Files.FileTreeMemory.{FeedsFile-none, FeedsFile-some, HasFedOnFile, IsFedFileTree-parted}
use Rattle.verity_builders.proofs.file_tree_builder.FileTreeBuilder.feed.Goals.{After-feed_before_end-taken}
use Rattle.verity_builders.proofs.file_tree_builder.FileTreeBuilder.feed.Goals as goal

pub returns-in_default-clause-fault : goal.returns-in_default-clause-fault
returns-in_default-clause-fault c =
    let b = c.args.self.now in
    let count = b.fed + length c.args.piece.now in
    let past : most_bytes < count = omega (arith, c.in_default.ensures) in
    sym (ap (λ (r : Result PlanFields PlanFault). if is_too_large r then Some TooLarge
    else (if nat_lt (levels_of_file b.settings count) b.closed then Some Level else None))
    (plan_of_file-large b.settings count c.open_length-from.ensures.valid past))

pub returns-then-self-gt0-clause-fault : goal.returns-then-self-gt0-clause-fault
returns-then-self-gt0-clause-fault c =
    let b = c.args.self.now in
    let s = b.settings in
    let count = b.fed + length c.args.piece.now in
    let sum : c.in-Some.count ≡ count = omega (arith, c.in-Some.ensures) in
    let is : plan_for_bytes s count 0 ≡ Err NoData =
    rw sum at (sym (ap (λ (f : PlanFault). Err f) (sym c.in-Err-NoData.field-0-is) ∙ c.in-Err-NoData.ensures)) in
    let low : levels_of_file s count ≡ 0 = no-levels s count (sym is) in
    let tested : nat_lt (levels_of_file s count) b.closed ≡ true = grind (arith, nat_tests, low, c.if-self-gt0.true) in
    rw (is, tested) refl

-- the plan is that of the file with this piece
pub feed_before_end-taken-requires : goal.feed_before_end-taken-requires
feed_before_end-taken-requires c =
    let plan = c.in-Ok.plan in
    let s = c.args.self.now.settings in
    let size = c.split_at_mut-opened.ensures.front_len ∙ c.open_length-from.ensures.value in
    let room = file_room plan s c.in-Some.count (most_level_count s) _ c.in-Ok.ensures size in
    let most = file_levels plan s c.in-Some.count c.planned.ensures c.in-Ok.ensures in
    let wanted : plan.wanted ≡ c.in-Some.count =
    ap (λ (p : PlanFields). p.wanted) (plan_of_file-is plan s c.in-Some.count c.in-Ok.ensures) in
    record {
      step = record {
        planned = c.planned.ensures;
        own = omega (arith, c.levels-levels.ensures);
        open_room = rw c.levels-levels.ensures (omega (arith, mul_le _ _ plan.settings.hash_block most, room));
        window_room = search rules;
        most = omega (arith, wanted, c.in-Some.ensures);
        within = omega (arith, c.if-self-levels.false);
        early = λ _. omega (arith, c.if-self-levels.false, c.levels-levels.ensures);
      };
      most = omega (arith, wanted, c.in-Some.ensures);
    }

-- what was fed stands in the memory's two parts after the step
fed-on : (c : After-feed_before_end-taken) → (fed : List ℕ) → IsFedFileTree c.args.self.now c.args.memory.now fed
    → HasFedOnFile c.args.self.now c.in-Some.count c.feed_before_end-taken.new.progress.fed
    c.feed_before_end-taken.new.progress.closed fed (take c.feed_before_end-taken.result.0 c.args.piece.now)
    c.feed_before_end-taken.result.1 c.feed_before_end-taken.new.opened c.feed_before_end-taken.new.window
fed-on c fed h =
    let b = c.args.self.now in
    let s = b.settings in
    let levels = most_level_count s in
    let count = c.in-Some.count in
    let plan = c.in-Ok.plan in
    let step = c.feed_before_end-taken in
    let same : plan ≡ plan_of_file s count = plan_of_file-is plan s count c.in-Ok.ensures in
    let room = c.split_at_mut-opened.ensures.front_len ∙ c.open_length-from.ensures.value in
    let some : 0 < length c.args.piece.now = grind (arith, nat_tests, c.if-is_empty.false, c.if-is_empty.ensures) in
    let stood = IsFedFileTree-parted b c.open_length-from.result c.args.memory.now c.split_at_mut-opened.result.0.now
    c.split_at_mut-opened.result.1.now fed c.open_length-from.ensures.value c.split_at_mut-opened.ensures.front
    c.split_at_mut-opened.ensures.back h in
    let moved = Stands-moves s levels b.closed (length fed + 1) count fed c.split_at_mut-opened.result.0.now
    c.split_at_mut-opened.result.1.now c.open_length-from.ensures.valid (omega arith)
    (omega (arith, h.count, some, c.in-Some.ensures)) stood in
    record {
      valid = c.open_length-from.ensures.valid;
      had = h.count;
      has = length-fed fed c.args.piece.now b.fed step.result.0 step.new.progress.fed h.count step.ensures.most step.ensures.fed;
      long = step.auto.opened ∙ room;
      most = omega (arith, step.ensures.fed, step.ensures.most, c.in-Some.ensures);
      before_end = λ yes. omega (arith, step.ensures.before_end yes, step.ensures.fed, c.in-Some.ensures);
      none_waits = λ no. (step.ensures.none_closes no).1 some;
      on = subst (λ (p : PlanFields). FeedsOn p levels fed b.closed (take step.result.0 c.args.piece.now) step.result.1
          step.new.progress.closed step.new.opened step.new.window) same
          (step.ensures.stands levels fed
          (omega (arith, file_levels plan s count c.planned.ensures c.in-Ok.ensures, c.levels-levels.ensures))
          (file_room plan s count levels _ c.in-Ok.ensures room) h.count
          (subst (λ (p : PlanFields). Stands p levels fed b.closed c.split_at_mut-opened.result.0.now
          c.split_at_mut-opened.result.1.now) (sym same) moved));
    }

pub returns-then-closes-clause-takes : goal.returns-then-closes-clause-takes
returns-then-closes-clause-takes c =
    let step = c.feed_before_end-taken.ensures in
    let s = c.args.self.now.settings in
    let same : c.in-Ok.plan.settings ≡ s =
    ap (λ (p : PlanFields). p.settings) (plan_of_file-is c.in-Ok.plan s c.in-Some.count c.in-Ok.ensures) in
    record {
      settings_are = refl;
      fed_is = step.fed;
      most = step.most;
      all = λ none. absurd cc;
      none_waits = λ none some. absurd cc;
      nothing = λ none. absurd (omega (arith, none, step.before_end c.if-closes.true));
      placed = λ block is.
          let out : c.closed_block.result ≡ block = cc in rw (← out, ← same) c.closed_block.ensures.placed;
      before_end = λ block is. step.before_end c.if-closes.true;
      rises = λ block is none. (step.closes c.if-closes.true).2 none;
    }

pub returns-then-closes-clause-fed : goal.returns-then-closes-clause-fed
returns-then-closes-clause-fed c = λ fed h.
    let s = c.args.self.now.settings in
    let same : c.in-Ok.plan.settings ≡ s =
    ap (λ (p : PlanFields). p.settings) (plan_of_file-is c.in-Ok.plan s c.in-Some.count c.in-Ok.ensures) in
    FeedsFile-some c.args.self.now c.in-Some.count _ _ fed _ c.feed_before_end-taken.new.opened
    c.feed_before_end-taken.new.window c.closed_block.result
    (rw (← c.if-closes.true) (fed-on (goal.at.returns-then-closes-clause-fed c).After-feed_before_end-taken fed h))
    (rw (← same) c.closed_block.ensures.placed)

pub returns-else-closes-clause-fed : goal.returns-else-closes-clause-fed
returns-else-closes-clause-fed c = λ fed h.
    FeedsFile-none c.args.self.now c.in-Some.count _ _ fed _ c.feed_before_end-taken.new.opened
    c.feed_before_end-taken.new.window
    (rw (← c.if-closes.false) (fed-on (goal.at.returns-else-closes-clause-fed c).After-feed_before_end-taken fed h))
