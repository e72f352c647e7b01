use Rattle.std.proofs.Common.{List, [], ap, arith, drop, length, length-append, refl, rules, subst, sym, take, ℕ, ◌*◌, ◌++◌, ◌+◌, ◌-◌, ◌∷◌, ◌<◌, ◌∙◌}
use Rattle.std.{proofs.{Common.◌≡◌, lemmas.List.{append-nil, take-append-drop}}, specs.Prelude.{Err, None, Result, Some, if◌then◌else◌}}
use Rattle.{verity_io.specs.Writing.most_bytes, verity_builders.{proofs.Files.SmallFiles.small-plan, specs.Feeding.{IsFedFile, is_too_large}}}
use Rattle.verity_builders.specs.declared.{feed_fault.FeedFault.TheVariants.TooLarge, file_builder.FileBuilder.FileBuilder}
use Rattle.{verity_builders.proofs.Trees.TreeMemory.{IsFedFile-parted, joined}, verity_blocks.specs.Steps.Feeding.HasFed}
use Rattle.verity_builders.proofs.FilePlans.{file_levels, file_room, plan_of_file-is, plan_of_file-large, plan_of_file-none}
use Rattle.verity_plan.{proofs.CountLemmas.mul_le, specs.{Plans.{PlanFields, plan_for_bytes}, PlanCounts.most_level_count}}
use Rattle.verity_plan.specs.{Settings.TreeSettingsFields, declared.plan_fault.PlanFault.{PlanFault, TheVariants.NoData}}
use Rattle.verity_builders.proofs.file_builder.FileBuilder.feed.Goals as goal

pub returns-in_default-clause-fault : goal.returns-in_default-clause-fault
returns-in_default-clause-fault c =
    let count = c.args.self.now.fed + length c.args.piece.now in
    let past : most_bytes < count = omega (arith, c.in_default.ensures) in
    sym (ap (λ (r : Result PlanFields PlanFault). if is_too_large r then Some TooLarge else None)
    (plan_of_file-large c.args.self.now.settings count c.window_length.ensures.valid past))

pub feed_all-requires : goal.feed_all-requires
feed_all-requires c =
    let plan = c.in-Ok.plan in
    let s = c.args.self.now.settings in
    let size : length c.split_at_mut-opened.result.0.now ≡ most_level_count s * s.hash_block =
    omega (arith, c.split_at_mut-opened.ensures.front_len, c.window_length.ensures.value, c.requires) in
    let room = file_room plan s c.in-Some.count (most_level_count s) _ c.in-Ok.ensures size in
    let most = file_levels plan s c.in-Some.count c.planned.ensures c.in-Ok.ensures in
    let wanted : plan.wanted ≡ c.in-Some.count =
    ap (λ (p : PlanFields). p.wanted) (plan_of_file-is plan s c.in-Some.count c.in-Ok.ensures) in
    record {
      step = record {
        planned = c.planned.ensures;
        own = omega arith;
        open_room = omega (arith, mul_le _ _ plan.settings.hash_block most, room);
        window_room = search rules;
        most = omega (arith, wanted, c.in-Some.ensures);
        within = omega arith;
        early = λ _. omega arith;
      };
      most = omega (arith, wanted, c.in-Some.ensures);
    }

pub returns-in-Ok-clause-fed : goal.returns-in-Ok-clause-fed
returns-in-Ok-clause-fed c = λ fed h.
    let plan = c.in-Ok.plan in
    let s = c.args.self.now.settings in
    let levels = most_level_count s in
    let from : length c.args.memory.now - c.window_length.result ≡ levels * s.hash_block =
    omega (arith, c.window_length.ensures.value, c.requires) in
    let size = c.split_at_mut-opened.ensures.front_len ∙ from in
    let same : plan.settings ≡ s =
    ap (λ (p : PlanFields). p.settings) (plan_of_file-is plan s c.in-Some.count c.in-Ok.ensures) in
    let window : c.take_short_piece.new.window ≡ c.split_at_mut-opened.result.1.now =
    c.take_short_piece.ensures.refused c.if-take_short_piece.false in
    let stood : HasFed s levels fed c.split_at_mut-opened.result.0.now c.take_short_piece.new.window =
    subst (λ (xs : List ℕ). HasFed s levels fed c.split_at_mut-opened.result.0.now xs) (sym window)
    (IsFedFile-parted c.args.self.now _ c.args.memory.now c.split_at_mut-opened.result.0.now
    c.split_at_mut-opened.result.1.now fed from c.split_at_mut-opened.ensures.front
    c.split_at_mut-opened.ensures.back h) in
    let stands = c.feed_all.ensures levels fed
    (file_levels plan s c.in-Some.count c.planned.ensures c.in-Ok.ensures)
    (file_room plan s c.in-Some.count levels _ c.in-Ok.ensures size) h.count
    (subst (λ (t : TreeSettingsFields). HasFed t levels fed c.split_at_mut-opened.result.0.now c.take_short_piece.new.window)
    (sym same) stood) in
    record {
      count = omega (arith, length-append fed c.args.piece.now, h.count, c.in-Some.ensures);
      stands = joined (λ (xs ys : List ℕ). HasFed s levels (fed ++ c.args.piece.now) xs ys) (levels * s.hash_block)
          c.feed_all.new.opened c.feed_all.new.window (c.feed_all.auto.opened ∙ size)
          (subst (λ (t : TreeSettingsFields). HasFed t levels (fed ++ c.args.piece.now) c.feed_all.new.opened c.feed_all.new.window)
          same stands);
    }

-- a list of no elements
no-bytes : (xs : List ℕ) → length xs ≡ 0 → xs ≡ []
no-bytes [] none = refl
no-bytes (x ∷ xs) none = absurd (omega arith)

-- a piece of no bytes
fed-none : (b : FileBuilder) (memory fed piece : List ℕ) → length piece ≡ 0 → IsFedFile b memory fed
    → IsFedFile b memory (fed ++ piece)
fed-none b memory fed piece none h =
    let empty : piece ≡ [] = no-bytes piece none in
    subst (λ (xs : List ℕ). IsFedFile b memory xs) (sym (ap (λ (xs : List ℕ). fed ++ xs) empty ∙ append-nil fed)) h

-- memory whose parts are as they were
memory-back : (from : ℕ) (memory opened window after : List ℕ) → opened ≡ take from memory → window ≡ drop from memory
    → after ≡ window → opened ++ after ≡ memory
memory-back from memory opened window after front back same =
    ap (λ (xs : List ℕ). xs ++ after) front
    ∙ ap (λ (xs : List ℕ). take from memory ++ xs) (same ∙ back)
    ∙ take-append-drop from memory

pub returns-in-Err-NoData-clause-fed : goal.returns-in-Err-NoData-clause-fed
returns-in-Err-NoData-clause-fed c = λ fed h.
    let s = c.args.self.now.settings in
    let is : Err NoData ≡ plan_for_bytes s c.in-Some.count 0 =
    ap (λ (f : PlanFault). Err f) (sym c.in-Err-NoData.field-0-is) ∙ c.in-Err-NoData.ensures in
    let none = plan_of_file-none s c.in-Some.count c.window_length.ensures.valid is in
    subst (λ (xs : List ℕ). IsFedFile c.args.self.now xs (fed ++ c.args.piece.now))
    (sym (memory-back _ c.args.memory.now c.split_at_mut-opened.result.0.now c.split_at_mut-opened.result.1.now
    c.take_short_piece.new.window c.split_at_mut-opened.ensures.front c.split_at_mut-opened.ensures.back
    (c.take_short_piece.ensures.refused c.if-take_short_piece.false)))
    (fed-none c.args.self.now c.args.memory.now fed c.args.piece.now (omega (arith, none, c.in-Some.ensures)) h)

pub returns-in-Err-TooLarge-clause-refused : goal.returns-in-Err-TooLarge-clause-refused
returns-in-Err-TooLarge-clause-refused c = (
  refl,
  memory-back _ c.args.memory.now c.split_at_mut-opened.result.0.now c.split_at_mut-opened.result.1.now
      c.take_short_piece.new.window c.split_at_mut-opened.ensures.front c.split_at_mut-opened.ensures.back
      (c.take_short_piece.ensures.refused c.if-take_short_piece.false),
)

pub returns-then-take_short_piece-clause-fault : goal.returns-then-take_short_piece-clause-fault
returns-then-take_short_piece-clause-fault c =
    let s = c.args.self.now.settings in
    let count = c.args.self.now.fed + length c.args.piece.now in
    let more = c.take_short_piece.ensures.some c.if-take_short_piece.true in
    sym (ap (λ (r : Result PlanFields PlanFault). if is_too_large r then Some TooLarge else None)
    (small-plan s count c.window_length.ensures.valid (omega (arith, more))
    (omega (arith, c.take_short_piece.ensures.small c.if-take_short_piece.true))))

pub returns-then-take_short_piece-clause-fed : goal.returns-then-take_short_piece-clause-fed
returns-then-take_short_piece-clause-fed c = λ fed h.
    let s = c.args.self.now.settings in
    let levels = most_level_count s in
    let from : length c.args.memory.now - c.window_length.result ≡ levels * s.hash_block =
    omega (arith, c.window_length.ensures.value, c.requires) in
    let stood = IsFedFile-parted c.args.self.now _ c.args.memory.now c.split_at_mut-opened.result.0.now
    c.split_at_mut-opened.result.1.now fed from c.split_at_mut-opened.ensures.front
    c.split_at_mut-opened.ensures.back h in
    record {
      count = omega (arith, length-append fed c.args.piece.now, h.count, c.in-Some.ensures);
      stands = joined (λ (xs ys : List ℕ). HasFed s levels (fed ++ c.args.piece.now) xs ys) (levels * s.hash_block)
          c.split_at_mut-opened.result.0.now c.take_short_piece.new.window
          (c.split_at_mut-opened.ensures.front_len ∙ from)
          (c.take_short_piece.ensures.fed c.if-take_short_piece.true s levels fed c.split_at_mut-opened.result.0.now
          (omega (arith, c.split_at_mut-opened.ensures.back_len, c.window_length.ensures.value, c.requires)) h.count stood);
    }
