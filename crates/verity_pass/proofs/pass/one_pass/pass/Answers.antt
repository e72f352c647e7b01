-- The one data block of a tree without levels.
use Rattle.{std.proofs.Common.{◌≡◌, ℕ, ◌+◌, ◌*◌, ◌∙◌, arith, ap, length, refl, subst, take}, verity_hash.specs.Hashing.with_zeros}
use Rattle.{verity_pass.proofs.Passes.OnePass.{block-filled, not-of_device, one-block, one-root, stopped-below}, verity_io.specs.Reading.HasRead}
use Rattle.{verity_blocks.proofs.OpenBlocks.OpenBlock.{hash-by, length-hash}, verity_plan.specs.PlanCounts.level_count_of}
use Rattle.verity_pass.proofs.pass.one_pass.pass.Goals as goal

pub returns-in-Ok-clause-run : goal.returns-in-Ok-clause-run
returns-in-Ok-clause-run g c =
    let p = c.args.plan.now in
    let bytes = g.S.Source.remaining c.args.source.now in
    let after = g.S.Source.remaining c.read_window.new.source in
    let window = c.read_window.new.window in
    let none : level_count_of p ≡ 0 = omega (arith, c.levels-2.ensures, c.if-levels-eq0.true) in
    let only = one-block p c.planned.ensures none in
    let no_open : c.levels.result * c.hash_block-2.result ≡ 0 * c.hash_block-2.result =
    ap (λ (k : ℕ). k * c.hash_block-2.result) (c.levels.ensures ∙ none) in
    let long : length window ≡ p.settings.data_block =
    omega (
      arith,
      c.read_window.auto.window,
      c.fill.auto.self,
      c.split_at_mut-opened.ensures.back_len,
      c.split_at_mut-work.ensures.front_len,
      c.requires,
      no_open,
      c.hash_block.ensures,
      ap (λ (k : ℕ). k * p.settings.hash_block) none,
    ) in
    let all : c.in-Ok.count ≡ p.wanted = omega (arith, c.in-Ok.ensures.size, only.within, long, c.read_window.auto.window) in
    let same : 0 + c.in-Ok.count ≡ p.wanted = omega (arith, all) in
    let digest = hash-by _ _ _ _ c.settings.ensures c.hash.ensures in
    let reads = λ (tells : g.S.Source.tells c.args.source.now).
    c.in-Ok.ensures.read tells bytes (record { enough = omega arith; rest = refl }) in
    record {
      size = ap length digest ∙ length-hash p.settings _;
      source_counted = c.in-Ok.ensures.count;
      device_counted = refl;
      read = λ tells.
          let read = subst (λ (k : ℕ). HasRead k bytes after) same (reads tells).0 in (
            digest ∙ one-root p bytes after _ c.planned.ensures none read
                (block-filled c.in-Ok.count p.settings.data_block window c.fill-in-Ok.new.self bytes (omega (arith, all, only.within)) long (omega (arith, (reads tells).0.enough)) (reads tells).1 (c.fill-in-Ok.ensures.after (λ y e. e))
                ∙ ap (λ (k : ℕ). with_zeros p.settings.data_block (take k bytes)) all),
            read,
          );
      keeps = λ told first. first;
      leaves = λ tells told first. rw (← only.none_close p.blocks (omega arith)) at first;
    }

pub returns-in-Err-clause-run : goal.returns-in-Err-clause-run
returns-in-Err-clause-run g c =
    let p = c.args.plan.now in
    let stop = c.in-Err.stop in
    let bytes = g.S.Source.remaining c.args.source.now in
    let none : level_count_of p ≡ 0 = omega (arith, c.levels-2.ensures, c.if-levels-eq0.true) in
    let only = one-block p c.planned.ensures none in
    let stops = λ (tells : g.S.Source.tells c.args.source.now).
    c.in-Err.ensures.read tells bytes (record { enough = omega arith; rest = refl }) in
    record {
      size = tt;
      source_counted = c.in-Err.ensures.count;
      device_counted = not-of_device stop.why _ _ refl;
      read = λ tells. (stops tells).stopped;
      keeps = λ told first. first;
      leaves = λ tells told first.
          let none_yet = only.none_close stop.block
          (omega (arith, stopped-below p stop.block bytes stop.why _ (stops tells).stopped)) in
          rw (← none_yet) at first;
    }
