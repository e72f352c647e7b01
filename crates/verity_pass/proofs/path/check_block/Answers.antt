use Rattle.std.proofs.{Common.{◌≡◌, ◌+◌, ◌*◌, ◌%◌, ◌<◌, ◌≤◌, below_more, length, drop, length-drop, arith, ap, sym, ◌∙◌}, lemmas.List.length-take-le}
use Rattle.{std.proofs.lemmas.{Nat.mod_below, Slice.Eq.bytes_eq-Decides}, verity_plan.specs.PlanCounts.level_count_of}
use Rattle.verity_plan.{specs.Settings.{fan, hash}, proofs.{CountLemmas.mul_le, PlanLemmas.store_few, IndexLemmas.quotient-next}}
use Rattle.{verity_blocks.proofs.OpenBlocks.{OpenBlock.hash-by, DigestsInTurn.range-is_run}, verity_pass.specs.Paths.HoldsAt}
use Rattle.verity_pass.proofs.{PathSteps.{bytes_eq-false, chain-more, digest_above-top, read-is}, Devices.StoredBlocks.digest-room}
use Rattle.verity_pass.proofs.path.check_block.Goals as goal

pub overflow_mul-levels : goal.overflow_mul-levels
overflow_mul-levels c = grind (arith, store_few c.args.plan.now c.blocks-2.ensures.planned)

pub has_digest-requires : goal.has_digest-requires
has_digest-requires c =
    let s = c.args.plan.now.settings in
    let path = c.args.path.now in
    let l = c.loop-level.level in
    let next : l + 1 ≤ level_count_of c.args.plan.now =
    omega (arith, c.loop-level-test.true, c.levels-levels.ensures) in
    let whole : length path ≡ level_count_of c.args.plan.now * s.hash_block = grind arith in
    let left : s.hash_block ≤ length (drop (l * s.hash_block) path) =
    omega (arith, length-drop (l * s.hash_block) path, whole, mul_le (l + 1) _ s.hash_block next) in
    let low : c.loop-level.index % c.fan-fan.result < fan s =
    omega (arith, mod_below c.loop-level.index c.fan-fan.result (omega arith), c.fan-fan.ensures.value) in
    omega (
      arith,
      digest-room s (c.loop-level.index % c.fan-fan.result) low c.fan-fan.ensures.fits,
      ap length (range-is_run s.hash_block l c.hash_block-size.result path c.hash_block-size.ensures),
      length-take-le s.hash_block (drop (l * s.hash_block) path) left,
    )

pub loop-level-preserved : goal.loop-level-preserved
loop-level-preserved c =
    let p = c.args.plan.now in
    let path = c.args.path.now in
    let l = c.loop-level.level in
    let above = range-is_run p.settings.hash_block l c.hash_block-size.result path c.hash_block-size.ensures in
    let read = read-is p c.args.i path c.args.root.now _ _ _ _ _ c.loop-level-test.true c.levels-levels.ensures
    c.hash_block-size.ensures c.fan-fan.ensures.value c.loop-level.invariant.quotient in
    let equal = (bytes_eq-Decides c.loop-level.digest _).0 (sym c.has_digest.ensures ∙ c.if-not-has_digest.false) in
    record {
      quotient = grind (arith, quotient-next (fan p.settings) c.args.i l);
      digest_is = hash-by _ _ _ _ c.settings-in-loop-level.ensures c.hash-digest-in-loop-level.ensures
          ∙ ap (hash p.settings) (above ∙ sym (chain-more p.settings c.args.block.now path l));
      below = below_more (HoldsAt p c.args.i c.args.block.now path c.args.root.now) l c.loop-level.invariant.below
          (sym c.loop-level.invariant.digest_is ∙ equal ∙ read);
    }

pub returns-then-not-has_digest : goal.returns-then-not-has_digest
returns-then-not-has_digest c =
    let p = c.args.plan.now in
    let read = read-is p c.args.i c.args.path.now c.args.root.now _ _ _ _ _ c.loop-level-test.true
    c.levels-levels.ensures c.hash_block-size.ensures c.fan-fan.ensures.value c.loop-level.invariant.quotient in
    record {
      index = omega (arith, c.if-i-blocks.false, c.blocks-2.ensures.value);
      lengths = record { of_block = grind arith; of_path = grind arith };
      within = omega (arith, c.loop-level-test.true, c.levels-levels.ensures);
      below = c.loop-level.invariant.below;
      fails = λ holds. bytes_eq-false c.loop-level.digest _ (sym c.has_digest.ensures ∙ c.if-not-has_digest.true)
          (c.loop-level.invariant.digest_is ∙ holds ∙ sym read);
    }

pub returns-then-eq : goal.returns-then-eq
returns-then-eq c =
    let p = c.args.plan.now in
    let i = c.args.i in
    let block = c.args.block.now in
    let path = c.args.path.now in
    let root = c.args.root.now in
    let top : c.loop-level.level ≡ level_count_of p =
    omega (arith, c.loop-level.auto.level-end, c.loop-level-test.false, c.levels-levels.ensures) in
    let equal = (bytes_eq-Decides c.as_bytes.result.now c.as_bytes-2.result.now).0 (sym c.eq.ensures ∙ c.if-eq.true) in
    let here : HoldsAt p i block path root c.loop-level.level =
    grind (arith, equal, digest_above-top p i path root c.loop-level.level (omega (arith, top))) in
    let all = below_more (HoldsAt p i block path root) c.loop-level.level c.loop-level.invariant.below here in
    record {
      index = omega (arith, c.if-i-blocks.false, c.blocks-2.ensures.value);
      lengths = record { of_block = grind arith; of_path = grind arith };
      holds = λ l within. all l (omega (arith, within, top));
    }

pub returns-else-eq : goal.returns-else-eq
returns-else-eq c =
    let p = c.args.plan.now in
    let i = c.args.i in
    let path = c.args.path.now in
    let root = c.args.root.now in
    let top : c.loop-level.level ≡ c.levels-levels.result =
    omega (arith, c.loop-level.auto.level-end, c.loop-level-test.false) in
    let above = digest_above-top p i path root c.levels-levels.result (omega (arith, c.levels-levels.ensures)) in
    record {
      index = omega (arith, c.if-i-blocks.false, c.blocks-2.ensures.value);
      lengths = record { of_block = grind arith; of_path = grind arith };
      within = omega (arith, c.levels-levels.ensures);
      below = λ m less. c.loop-level.invariant.below m (omega (arith, less, top));
      fails = λ holds. bytes_eq-false c.as_bytes.result.now c.as_bytes-2.result.now (sym c.eq.ensures ∙ c.if-eq.false)
          (grind (arith, top, holds, above));
    }
