use Rattle.std.proofs.{Common.{◌≡◌, ℕ, ◌+◌, ◌-◌, ◌%◌, ◌<◌, ◌≤◌, [], List, get_or, length, arith, ap, ◌∙◌, inl}, lemmas.List.get_or_default}
use Rattle.verity_plan.{proofs.{CountLemmas.mul_le, FanLemmas.fan-two}, specs.{PlanCounts.level_count_of, Plans.{IsPlan, PlanFields}, Settings.fan}}
use Rattle.verity_blocks.{proofs.OpenBlocks.{OpenBlock.length-hash, DigestsInTurn.IsCarrying-first}, specs.Steps.OpenBlocks.level_digest}
use Rattle.verity_blocks.proofs.ClosedLevel.{HasOpenBlocks-added, some-level}
use Rattle.verity_blocks.proofs.open_blocks.add_batch.Goals as goal

-- a row's digest, as it is read from all of them
row-digest : (digests : List (List ℕ)) (row count : ℕ) (read : List ℕ) (of : ℕ → List ℕ) → length digests ≡ 8
    → count ≤ 8
    → ((r : ℕ) → r < count → get_or digests r [] ≡ of r) → row < count → get_or digests row read ≡ of row
row-digest digests row count read of long most each below =
    get_or_default digests row read [] (omega arith) ∙ each row below

-- above two data blocks there is a level
has-level : (p : PlanFields) → IsPlan p → 1 < p.blocks → 0 < level_count_of p
has-level p planned more = some-level (fan p.settings) p.blocks (fan-two p.settings planned.valid) more

pub loop-row-init : goal.loop-row-init
loop-row-init c = λ blocks levels many enough room holds stands.
    let e : c.args.i ≡ c.args.i + 0 = omega arith in
    rw e at stands

pub add_digest-requires-clause-room : goal.add_digest-requires-clause-room
add_digest-requires-clause-room c =
    let p = c.args.plan.now in
    let some = has-level p c.requires.planned (omega (arith, c.requires.batch.below, c.loop-row-test.true)) in
    omega (arith, mul_le 1 (level_count_of p) p.settings.hash_block some, c.requires.room, c.loop-row.auto.opened)

pub loop-row-preserved : goal.loop-row-preserved
loop-row-preserved c = λ blocks levels many enough room holds stands.
    let p = c.args.plan.now in
    let s = p.settings in
    let r = c.loop-row.row in
    let i = c.args.i + r in
    let low : r + 1 < c.args.count = omega (arith, c.loop-row-test.true) in
    let some = has-level p c.requires.planned (omega (arith, c.requires.batch.below, low)) in
    let before : i + 1 < length blocks = omega (arith, c.requires.batch.below, low, many) in
    let apart : (i % fan s + 1 ≡ fan s) → ⊥ =
    λ full. c.requires.batch.none_closes i (omega arith) (omega (arith, low)) (inl full) in
    let digest = row-digest c.digest_rows-digests.result r c.args.count c.index-digests-row.result _ (omega arith)
    c.requires.batch.most c.digest_rows-digests.ensures (omega (arith, low)) in
    let carrying = IsCarrying-first s blocks i levels c.loop-row.opened _ (digest ∙ holds r (omega (arith, low)))
    (c.loop-row.invariant blocks levels many enough room holds stands) in
    let added = HasOpenBlocks-added s blocks i levels c.add_digest.result c.add_digest.new.opened before apart
    (c.add_digest.ensures.adds blocks levels many (omega (arith, some, enough))
    (omega (arith, room, c.loop-row.auto.opened)) carrying) in
    let e : i + 1 ≡ c.args.i + (r + 1) = omega arith in
    rw e at added

pub returns-clause-adds : goal.returns-clause-adds
returns-clause-adds c = λ blocks levels many enough room holds stands.
    let s = c.args.plan.now.settings in
    let m = c.args.count - 1 in
    let some = c.requires.batch.some in
    let last : c.args.i + m ≡ c.args.i + c.args.count - 1 = omega (arith, some) in
    let all : c.args.i + c.loop-row.row ≡ c.args.i + c.args.count - 1 =
    omega (arith, c.loop-row-test.false, c.loop-row.auto.row-end, some) in (
      rw all at (c.loop-row.invariant blocks levels many enough room holds stands),
      row-digest c.digest_rows-digests.result m c.args.count c.index-digests-count.result _ (omega arith)
          c.requires.batch.most c.digest_rows-digests.ensures (omega (arith, some))
          ∙ holds m (omega (arith, some)) ∙ ap (λ (n : ℕ). level_digest s blocks n 0) last,
    )

pub add_digest-requires-clause-size : goal.add_digest-requires-clause-size
add_digest-requires-clause-size c =
    ap length
    (row-digest c.digest_rows-digests.result c.loop-row.row c.args.count c.index-digests-row.result _ (omega arith)
    c.requires.batch.most c.digest_rows-digests.ensures (omega (arith, c.loop-row-test.true)))
    ∙ length-hash c.args.plan.now.settings _

pub returns-clause-size : goal.returns-clause-size
returns-clause-size c =
    ap length
    (row-digest c.digest_rows-digests.result (c.args.count - 1) c.args.count c.index-digests-count.result _ (omega arith)
    c.requires.batch.most c.digest_rows-digests.ensures (omega (arith, c.requires.batch.some)))
    ∙ length-hash c.args.plan.now.settings _
