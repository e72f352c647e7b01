use Rattle.std.proofs.Common.{◌≡◌, ℕ, ◌+◌, ◌-◌, ◌*◌, ◌≤◌, [], List, ap, arith, drop, length, replicate, sym, take, ◌∙◌}
use Rattle.std.proofs.lemmas.List.{drop-replicate, get_or-replicate, take-replicate}
use Rattle.verity_plan.{proofs.CountLemmas.mul_le, specs.Settings.hash}
use Rattle.verity_blocks.proofs.side_by_side.digest_rows.Goals as goal

part-of-zeros : (rows : List ℕ) (at size : ℕ) → at + size ≤ length rows → rows ≡ replicate (length rows) 0
    → take size (drop at rows) ≡ replicate size 0
part-of-zeros rows at size within zeros =
    ap (λ (l : List ℕ). take size (drop at l)) zeros
    ∙ (ap (take {A = ℕ} size) (drop-replicate {X = ℕ} at (length rows) 0)
    ∙ take-replicate size (length rows - at) 0 (omega (arith, within)))

pub digest-requires : goal.digest-requires
digest-requires c =
    let size = c.args.plan.now.settings.data_block in
    rw (c.data_block-size.ensures, c.settings.ensures)
    (part-of-zeros c.args.rows.now 0 size
    (omega (arith, c.requires.whole, mul_le 1 c.args.count size c.requires.some))
    (c.are_zeros-then-are_zeros.ensures.0 c.if-are_zeros-2.true))

pub returns-then-are_zeros-2 : goal.returns-then-are_zeros-2
returns-then-are_zeros-2 c r below =
    let size = c.args.plan.now.settings.data_block in
    let zeros = c.are_zeros-then-are_zeros.ensures.0 c.if-are_zeros-2.true in
    let first = part-of-zeros c.args.rows.now 0 size
    (omega (arith, c.requires.whole, mul_le 1 c.args.count size c.requires.some)) zeros in
    let row = part-of-zeros c.args.rows.now (r * size) size
    (omega (arith, c.requires.whole, mul_le (r + 1) c.args.count size (omega (arith, below)))) zeros in
    let same = first ∙ sym row in
    get_or-replicate 8 r c.digest.result [] (omega (arith, below, c.requires.most))
    ∙ (c.digest.ensures ∙ rw (c.data_block-size.ensures, c.settings.ensures) (ap (hash c.args.plan.now.settings) same))
