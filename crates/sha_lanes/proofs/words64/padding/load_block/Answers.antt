use Rattle.std.proofs.{Common.{◌≡◌, ◌+◌, ◌*◌, ◌≤◌, ◌++◌, length, take, drop, ap, ◌∙◌, arith, rules, inl, inr}, lemmas.List.length-take-le}
use Rattle.sha_lanes.{specs.Words64.{block_count, padded_row}, proofs.{Pieces.length-pieces, Padding64.{row_filled, padded_part, padded_outside}}}
use Rattle.sha2.specs.Sha512 as S512
use Rattle.sha_lanes.proofs.words64.padding.load_block.Goals as goal

pub returns-then-at-end : goal.returns-then-at-end
returns-then-at-end c j lt within =
    c.load.ensures j lt within
    ∙ ap (λ z. S512.first_words z 16)
    (padded_part c.args.before.now c.args.parts.now c.args.len c.args.after.now j (c.args.k * 128) within
    c.if-start-at.true c.if-at-end.true)

pub returns-then-end-at : goal.returns-then-end-at
returns-then-end-at c j lt within =
    let before = c.args.before.now in
    let part = take c.args.len c.args.parts.now in
    let after = c.args.after.now in
    let at = c.args.k * 128 in
    let n = length before + c.args.len + length after in
    let room : at + 128 ≤ 128 * block_count n = omega (arith, c.requires.inside) in
    let pieces : length (before ++ part ++ after) ≡ n = length-pieces before part after c.args.len (length-take-le c.args.len c.args.parts.now c.requires.some) in
    let filled : c.padded_row.result ≡ padded_row (before ++ part ++ after) at =
    row_filled c.padded_row.result (before ++ part ++ after) at n pieces (search rules) room c.padded_row.ensures in
    c.load_same.ensures j lt
    ∙ ap (λ z. S512.first_words z 16)
    (filled
    ∙ padded_outside before c.args.parts.now c.args.len after j at within room
    (elim c.if-end-at.either [ inl early ↦ inl early | inr late ↦ inr late.1 ]))

pub returns-else-end-at : goal.returns-else-end-at
returns-else-end-at c j lt within =
    let first : j * 128 + 0 ≡ j * 128 = omega arith in
    c.load-else-end-at.ensures j lt (omega arith)
    ∙ ap (λ z. S512.first_words z 16)
    (ap (λ z. take 128 (drop z c.padded_rows.result)) first ∙ c.padded_rows.ensures j lt within)
