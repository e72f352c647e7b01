use Rattle.std.proofs.{Common.{◌≡◌, [], ◌∷◌, ◌+◌, ◌*◌, ◌%◌, ◌^◌, ◌++◌, length, slice_index, refl, ap, sym, ◌∙◌, arith}, lemmas.List.length-append}
use Rattle.{std.specs.Int.{w128, to_be_bytes}, sha_lanes.{specs.Words64.block_count, proofs.Pieces.{empty_row, zeros_more, length-pieces}}}
use Rattle.sha_lanes.proofs.Padding64.{zero_count, before_length, length-before_length, padded_is}
use Rattle.sha_lanes.proofs.words64.padding.padded_row.Goals as goal

pub returns : goal.returns
returns g c =
    let before = c.args.before.now in
    let part = c.args.part.now in
    let after = c.args.after.now in
    let at = c.args.at in
    let m = before ++ part ++ after in
    let long : length m ≡ length before + length part + length after = length-pieces before part after (length part) refl in
    let first = c.put.ensures.joined [] refl (empty_row g.row.N at) in
    let second = c.put-2.ensures.joined before refl first in
    let third = c.put-3.ensures.joined (before ++ part) (length-append before part) second in
    let fourth = c.put-4.ensures.joined m long third in
    let last = c.put-5.ensures.joined (before_length m)
    (omega (arith, length-before_length m, ap block_count long, c.block_count.ensures))
    (zeros_more c.put-4.new.row (m ++ 0x80 ∷ []) at (zero_count (length m)) fourth) in
    let bits : c.to_be_bytes.result ≡ to_be_bytes w128 (length m * 8 % 2 ^ 128) =
    c.to_be_bytes.ensures ∙ ap (λ z. to_be_bytes w128 (z * 8 % 2 ^ 128)) (sym long) in
    let whole = ap (λ z. before_length m ++ z) bits ∙ padded_is m in
    λ i lt. last i lt ∙ ap (λ z. slice_index z (at + i)) whole
