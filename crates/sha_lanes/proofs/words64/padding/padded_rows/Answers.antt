use Rattle.std.proofs.Common.{◌≡◌, ◌+◌, ◌-◌, ◌*◌, ◌≤◌, ◌++◌, length, slice_index, take, drop, ap, ◌∙◌, arith, rules, below_more}
use Rattle.{std.proofs.lemmas.Slice.overwrites, sha2.specs.Sha512.padded_message}
use Rattle.sha_lanes.{specs.Words64.padded_row, proofs.{Pieces.{row_written, row_kept, length-part, length-pieces}, Padding64.row_filled}}
use Rattle.sha_lanes.proofs.words64.padding.padded_rows.Goals as goal

pub loop-j-preserved : goal.loop-j-preserved
loop-j-preserved c =
    let j = c.loop-j.j in
    let before = c.args.before.now in
    let parts = c.args.parts.now in
    let len = c.args.len in
    let after = c.args.after.now in
    let at = c.args.at in
    let written = c.copy_from_slice.new.self in
    let k = j * 128 + 128 - j * 128 in
    let place = slice_index c.places_of-places.result j in
    let width : place + len - place ≡ len = omega arith in
    let inside = c.places_of-places.ensures.inside j (omega (arith, c.loop-j-test.true)) in
    let room : j * 128 ≤ length c.loop-j.rows = omega (arith, c.loop-j.invariant.long) in
    let part = take len (drop place parts) in
    let pieces : length (before ++ part ++ after) ≡ length before + len + length after =
    length-pieces before part after len (length-part parts len place inside) in
    let of_part : padded_message (before ++ take (place + len - place) (drop place parts) ++ after) ≡ padded_message (before ++ part ++ after) =
    ap (λ z. padded_message (before ++ take z (drop place parts) ++ after)) width in
    let row : length c.padded_row.result ≡ 128 = search rules in
    let size : length written ≡ 128 = ap length c.copy_from_slice.ensures.after ∙ row in
    let is : written ≡ padded_row (before ++ part ++ after) at =
    c.copy_from_slice.ensures.after
    ∙ row_filled c.padded_row.result (before ++ part ++ after) at (length before + len + length after) pieces row c.requires.inside
    (λ i lt. c.padded_row.ensures i lt ∙ ap (λ z. slice_index z (at + i)) of_part) in
    record {
      long = search (rules, overwrites);
      written = below_more _ _
          (λ i lt within. row_kept 128 i j c.loop-j.rows written k lt room ∙ c.loop-j.invariant.written i lt within)
          (λ within.
          row_written 128 j c.loop-j.rows written k room size ∙ is
          ∙ ap (λ z. padded_row (before ++ take len (drop z parts) ++ after) at)
          (c.places_of-places.ensures.own j (omega (arith, c.loop-j-test.true)) within));
    }
