use Rattle.std.{proofs.{Common.{◌≡◌, ℕ, ◌+◌, ◌-◌, ◌<◌, ◌≤◌, length, ap, sym, ◌∙◌, arith, rules}, lemmas.Slice.overwrites}, specs.List.between}
use Rattle.sha_lanes.proofs.{Pieces.piece_put, rows.put.Goals.{then-from-at, else-from-at, then-piece_end-row_end, else-piece_end-row_end}}
use borrow.Rule.Slice.PartMut.{put_mid}
use Rattle.sha_lanes.proofs.rows.put.Goals as goal

pub returns-then-first-last-clause-joined : goal.returns-then-first-last-clause-joined
returns-then-first-last-clause-joined c m is holds i lt =
    let r = c.args.row.now in
    let at = c.args.at in
    let piece = c.args.piece.now in
    let first = c.if-from-at.first in
    let last = c.if-piece_end-row_end.last in
    let some : first < last = c.if-first-last.true in
    let fa : at ≤ first = elim c.if-from-at.branch [
      | then-from-at w ↦ omega (arith, w.first-is)
      | else-from-at w ↦ omega (arith, w.first-is, w.if-from-at.false)
    ] in
    let fm : length m ≤ first = elim c.if-from-at.branch [
      | then-from-at w ↦ omega (arith, w.first-is, w.if-from-at.true, is)
      | else-from-at w ↦ omega (arith, w.first-is, is)
    ] in
    let la : last ≤ at + length r = elim c.if-piece_end-row_end.branch [
      | then-piece_end-row_end w ↦ omega (arith, w.last-is, w.if-piece_end-row_end.true)
      | else-piece_end-row_end w ↦ omega (arith, w.last-is)
    ] in
    let lm : last ≤ length m + length piece = elim c.if-piece_end-row_end.branch [
      | then-piece_end-row_end w ↦ omega (arith, w.last-is, is)
      | else-piece_end-row_end w ↦ omega (arith, w.last-is, w.if-piece_end-row_end.false, is)
    ] in
    let begins = λ (p : ℕ) (ga : at ≤ p) (gm : length m ≤ p).
    let e : first ≤ p = elim c.if-from-at.branch [
      | then-from-at w ↦ omega (arith, w.first-is)
      | else-from-at w ↦ omega (arith, w.first-is, is)
    ] in
    e in
    let ends = λ (p : ℕ) (ga : p < at + length r) (gm : p < length m + length piece).
    let e : p < last = elim c.if-piece_end-row_end.branch [
      | then-piece_end-row_end w ↦ omega (arith, w.last-is, is)
      | else-piece_end-row_end w ↦ omega (arith, w.last-is)
    ] in
    e in
    let copied : c.copy_from_slice.new.self ≡ between (first - length m) (last - length m) piece =
    c.copy_from_slice.ensures.after ∙ ap (λ z. between (first - z) (last - z) piece) (sym is) in
    let same : length (put_mid (first - at) (last - at - (first - at)) r c.copy_from_slice.new.self) ≡ length r = search (rules, overwrites) in
    let lt' : i < length r = omega (arith, same, lt) in
    piece_put r m piece at first last holds fa fm la lm some begins ends copied i lt'
