use Rattle.{std.proofs.lemmas.List.take_all, command_line.proofs.Prefixes.{prefix_of, prefix_whole, pieces_prefix, pieces_whole, appends_nothing}}
use Rattle.command_line.proofs.writing.messages.write_pieces.Goals as goal

pub loop-piece-init : goal.loop-piece-init
loop-piece-init g c = appends_nothing _

pub loop-piece-preserved : goal.loop-piece-preserved
loop-piece-preserved g c =
    let piece = rw c.as_bytes.ensures.value at c.in-Ok.ensures.whole in
    pieces_whole (λ p. p.now) c.args.pieces.now c.loop-piece.piece-index _ _ _ _ c.loop-piece-test.true
    c.loop-piece.invariant piece

pub returns-in-Err-clause-prefix : goal.returns-in-Err-clause-prefix
returns-in-Err-clause-prefix g c =
    let prefix =
    prefix_of c.put_all.result c.as_bytes.result.now _ _ c.put_all.ensures.whole c.put_all.ensures.prefix in
    pieces_prefix (λ p. p.now) c.args.pieces.now c.loop-piece.piece-index _ _ _ _ c.loop-piece-test.true
    c.loop-piece.invariant (rw c.as_bytes.ensures.value at prefix)

pub returns-clause-whole : goal.returns-clause-whole
returns-clause-whole g c =
    let all = take_all c.loop-piece.piece-index c.args.pieces.now c.loop-piece-test.false in
    λ _. rw all at c.loop-piece.invariant

pub returns-clause-prefix : goal.returns-clause-prefix
returns-clause-prefix g c =
    let all = take_all c.loop-piece.piece-index c.args.pieces.now c.loop-piece-test.false in
    prefix_whole _ _ _ (rw all at c.loop-piece.invariant)
