use Rattle.std.{proofs.Common.take, specs.{List.flat_map, Io.KnownBytes.Appends}}
use Rattle.command_line.proofs.writing.messages.write_pieces.Given as goal

abbrev pub invariant-loop-piece : goal.invariant-loop-piece
invariant-loop-piece g l =
    Appends (g.W.Write.contents l.fn.msgs) (g.W.Write.contents l.msgs) (flat_map (λ p. p.now) (take l.piece-index l.pieces))
