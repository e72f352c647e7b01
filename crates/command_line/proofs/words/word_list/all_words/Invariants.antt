use Rattle.std.proofs.Common.{◌≡◌, map, take, string_bytes}
use Rattle.command_line.proofs.words.word_list.all_words.Given as goal

abbrev pub invariant-loop-number : goal.invariant-loop-number
invariant-loop-number g l =
    g.L.WordList.tells l.list → map string_bytes l.words.items ≡ take l.number (g.L.WordList.words l.list)
