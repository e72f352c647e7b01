use Rattle.{std.{proofs.Common.{◌≡◌, take, string_bytes}, specs.List.flat_map}, command_line.specs.SystemWords.escaped_byte}
use Rattle.command_line.proofs.words.system_words.escaped_word.Given as goal

abbrev pub invariant-loop-byte : goal.invariant-loop-byte
invariant-loop-byte l = string_bytes l.escaped ≡ flat_map escaped_byte (take l.byte-index l.word)
