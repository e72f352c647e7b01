use Rattle.command_line.proofs.words.system_words.not_utf8_message.Goals as goal

pub returns : goal.returns
returns c = rw c.in_ok-escaped.ensures at c.format.ensures.ok
