use Rattle.command_line.proofs.Prefixes.{prefix_of}
use Rattle.command_line.proofs.writing.messages.write_text.Goals as goal

pub returns-in-Ok-clause-prefix : goal.returns-in-Ok-clause-prefix
returns-in-Ok-clause-prefix g c =
    let prefix =
    prefix_of c.put_all.result c.as_bytes.result.now _ _ c.put_all.ensures.whole c.put_all.ensures.prefix in
    rw c.as_bytes.ensures.value at prefix

pub returns-in-Err-clause-prefix : goal.returns-in-Err-clause-prefix
returns-in-Err-clause-prefix g c =
    let prefix =
    prefix_of c.put_all.result c.as_bytes.result.now _ _ c.put_all.ensures.whole c.put_all.ensures.prefix in
    rw c.as_bytes.ensures.value at prefix
