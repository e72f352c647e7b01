use Rattle.{std.proofs.Common.◌∙◌, verity_io.proofs.Padded.put_padded}
use Rattle.verity_io.proofs.memory_device.put_at.Goals as goal

pub returns-in-Ok-clause-ok : goal.returns-in-Ok-clause-ok
returns-in-Ok-clause-ok c =
    c.overwrite.ensures.bytes
    ∙ put_padded c.args.bytes.now.items c.args.others.now c.args.at c.fill_up.new.bytes.items c.in-Ok.ensures.ok
