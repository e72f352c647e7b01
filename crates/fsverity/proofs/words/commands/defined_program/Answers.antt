use Rattle.fsverity.specs.Words.CommandLines.{fsverity_app, digest_app}
use Rattle.fsverity.proofs.words.commands.defined_program.Goals as goal

pub returns-clause-defined : goal.returns-clause-defined
unfolding fsverity_app digest_app
returns-clause-defined c = c.program.ensures.defined
