use Rattle.veritysetup.specs.Words.CommandLines.{veritysetup_app, format_app, dump_app, verify_app}
use Rattle.veritysetup.proofs.words.commands.defined_program.Goals as goal

pub returns-clause-defined : goal.returns-clause-defined
unfolding veritysetup_app format_app dump_app verify_app
returns-clause-defined c = c.program.ensures.defined
