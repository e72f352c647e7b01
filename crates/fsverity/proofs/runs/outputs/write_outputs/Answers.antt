use Rattle.{std.proofs.Common.refl, command_line.proofs.Prefixes.Keeps-refl, verity_blocks.specs.Levels.root_of_file}
use Rattle.verity_pass.proofs.RootLevels.{length-root_of_file}
use Rattle.fsverity.proofs.runs.outputs.write_outputs.Goals as goal

pub returns-in-Err-clause-written : goal.returns-in-Err-clause-written
returns-in-Err-clause-written g c = record {
  root = root_of_file c.args.task.now.settings c.args.task.now.size (g.S.Source.remaining c.args.source.now);
  root_length = length-root_of_file _ _ _;
  root_is = λ told. refl;
  descriptor = Keeps-refl _;
  printed = Keeps-refl _;
}
