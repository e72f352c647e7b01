use Rattle.std.proofs.Common.{◌∙◌, sym}
use Rattle.verity_c_api.proofs.{PathLengthLemmas.{file_path-most, path-most}, LongestPaths.{longest_file_plan, longest_plan}}
use Rattle.verity_c_api.proofs.ParameterLemmas.{file_plan-made, file_settings-made, made-data_least, made-hash_block, plan-made}
use Rattle.verity_c_api.proofs.LongestPaths.{longest, longest-path, longest-planned, longest_file, longest_file-path, longest_file-planned}
use Rattle.verity_c_api.proofs.laws.paths_are_short.Goals as goal

pub returns-clause-verity : goal.returns-clause-verity
returns-clause-verity c = λ params p made.
    let plan = plan-made params p made in (
      made-hash_block params p.settings plan.settings,
      path-most p.settings p.blocks plan.planned.valid plan.planned.data_most
          (made-data_least params p.settings plan.settings),
    )

pub returns-clause-fsverity : goal.returns-clause-fsverity
returns-clause-fsverity c = λ params p made.
    let plan = file_plan-made params p made in
    let settings = file_settings-made params p.settings plan.tree in (
      settings.hash_block,
      file_path-most p.settings p.blocks settings.valid plan.planned.data_most
          (settings.data_block ∙ sym settings.hash_block),
    )

pub returns-clause-verity_reached : goal.returns-clause-verity_reached
returns-clause-verity_reached c = (longest, longest_plan, longest-planned, longest-path)

pub returns-clause-fsverity_reached : goal.returns-clause-fsverity_reached
returns-clause-fsverity_reached c = (longest_file, longest_file_plan, longest_file-planned, longest_file-path)
