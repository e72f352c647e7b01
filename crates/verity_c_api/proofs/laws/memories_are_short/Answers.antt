use Rattle.{std.proofs.Common.{◌∙◌, sym}, verity_c_api.proofs.LongestPaths.{longest_file-made, longest_file-memory}}
use Rattle.verity_c_api.proofs.{ParameterLemmas.{file_settings-made, made-data_least, plan-made}, PathLengthLemmas.{file_memory-most, memory-most}}
use Rattle.verity_c_api.proofs.LongestPaths.{longest_file_plan, longest_plan, longest, longest-memory, longest-planned, longest_file}
use Rattle.verity_c_api.proofs.laws.memories_are_short.Goals as goal

pub returns-clause-verity : goal.returns-clause-verity
returns-clause-verity c = λ params p made.
    let plan = plan-made params p made in
    memory-most p.settings p.blocks plan.planned.valid plan.planned.data_most
    (made-data_least params p.settings plan.settings)

pub returns-clause-fsverity : goal.returns-clause-fsverity
returns-clause-fsverity c = λ params tree made.
    let settings = file_settings-made params tree made in
    file_memory-most tree settings.valid (settings.data_block ∙ sym settings.hash_block)

pub returns-clause-verity_reached : goal.returns-clause-verity_reached
returns-clause-verity_reached c = (longest, longest_plan, longest-planned, longest-memory)

pub returns-clause-fsverity_reached : goal.returns-clause-fsverity_reached
returns-clause-fsverity_reached c =
    (longest_file, longest_file_plan.settings, longest_file-made, longest_file-memory)
