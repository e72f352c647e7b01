-- The steps of a run with output files.
-- For the private functions; not needed to read a public contract.
use Rattle.std.specs.Prelude.{ℕ, ◌<◌, Bool, MatchBool, List, length, take, Option, Result, Ok, Err}
use Rattle.{std.specs.Io.KnownBytes.{Appends, Keeps}, verity_io.specs.{Putting.bytes_taken, declared.putting.PutFault.PutFault}}
use Rattle.fsverity.specs.{Runs.Outputs.{OutputTask, output_task}, declared.runs.outputs.OutputTask.OutputTask as Given}

-- a task, without the references that it holds
abbrev pub task_of : Given → OutputTask
task_of task = output_task task.settings task.form task.name.now task.size task.wants_tree task.wants_descriptor

-- the descriptor's bytes are added if they are wanted, or only the first of them if a write fails
abbrev pub WritesIfWanted : List ℕ → Bool → Result (Unit {0}) PutFault → Option (List ℕ) → Option (List ℕ) → Type 0
WritesIfWanted bytes wants_descriptor (Ok done) before after =
    MatchBool wants_descriptor (Appends before after bytes) (Keeps before after)
WritesIfWanted bytes wants_descriptor (Err fault) before after =
    MatchBool wants_descriptor
    ((bytes_taken fault < length bytes) × Appends before after (take (bytes_taken fault) bytes)) ⊥
