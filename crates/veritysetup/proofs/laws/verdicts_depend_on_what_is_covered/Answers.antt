use Rattle.veritysetup.proofs.SameVerdictLemmas.{judged-one, verifies-alike}
use Rattle.veritysetup.proofs.laws.verdicts_depend_on_what_is_covered.Goals as goal

pub returns-clause-possible : goal.returns-clause-possible
returns-clause-possible c = λ input device other source same left outcome given alike verifies.
    verifies-alike input device other source same left outcome given alike verifies

pub returns-clause-one : goal.returns-clause-one
returns-clause-one c =
    λ input device other source same left rest outcome found given alike verifies there judged too.
    let moved = verifies-alike input device other source same left outcome given alike verifies in
    judged-one input other same moved.0 rest outcome found judged too moved.1 there
