use Rattle.veritysetup.proofs.ResumedLemmas.{begun-formatted, outcome-keeps}
use Rattle.veritysetup.proofs.laws.formatting_again_is_formatting.Goals as goal

pub returns-clause-begun : goal.returns-clause-begun
returns-clause-begun c = begun-formatted

pub returns-clause-kept : goal.returns-clause-kept
returns-clause-kept c = λ s source left before between outcome planned agree uuid read stands.
    outcome-keeps s source left before between outcome (record { planned = planned; agree = agree; uuid = uuid }) read
    stands

pub returns-clause-again : goal.returns-clause-again
returns-clause-again c =
    λ s source left whole before between after outcome planned agree uuid read stands formatted.
    begun-formatted s whole before between after
    (outcome-keeps s source left before between outcome (record { planned = planned; agree = agree; uuid = uuid }) read
    stands)
    formatted
