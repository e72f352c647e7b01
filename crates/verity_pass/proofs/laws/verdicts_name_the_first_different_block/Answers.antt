use Rattle.verity_pass.{specs.FirstDifferentBlock.names_data_block, proofs.Devices.FirstDifferentBlock.{named, names-child, one-named}}
use Rattle.verity_pass.proofs.laws.verdicts_name_the_first_different_block.Goals as goal

pub returns-clause-several : goal.returns-clause-several
returns-clause-several c = λ p device x y digest planned several holds enough.
    named p device x y digest (names_data_block p) planned holds enough
    (names-child p device x y digest planned several holds enough)

pub returns-clause-one : goal.returns-clause-one
returns-clause-one c = one-named
