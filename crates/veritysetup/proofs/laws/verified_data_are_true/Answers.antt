use Rattle.{std.proofs.Common.{sym, ◌∙◌}, verity_pass.proofs.BoundData.data-bound, veritysetup.proofs.InputLemmas.trusted-planned}
use Rattle.veritysetup.proofs.laws.verified_data_are_true.Goals as goal

pub returns : goal.returns
returns c = λ input device x rest y verified planned enough one.
    data-bound verified.plan x y (trusted-planned input device verified.plan verified.root planned verified.trusted)
    verified.holds.enough enough (verified.holds.root_is ∙ sym one)
