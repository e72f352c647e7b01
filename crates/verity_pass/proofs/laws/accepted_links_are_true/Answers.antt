use Rattle.{std.{proofs.Common.{◌≡◌, ℕ, suc, ◌+◌, arith, subst}, specs.Prelude.Ok}, verity_blocks.specs.Levels.data_blocks}
use Rattle.verity_pass.{specs.{Links.checked_link, Paths.true_chain}, proofs.Paths.AcceptedLinks.{link-true, top-true}}
use Rattle.verity_pass.proofs.laws.accepted_links_are_true.Goals as goal

pub returns-clause-link : goal.returns-clause-link
returns-clause-link c = λ p bytes i l block planned ok.
    let e : l + 1 ≡ suc l = omega arith in
    link-true p bytes i l block planned
    (subst (λ (n : ℕ). checked_link p i l block (true_chain p.settings (data_blocks p bytes) i n) ≡ Ok tt) e ok)

pub returns-clause-top : goal.returns-clause-top
returns-clause-top c = top-true
