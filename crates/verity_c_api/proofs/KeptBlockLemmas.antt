-- Blocks that calls accept one after another are the tree's.
use Rattle.std.proofs.Common.{◌≡◌, ℕ, Bool, true, false, List, length, Result, Ok, Err, if◌then◌else◌, inl, inr, refl, subst, sym}
use Rattle.{std.specs.Prelude.◌==◌, verity_plan.specs.{Plans.{IsPlan, PlanFields}, Settings.digest_len}}
use Rattle.verity_pass.{proofs.KeptBlocks.kept-true, specs.{Links.{checked_link, checked_top}, declared.link.LinkFault.LinkFault}}
use Rattle.verity_pass.specs.KeptBlocks.{AreAccepted, AreTrueOrCollide, CheckedBlock, IsAcceptedAsTop, IsAcceptedUnder}
use Rattle.{verity_blocks.specs.Levels.{data_blocks, root}, verity_c_api.specs.declared.parameters.FsverityParams.FsverityParams}
use Rattle.verity_c_api.{specs.declared.{parameters.VerityParams.VerityParams, fault.Fault.Fault}, proofs.ParameterLemmas.{file_plan-made, plan-made}}
use Rattle.verity_c_api.{proofs.StatusLemmas.fault-not_done, specs.{Answers.top_status_in, Parameters.{fsverity_plan_of, plan_of}}}
use Rattle.verity_c_api.specs.{KeptBlocks.{AreAcceptedByCalls, IsTopByCall, IsUnderByCall}, Statuses.{done, link_status}}
use Rattle.verity_pass.specs.declared.link.LinkFault.TheVariants as of_link
use Rattle.verity_c_api.specs.declared.fault.Fault.TheVariants as fault

-- with the status of a call that is done, a block was accepted
link-accepted : (answer : Result Unit LinkFault) → link_status answer ≡ done → answer ≡ Ok tt
link-accepted (Ok tt) is = refl
link-accepted (Err of_link.Index) is = absurd (fault-not_done fault.Index (sym is))
link-accepted (Err of_link.Level) is = absurd (fault-not_done fault.Level (sym is))
link-accepted (Err of_link.Length) is = absurd (fault-not_done fault.Length (sym is))
link-accepted (Err of_link.Differs) is = absurd (fault-not_done fault.Differs (sym is))

top-accepted : (p : PlanFields) (digest : List ℕ) (b : CheckedBlock) → IsTopByCall (Ok p) p digest b
    → IsAcceptedAsTop p digest b
top-accepted p digest b top = record {
  at_top = top.at_top;
  accepted = link-accepted (checked_top p b.index b.bytes digest)
      (by_test (length digest == digest_len p.settings) top.status);
}
  where
    by_test : (long : Bool) → top_status_in (if long then Ok p else Err fault.Root) b.index b.bytes digest ≡ done
        → link_status (checked_top p b.index b.bytes digest) ≡ done
    by_test true is = is
    by_test false is = absurd (fault-not_done fault.Root (sym is))

under-accepted : (p : PlanFields) (above b : CheckedBlock) → IsUnderByCall (Ok p) p above b → IsAcceptedUnder p above b
under-accepted p above b under = record {
  one_up = under.one_up;
  parent = under.parent;
  accepted = link-accepted (checked_link p b.index b.levels b.bytes above.bytes) under.status;
}

all-accepted : (p : PlanFields) (digest : List ℕ) (count : ℕ) (blocks : ℕ → CheckedBlock)
    → AreAcceptedByCalls (Ok p) p digest count blocks → AreAccepted p digest count blocks
all-accepted p digest count blocks accepted = λ k below. elim (accepted k below) [
  | inl top ↦ inl (top-accepted p digest (blocks k) top)
  | inr under ↦ inr (under.0, under.1, under-accepted p (blocks under.0) (blocks k) under.2)
]

kept-by_calls : (made : Result PlanFields Fault) (p : PlanFields) (bytes : List ℕ) (count : ℕ)
    (blocks : ℕ → CheckedBlock) → made ≡ Ok p → IsPlan p
    → AreAcceptedByCalls made p (root p.settings (data_blocks p bytes)) count blocks
    → AreTrueOrCollide p bytes count blocks
kept-by_calls made p bytes count blocks is planned accepted =
    let digest = root p.settings (data_blocks p bytes) in
    kept-true p bytes count blocks planned (all-accepted p digest count blocks
    (subst (λ (r : Result PlanFields Fault). AreAcceptedByCalls r p digest count blocks) is accepted))

pub verity-kept : (params : VerityParams) (p : PlanFields) (bytes : List ℕ) (count : ℕ) (blocks : ℕ → CheckedBlock)
    → plan_of params ≡ Ok p
    → AreAcceptedByCalls (plan_of params) p (root p.settings (data_blocks p bytes)) count blocks
    → AreTrueOrCollide p bytes count blocks
verity-kept params p bytes count blocks made =
    kept-by_calls (plan_of params) p bytes count blocks made (plan-made params p made).planned

pub fsverity-kept : (params : FsverityParams) (p : PlanFields) (bytes : List ℕ) (count : ℕ)
    (blocks : ℕ → CheckedBlock) → fsverity_plan_of params ≡ Ok p
    → AreAcceptedByCalls (fsverity_plan_of params) p (root p.settings (data_blocks p bytes)) count blocks
    → AreTrueOrCollide p bytes count blocks
fsverity-kept params p bytes count blocks made =
    kept-by_calls (fsverity_plan_of params) p bytes count blocks made (file_plan-made params p made).planned
