use Rattle.{std.{proofs.Common.{◌≡◌, ◌<◌, ℕ, false}, specs.{Prelude.not, Str.bytes_eq}}, verity_pass.specs.Verdicts.digest_in}
use Rattle.verity_pass.proofs.part.part_between.Given as goal

-- no digest before this slot differs
abbrev pub invariant-loop-slot : goal.invariant-loop-slot
invariant-loop-slot l = (k : ℕ) → k < l.slot
    → not (bytes_eq (digest_in l.plan.settings l.stored k) (digest_in l.plan.settings l.computed k)) ≡ false
