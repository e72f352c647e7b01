use Rattle.{std.proofs.Common.{◌≡◌, ◌<◌, ℕ, ◌/◌, ◌^◌}, verity_pass.specs.Paths.{HoldsAt, chain}, verity_plan.specs.Settings.{fan, hash}}
use Rattle.verity_pass.proofs.path.check_block.Given as goal

-- the path holds at the levels below this one
abbrev pub invariant-loop-level : goal.invariant-loop-level
invariant-loop-level l = record {
  quotient : l.index ≡ l.i / fan l.plan.settings ^ l.level;
  digest_is : l.digest ≡ hash l.plan.settings (chain l.plan.settings l.block l.path l.level);
  below : (m : ℕ) → m < l.level → HoldsAt l.plan l.i l.block l.path l.root m;
}
