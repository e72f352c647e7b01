use Rattle.{std.proofs.Common.{length, ◌-◌, ◌≡◌, ℕ, ◌+◌, ◌*◌, ◌/◌, ◌<◌, ◌≤◌, List, take}, verity_plan.specs.PlanCounts.level_count_of}
use Rattle.verity_builders.{specs.Steps.Parts.{HasDigests, JoinStands}, proofs.Joins.JoinDigests.JoinsSoFar}
use Rattle.verity_builders.proofs.join_builder.join_until_closed.Given as goal

-- no hash block has closed with the digests that were taken
abbrev pub invariant-loop-taken : goal.invariant-loop-taken
invariant-loop-taken l = record {
  most : l.taken ≤ length l.digests;
  whole : l.taken ≡ l.taken / l.len * l.len;
  fed : l.progress.fed ≡ l.fn.progress.fed + l.taken / l.len;
  closed : l.progress.closed ≤ level_count_of l.own;
  none_closes : 0 < l.taken → l.progress.closed ≡ 0;
  done : 0 < l.taken → l.progress.fed ≡ l.own.blocks → level_count_of l.own ≡ 0;
  stands : (blocks : List (List ℕ)) → length blocks ≡ l.own.blocks
      → JoinStands l.own.settings blocks (level_count_of l.own) l.fn.progress.fed l.fn.progress.closed l.fn.opened
      l.fn.last
      → HasDigests l.own.settings blocks l.fn.progress.fed (take l.taken l.digests)
      → JoinsSoFar l.own.settings blocks (level_count_of l.own) l.fn.progress.fed l.fn.progress.closed l.progress.fed
      l.opened l.last;
}

abbrev pub decreases-loop-taken : goal.decreases-loop-taken
decreases-loop-taken l = length l.digests - l.taken
