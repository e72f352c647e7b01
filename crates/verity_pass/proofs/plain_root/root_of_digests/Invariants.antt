use Rattle.{std.proofs.Common.{◌≡◌, ◌<◌, vec_len}, verity_blocks.specs.Steps.PlainRoots.root_of_digests}
use Rattle.verity_pass.proofs.plain_root.root_of_digests.Given as goal

-- some digests are left, with the same root above them
abbrev pub invariant-levels : goal.invariant-levels
invariant-levels l = record {
  some : 0 < vec_len l.level;
  same : root_of_digests l.settings l.level.items ≡ root_of_digests l.settings l.fn.digests.items;
}

abbrev pub decreases-levels : goal.decreases-levels
decreases-levels l = vec_len l.level
