use Rattle.{std.{proofs.Common.{◌≡◌, map}, specs.List.range_with_len}, verity_blocks.specs.Steps.PlainRoots.digest_of_group}
use Rattle.verity_pass.proofs.plain_root.level_up.Given as goal

-- the digests of the runs so far
abbrev pub invariant-loop-j : goal.invariant-loop-j
invariant-loop-j l = l.above.items ≡ map (digest_of_group l.settings l.digests) (range_with_len 0 l.j)
