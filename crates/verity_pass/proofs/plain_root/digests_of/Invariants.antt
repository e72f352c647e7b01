use Rattle.{std.{proofs.Common.{◌≡◌, map, length}, specs.List.range_with_len}, verity_blocks.specs.Steps.PlainRoots.digest_of_block}
use Rattle.verity_pass.proofs.plain_root.digests_of.Given as goal

-- the digests of the blocks so far
abbrev pub invariant-loop-i : goal.invariant-loop-i
invariant-loop-i l = l.digests.items ≡ map (digest_of_block l.settings (length l.bytes) l.bytes) (range_with_len 0 l.i)
