use Rattle.{std.{proofs.Common.{◌≡◌, take}, specs.List.flat_map}, verity_plan.specs.Settings.slot}
use Rattle.verity_pass.proofs.plain_root.hash_block_of.Given as goal

-- the slots of the digests so far
abbrev pub invariant-loop-digest : goal.invariant-loop-digest
invariant-loop-digest l = l.block.items ≡ flat_map (slot l.settings) (take l.digest-index l.digests)
