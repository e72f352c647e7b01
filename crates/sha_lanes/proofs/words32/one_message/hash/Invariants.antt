use Rattle.std.proofs.Common.{◌≡◌, ◌*◌, ◌++◌}
use Rattle.sha2.specs.Sha256 as S256
use Rattle.sha_lanes.proofs.words32.one_message.hash.Given as goal

abbrev pub invariant-loop-group : goal.invariant-loop-group
invariant-loop-group l = l.state ≡ S256.hash_after l.initial.state (S256.padded_message (l.first ++ l.second ++ l.third)) (8 * l.group)
