use Rattle.std.proofs.Common.{◌≡◌, ◌*◌, ◌++◌}
use Rattle.sha1.specs.Sha1 as S1
use Rattle.sha_lanes.proofs.sha_1.one_message.hash.Given as goal

abbrev pub invariant-loop-group : goal.invariant-loop-group
invariant-loop-group l = l.state ≡ S1.hash_after (S1.padded_message (l.first ++ l.second ++ l.third)) (8 * l.group)
