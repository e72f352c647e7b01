use Rattle.std.proofs.Common.{◌≡◌, ◌*◌, ◌++◌}
use Rattle.sha2.specs.Sha512 as S512
use Rattle.sha_lanes.proofs.words64.one_message.hash.Given as goal

abbrev pub invariant-loop-group : goal.invariant-loop-group
invariant-loop-group l = l.state ≡ S512.hash_after l.initial.state (S512.padded_message (l.first ++ l.second ++ l.third)) (4 * l.group)
