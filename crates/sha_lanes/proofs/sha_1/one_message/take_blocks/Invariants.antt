use Rattle.std.proofs.Common.{◌≡◌, ◌+◌, ◌++◌}
use Rattle.sha1.specs.Sha1 as S1
use Rattle.sha_lanes.proofs.sha_1.one_message.take_blocks.Given as goal

abbrev pub invariant-loop-j : goal.invariant-loop-j
invariant-loop-j l = l.initial.state ≡ S1.hash_after (S1.padded_message (l.first ++ l.second ++ l.third)) l.k
    → l.state ≡ S1.hash_after (S1.padded_message (l.first ++ l.second ++ l.third)) (l.k + l.j)
