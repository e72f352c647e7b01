use Rattle.std.proofs.Common.{◌≡◌, ◌+◌, ◌++◌, List, ℕ}
use Rattle.sha2.specs.Sha512 as S512
use Rattle.sha_lanes.proofs.words64.one_message.take_blocks.Given as goal

abbrev pub invariant-loop-j : goal.invariant-loop-j
invariant-loop-j l = (h : List ℕ) → l.initial.state ≡ S512.hash_after h (S512.padded_message (l.first ++ l.second ++ l.third)) l.k
    → l.state ≡ S512.hash_after h (S512.padded_message (l.first ++ l.second ++ l.third)) (l.k + l.j)
