use Rattle.std.proofs.Common.{◌≡◌, ◌+◌, ◌++◌, List, ℕ}
use Rattle.sha2.specs.Sha256 as S256
use Rattle.sha_lanes.proofs.words32.one_message.take_blocks.Given as goal

abbrev pub invariant-loop-j : goal.invariant-loop-j
invariant-loop-j l = (h : List ℕ) → l.initial.state ≡ S256.hash_after h (S256.padded_message (l.first ++ l.second ++ l.third)) l.k
    → l.state ≡ S256.hash_after h (S256.padded_message (l.first ++ l.second ++ l.third)) (l.k + l.j)
