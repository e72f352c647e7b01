use Rattle.{std.proofs.Common.{◌≡◌, ℕ, ◌+◌, ◌*◌, ◌<◌, ◌≤◌, length}, sha_lanes.specs.Lanes.{lane, message_of}}
use Rattle.sha2.specs.Sha512 as S512
use Rattle.sha_lanes.proofs.words64.digests.hash.Given as goal

abbrev pub invariant-loop-k : goal.invariant-loop-k
invariant-loop-k l = (j : ℕ) → j < 4 → j * l.len + l.len ≤ length l.parts
    → lane l.state j ≡ S512.hash_after (lane l.initial.state j) (S512.padded_message (message_of l.before l.parts l.len l.after j)) l.k
