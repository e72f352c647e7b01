use Rattle.{std.proofs.Common.{◌≡◌, ℕ, ◌+◌, ◌*◌, ◌<◌, ◌≤◌, length}, sha_lanes.specs.Lanes.{lane, message_of}}
use Rattle.sha2.specs.Sha256 as S256
use Rattle.sha_lanes.proofs.words32.digests.hash.Given as goal

abbrev pub invariant-loop-k : goal.invariant-loop-k
invariant-loop-k l = (j : ℕ) → j < 8 → j * l.len + l.len ≤ length l.parts
    → lane l.state j ≡ S256.hash_after (lane l.initial.state j) (S256.padded_message (message_of l.before l.parts l.len l.after j)) l.k
