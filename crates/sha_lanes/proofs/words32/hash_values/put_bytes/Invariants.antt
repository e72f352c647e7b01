use Rattle.std.proofs.Common.{◌≡◌, ◌*◌, take}
use Rattle.sha2.specs.Sha256 as S256
use Rattle.sha_lanes.proofs.words32.hash_values.put_bytes.Given as goal

abbrev pub invariant-loop-i : goal.invariant-loop-i
invariant-loop-i l = take (4 * l.i) l.bytes ≡ S256.digest_bytes l.words l.i
