use Rattle.std.proofs.Common.{◌≡◌, ◌*◌, length, take}
use Rattle.sha2.specs.Sha512 as S512
use Rattle.sha_lanes.proofs.words64.hash_values.hash_bytes.Given as goal

abbrev pub invariant-loop-i : goal.invariant-loop-i
invariant-loop-i l = record {
  long : length l.bytes ≡ 64;
  bytes : take (8 * l.i) l.bytes ≡ S512.digest_bytes l.words l.i;
}
