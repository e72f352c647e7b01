use Rattle.std.proofs.Common.{◌≡◌, ℕ, ◌*◌, ◌<◌, length}
use Rattle.sha_lanes.specs.Lanes.{message_of, row}
use Rattle.sha2.specs.Sha256 as S256
use Rattle.sha_lanes.proofs.words32.by_instructions.hash_each.Given as goal

abbrev pub invariant-loop-pair : goal.invariant-loop-pair
invariant-loop-pair l = record {
  long : length l.values ≡ 8;
  hashed : (j : ℕ) → j < 2 * l.pair → row l.values j ≡ S256.final_hash l.fn.initial (message_of l.before l.parts l.len l.after j);
}
