use Rattle.std.proofs.Common.{◌≡◌, ℕ, ◌*◌, ◌<◌, length}
use Rattle.sha_lanes.specs.{Lanes.{message_of, row}, Sha1.final_hash}
use Rattle.sha_lanes.proofs.sha_1.by_instructions.hash_each.Given as goal

abbrev pub invariant-loop-pair : goal.invariant-loop-pair
invariant-loop-pair l = record {
  long : length l.values ≡ 8;
  hashed : (j : ℕ) → j < 2 * l.pair → row l.values j ≡ final_hash (message_of l.before l.parts l.len l.after j);
}
