use Rattle.std.proofs.Common.{◌≡◌, ℕ, ◌<◌, length}
use Rattle.sha_lanes.specs.Lanes.{message_of, row}
use Rattle.sha2.specs.Sha512 as S512
use Rattle.sha_lanes.proofs.words64.by_instructions.hash_each.Given as goal

abbrev pub invariant-loop-j : goal.invariant-loop-j
invariant-loop-j l = record {
  long : length l.values ≡ 8;
  hashed : (j : ℕ) → j < l.j → row l.values j ≡ S512.final_hash l.fn.initial (message_of l.before l.parts l.len l.after j);
}
