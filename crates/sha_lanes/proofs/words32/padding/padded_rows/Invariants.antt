use Rattle.{std.proofs.Common.{◌≡◌, ℕ, ◌+◌, ◌*◌, ◌<◌, ◌≤◌, length, take, drop}, sha_lanes.specs.{Lanes.message_of, Words32.padded_row}}
use Rattle.sha_lanes.proofs.words32.padding.padded_rows.Given as goal

abbrev pub invariant-loop-j : goal.invariant-loop-j
invariant-loop-j l = record {
  long : length l.rows ≡ 512;
  written : (i : ℕ) → i < l.j → i * l.len + l.len ≤ length l.parts
      → take 64 (drop (i * 64) l.rows) ≡ padded_row (message_of l.before l.parts l.len l.after i) l.at;
}
