use Rattle.{std.{proofs.Common.{◌≡◌, ℕ, ◌<◌, [], length, slice_index_or}, specs.Fork.slice_chunk}, verity_hash.specs.Hashing.salted_hash}
use Rattle.verity_hash.proofs.rows.one_by_one.Given as goal

abbrev pub invariant-loop-r : goal.invariant-loop-r
invariant-loop-r l = record {
  long : length l.digests ≡ 8;
  hashed : (i : ℕ) → i < l.r → slice_index_or l.digests i [] ≡ salted_hash l.algorithm l.rule l.salt (slice_chunk l.rows l.size i);
}
