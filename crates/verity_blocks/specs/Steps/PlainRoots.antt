-- The levels of digests rather than of blocks, for proofs and for the plain body of the root by whole lists; not needed
-- to read a public contract.
use Rattle.std.specs.Prelude.{ℕ, zero, suc, List, [], length, map, take, slice_index_or}
use Rattle.{std.specs.Fork.slice_chunk, verity_plan.specs.{Plans.level_count, Settings.{TreeSettingsFields, hash, fan}}}
use Rattle.verity_blocks.specs.Levels.{block_at, hash_block_of, pack}

-- the digest of the i-th data block
abbrev pub digest_of_block : TreeSettingsFields → ℕ → List ℕ → ℕ → List ℕ
digest_of_block s wanted bytes i = hash s (block_at s.data_block (take wanted bytes) i)

-- the digest of the hash block of the j-th group of digests
abbrev pub digest_of_group : TreeSettingsFields → List (List ℕ) → ℕ → List ℕ
digest_of_group s digests j = hash s (hash_block_of s (slice_chunk digests (fan s) j))

-- the digests that stand l levels above these
unfoldable pub digests_up : TreeSettingsFields → List (List ℕ) → ℕ → List (List ℕ)
digests_up s digests zero = digests
digests_up s digests (suc l) = map (hash s) (pack s (digests_up s digests l))

-- the one digest that is left above these
unfoldable pub root_of_digests : TreeSettingsFields → List (List ℕ) → List ℕ
root_of_digests s digests = slice_index_or (digests_up s digests (level_count (fan s) (length digests))) 0 []
