-- The digest of a data block, and how many whole blocks some bytes hold.
use Rattle.std.proofs.{Common.{List, [], arith, false, length, refl, take, true, ℕ, ◌/◌, ◌<◌, ◌≡◌, ◌≤◌}, lemmas.List.FromFn.get_or-map-range_with_len}
use Rattle.{std.{proofs.lemmas.Bool.Decides.nat_tests, specs.Prelude.nat_le}, verity_blocks.proofs.OpenBlocks.DigestsInTurn.index-first}
use Rattle.verity_blocks.specs.{Levels.{block_at, cut, blocks_up, whole_blocks}, Steps.{PlainRoots.digest_of_block, OpenBlocks.level_digest}}
use Rattle.verity_plan.specs.{Plans.PlanFields, Settings.{TreeSettingsFields, fan}}

-- the digest of data block i is what comes to level 0
pub level_digest-data : (s : TreeSettingsFields) (n wanted i : ℕ) (bytes digest : List ℕ) → i < n
    → digest ≡ digest_of_block s wanted bytes i
    → digest ≡ level_digest s (cut s n wanted bytes) i 0
unfolding cut blocks_up
level_digest-data s n wanted i bytes digest below is =
    let block = get_or-map-range_with_len (block_at s.data_block (take wanted bytes)) 0 n i i [] below (omega arith) in
    let index = index-first i (fan s) in
    cc

-- bytes that hold all that is wanted hold all blocks
pub whole_blocks-all : (p : PlanFields) (bytes : List ℕ) → p.wanted ≤ length bytes → whole_blocks p bytes ≡ p.blocks
whole_blocks-all p bytes enough =
    let tested : nat_le p.wanted (length bytes) ≡ true = grind (arith, nat_tests, enough) in rw tested refl

-- bytes that hold less hold the blocks that fit
pub whole_blocks-less : (p : PlanFields) (bytes : List ℕ) → length bytes < p.wanted
    → whole_blocks p bytes ≡ length bytes / p.settings.data_block
whole_blocks-less p bytes less =
    let tested : nat_le p.wanted (length bytes) ≡ false = grind (arith, nat_tests, less) in rw tested refl
