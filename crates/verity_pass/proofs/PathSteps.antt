-- The check of a path, level by level, and chains of blocks that meet.
use Rattle.std.proofs.Common.{◌≡◌, ℕ, suc, ◌+◌, ◌-◌, ◌*◌, ◌/◌, ◌%◌, ◌^◌, ◌<◌, ◌≤◌, false, List, take, drop, arith, sym, ap, ◌≢◌, ◌⊎◌, zero, inl, inr}
use Rattle.std.{proofs.lemmas.{Bool.{cases_Bool, Decides.{nat_tests, not_from_Decides}}, Slice.Eq.bytes_eq-Decides}, specs.Fork.slice_chunk}
use Rattle.{std.specs.Str.bytes_eq, verity_blocks.proofs.OpenBlocks.DigestsInTurn.range-is_run, verity_pass.specs.Paths.{chain, digest_above}}
use Rattle.{verity_plan.specs.{Plans.PlanFields, PlanCounts.level_count_of, Settings.{TreeSettingsFields, fan}}, verity_pass.specs.Verdicts.digest_in}

-- one block further up the chain
pub chain-more : (s : TreeSettingsFields) (block path : List ℕ) (l : ℕ)
    → chain s block path (l + 1) ≡ slice_chunk path s.hash_block l
chain-more s block path l = let e : l + 1 ≡ suc l = omega arith in ap (chain s block path) e

-- below the top a digest in its slot
pub digest_above-below : (p : PlanFields) (i : ℕ) (path root : List ℕ) (l : ℕ) → l < level_count_of p
    → digest_above p i path root l ≡ digest_in p.settings (slice_chunk path p.settings.hash_block l)
    (i / fan p.settings ^ l % fan p.settings)
digest_above-below p i path root l below = grind (arith, nat_tests, below)

-- at the top the root
pub digest_above-top : (p : PlanFields) (i : ℕ) (path root : List ℕ) (l : ℕ) → level_count_of p ≤ l
    → digest_above p i path root l ≡ root
digest_above-top p i path root l top = grind (arith, nat_tests, top)

-- the digest that the code reads is the digest above
pub read-is : (p : PlanFields) (i : ℕ) (path root : List ℕ) (l index levels size f : ℕ) → l < levels
    → levels ≡ level_count_of p → size ≡ p.settings.hash_block → f ≡ fan p.settings → index ≡ i / fan p.settings ^ l
    → digest_in p.settings (take (l * size + size - l * size) (drop (l * size) path)) (index % f)
    ≡ digest_above p i path root l
read-is p i path root l index levels size f low levels_is size_is f_is index_is =
    let above = digest_above-below p i path root l (omega (arith, low, levels_is)) in
    rw (range-is_run p.settings.hash_block l size path size_is, index_is, f_is) (sym above)

-- two lists of bytes that the test tells apart are two
pub bytes_eq-false : (xs ys : List ℕ) → bytes_eq xs ys ≡ false → ¬ (xs ≡ ys)
bytes_eq-false xs ys = not_from_Decides _ (bytes_eq-Decides xs ys)

-- two lists of bytes are the same, or they differ
pub same_or_two : (xs ys : List ℕ) → (xs ≡ ys) ⊎ (xs ≢ ys)
same_or_two xs ys = elim (cases_Bool (bytes_eq xs ys)) [
  | inl same ↦ inl ((bytes_eq-Decides xs ys).0 same)
  | inr apart ↦ inr (bytes_eq-false xs ys apart)
]

-- two chains of blocks with one hash at a level, in which blocks that are one stand above blocks with one hash: they have
-- one block at the bottom, or different blocks with one hash at that level or below
pub chains-meet : (h : List ℕ → List ℕ) (a b : ℕ → List ℕ) (top l : ℕ) → l ≤ top
    → ((m : ℕ) → m < top → a (suc m) ≡ b (suc m) → h (a m) ≡ h (b m)) → h (a l) ≡ h (b l)
    → (a 0 ≡ b 0) ⊎ ((m : ℕ) × (m ≤ top) × (a m ≢ b m) × (h (a m) ≡ h (b m)))
chains-meet h a b top zero within down one = elim (same_or_two (a 0) (b 0)) [
  | inl same ↦ inl same
  | inr differ ↦ inr (0, within, differ, one)
]
chains-meet h a b top (suc l) within down one = elim (same_or_two (a (suc l)) (b (suc l))) [
  | inl same ↦ chains-meet h a b top l (omega (arith, within)) down (down l (omega (arith, within)) same)
  | inr differ ↦ inr (suc l, within, differ, one)
]
