-- Blocks that are accepted one by one are an accepted path, and what an accepted block is.
use Rattle.std.proofs.Common.{◌≡◌, ℕ, zero, suc, ◌+◌, ◌/◌, ◌%◌, ◌^◌, ◌<◌, ◌≤◌, ◌⊎◌, List, length, arith, sym, subst, ◌∙◌, ap, refl, inl, inr}
use Rattle.std.{proofs.lemmas.{Bool.{cases_lt, Decides.nat_tests}, Slice.Eq.bytes_eq-Decides}, specs.Prelude.Ok}
use Rattle.verity_plan.specs.{Plans.{PlanFields, IsPlan}, PlanCounts.level_count_of, Settings.{TreeSettingsFields, fan, hash}}
use Rattle.verity_blocks.{specs.Levels.{data_blocks, root}, proofs.JoinedLists.{length-pieces, piece}}
use Rattle.verity_pass.specs.{Links.{AreLinked, IsCollision, block_size_up, checked_link, checked_top, joined}, Verdicts.digest_in}
use Rattle.verity_pass.{specs.Paths.{IsAccepted, chain, digest_above, true_chain}, proofs.Paths.TrueChain.{true_chain-next, true_chain-top}}
use Rattle.verity_pass.proofs.PathSteps.{digest_above-below, digest_above-top, same_or_two}

-- what an accepted block under a level is
pub record IsLinked (p : PlanFields) (i l : ℕ) (block above : List ℕ) : Type 0 where
  pub index : i < p.blocks
  pub level : l < level_count_of p
  pub of_block : length block ≡ block_size_up p.settings l
  pub of_above : length above ≡ p.settings.hash_block
  pub holds : hash p.settings block ≡ digest_in p.settings above (i / fan p.settings ^ l % fan p.settings)

-- what an accepted top block is
pub record IsTop (p : PlanFields) (i : ℕ) (block root : List ℕ) : Type 0 where
  pub index : i < p.blocks
  pub of_block : length block ≡ block_size_up p.settings (level_count_of p)
  pub holds : hash p.settings block ≡ root

-- an accepted block passed each test
pub IsLinked-ok : (p : PlanFields) (i l : ℕ) (block above : List ℕ) → checked_link p i l block above ≡ Ok tt
    → IsLinked p i l block above
IsLinked-ok p i l block above ok = record {
  index = grind (arith, nat_tests, ok);
  level = grind (arith, nat_tests, ok);
  of_block = grind (arith, nat_tests, ok);
  of_above = grind (arith, nat_tests, ok);
  holds = (bytes_eq-Decides _ _).0 (grind (arith, nat_tests, ok));
}

-- and passes each
pub ok-IsLinked : (p : PlanFields) (i l : ℕ) (block above : List ℕ) → IsLinked p i l block above
    → checked_link p i l block above ≡ Ok tt
ok-IsLinked p i l block above h = let same = (bytes_eq-Decides _ _).1 h.holds in grind (arith, nat_tests)

-- the same of the top block
pub IsTop-ok : (p : PlanFields) (i : ℕ) (block digest : List ℕ) → checked_top p i block digest ≡ Ok tt
    → IsTop p i block digest
IsTop-ok p i block digest ok = record {
  index = grind (arith, nat_tests, ok);
  of_block = grind (arith, nat_tests, ok);
  holds = (bytes_eq-Decides _ _).0 (grind (arith, nat_tests, ok));
}

pub ok-IsTop : (p : PlanFields) (i : ℕ) (block digest : List ℕ) → IsTop p i block digest
    → checked_top p i block digest ≡ Ok tt
ok-IsTop p i block digest h = let same = (bytes_eq-Decides _ _).1 h.holds in grind (arith, nat_tests)

-- a hash block is as long as those that stand above the data
size-up : (s : TreeSettingsFields) (l : ℕ) → block_size_up s (suc l) ≡ s.hash_block
size-up s l = grind (arith, nat_tests)

-- each block above the first has a hash block's length
abbrev pub AreHashBlocks : PlanFields → (ℕ → List ℕ) → Type 0
AreHashBlocks p blocks = (m : ℕ) → m < level_count_of p → length (blocks (suc m)) ≡ p.settings.hash_block

-- the chain over joined blocks is the blocks
chain-joined : (p : PlanFields) (blocks : ℕ → List ℕ) (l : ℕ) → l ≤ level_count_of p → AreHashBlocks p blocks
    → chain p.settings (blocks 0) (joined blocks (level_count_of p)) l ≡ blocks l
chain-joined p blocks zero within each = refl
chain-joined p blocks (suc l) within each =
    let here : 0 + l ≡ l = omega arith in
    piece (λ m. blocks (suc m)) p.settings.hash_block 0 (level_count_of p) l (omega (arith, within))
    (λ m _ low. each m (omega (arith, low)))
    ∙ ap (λ (m : ℕ). blocks (suc m)) here

-- what the hash of a joined block has to be: the digest in the next one
above-joined : (p : PlanFields) (i : ℕ) (blocks : ℕ → List ℕ) (digest : List ℕ) (l : ℕ) → l < level_count_of p
    → AreHashBlocks p blocks → digest_above p i (joined blocks (level_count_of p)) digest l
    ≡ digest_in p.settings (blocks (suc l)) (i / fan p.settings ^ l % fan p.settings)
above-joined p i blocks digest l low each =
    digest_above-below p i (joined blocks (level_count_of p)) digest l low
    ∙ ap (λ (xs : List ℕ). digest_in p.settings xs (i / fan p.settings ^ l % fan p.settings))
    (chain-joined p blocks (suc l) (omega (arith, low)) each)

-- the length of each block, by its level
pub length-at_level : (p : PlanFields) (blocks : ℕ → List ℕ) (l : ℕ) → l ≤ level_count_of p
    → length (blocks 0) ≡ p.settings.data_block → AreHashBlocks p blocks
    → length (blocks l) ≡ block_size_up p.settings l
length-at_level p blocks zero within first each = first
length-at_level p blocks (suc l) within first each = each l (omega (arith, within)) ∙ sym (size-up p.settings l)

-- a path of joined blocks is accepted where each block's hash is the digest in the next one, and the last one's the root
pub joined-accepted : (p : PlanFields) (i : ℕ) (blocks : ℕ → List ℕ) (digest : List ℕ) → AreHashBlocks p blocks
    → i < p.blocks → length (blocks 0) ≡ p.settings.data_block
    → ((l : ℕ) → l < level_count_of p
    → hash p.settings (blocks l) ≡ digest_in p.settings (blocks (suc l)) (i / fan p.settings ^ l % fan p.settings))
    → hash p.settings (blocks (level_count_of p)) ≡ digest
    → IsAccepted p i (blocks 0) (joined blocks (level_count_of p)) digest
joined-accepted p i blocks digest each index first links top = record {
  index = index;
  lengths = record {
    of_block = first;
    of_path = length-pieces (λ m. blocks (suc m)) p.settings.hash_block 0 (level_count_of p)
        (λ m _ low. each m (omega (arith, low)));
  };
  holds = λ l within.
      ap (hash p.settings) (chain-joined p blocks l within each)
      ∙ elim (cases_lt l (level_count_of p)) [
        | inl low ↦ links l low ∙ sym (above-joined p i blocks digest l low each)
        | inr past ↦
            let same : l ≡ level_count_of p = omega (arith, within, past) in
            ap (λ (m : ℕ). hash p.settings (blocks m)) same ∙ top
            ∙ sym (digest_above-top p i (joined blocks (level_count_of p)) digest l past)
      ];
}

-- accepted one by one, or as a path
pub linked-accepted : (p : PlanFields) (i : ℕ) (blocks : ℕ → List ℕ) (digest : List ℕ) → AreHashBlocks p blocks
    → AreLinked p i blocks digest → IsAccepted p i (blocks 0) (joined blocks (level_count_of p)) digest
linked-accepted p i blocks digest each h =
    let top = IsTop-ok p i (blocks (level_count_of p)) digest h.top in
    let first : length (blocks 0) ≡ p.settings.data_block = elim (cases_lt 0 (level_count_of p)) [
      | inl some ↦ (IsLinked-ok p i 0 (blocks 0) (blocks (suc 0)) (h.links 0 some)).of_block
      | inr none ↦
          let zero : level_count_of p ≡ 0 = omega arith in
          subst (λ (n : ℕ). length (blocks n) ≡ block_size_up p.settings n) zero top.of_block
    ] in
    joined-accepted p i blocks digest each top.index first
    (λ l low. (IsLinked-ok p i l (blocks l) (blocks (suc l)) (h.links l low)).holds) top.holds

pub accepted-linked : (p : PlanFields) (i : ℕ) (blocks : ℕ → List ℕ) (digest : List ℕ) → AreHashBlocks p blocks
    → IsAccepted p i (blocks 0) (joined blocks (level_count_of p)) digest → AreLinked p i blocks digest
accepted-linked p i blocks digest each h =
    let levels = level_count_of p in
    let all : levels ≤ levels = omega arith in
    let holds : (l : ℕ) → l ≤ levels → hash p.settings (blocks l) ≡ digest_above p i (joined blocks levels) digest l =
    λ l within. sym (ap (hash p.settings) (chain-joined p blocks l within each)) ∙ h.holds l within in
    record {
      links = λ l low. ok-IsLinked p i l (blocks l) (blocks (suc l)) (record {
        index = h.index;
        level = low;
        of_block = length-at_level p blocks l (omega (arith, low)) h.lengths.of_block each;
        of_above = each l low;
        holds = holds l (omega (arith, low)) ∙ above-joined p i blocks digest l low each;
      });
      top = ok-IsTop p i (blocks levels) digest (record {
        index = h.index;
        of_block = length-at_level p blocks levels all h.lengths.of_block each;
        holds = holds levels all ∙ digest_above-top p i (joined blocks levels) digest levels all;
      });
    }

-- a block with another's hash is that one, or they collide
same-or-collide : (s : TreeSettingsFields) (x y : List ℕ) → hash s x ≡ hash s y → (x ≡ y) ⊎ IsCollision s x y
same-or-collide s x y one = elim (same_or_two x y) [
  | inl same ↦ inl same
  | inr differ ↦ inr (record { differ = differ; one_hash = one })
]

-- what a block of the tree accepts is the tree's
pub link-true : (p : PlanFields) (bytes : List ℕ) (i l : ℕ) (block : List ℕ) → IsPlan p
    → checked_link p i l block (true_chain p.settings (data_blocks p bytes) i (suc l)) ≡ Ok tt
    → (block ≡ true_chain p.settings (data_blocks p bytes) i l)
    ⊎ IsCollision p.settings block (true_chain p.settings (data_blocks p bytes) i l)
link-true p bytes i l block planned ok =
    let linked = IsLinked-ok p i l block (true_chain p.settings (data_blocks p bytes) i (suc l)) ok in
    same-or-collide p.settings block (true_chain p.settings (data_blocks p bytes) i l)
    (linked.holds ∙ sym (true_chain-next p bytes i l planned linked.index))

-- what the root hash accepts is the tree's
pub top-true : (p : PlanFields) (bytes : List ℕ) (i : ℕ) (block : List ℕ) → IsPlan p
    → checked_top p i block (root p.settings (data_blocks p bytes)) ≡ Ok tt
    → (block ≡ true_chain p.settings (data_blocks p bytes) i (level_count_of p))
    ⊎ IsCollision p.settings block (true_chain p.settings (data_blocks p bytes) i (level_count_of p))
top-true p bytes i block planned ok =
    let top = IsTop-ok p i block (root p.settings (data_blocks p bytes)) ok in
    same-or-collide p.settings block (true_chain p.settings (data_blocks p bytes) i (level_count_of p))
    (top.holds ∙ sym (true_chain-top p bytes i planned top.index))
