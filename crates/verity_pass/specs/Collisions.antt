-- A collision of a hash function, and where two trees show one: for the laws of what a root hash binds.
use Rattle.std.specs.Prelude.{◌≡◌, ◌≢◌, ◌<◌, ◌≤◌, ℕ, List, length}
use Rattle.{verity_hash.specs.{Hashing.{hash_of, salted_input}, declared.algorithm.Algorithm.Algorithm}, verity_pass.specs.Paths.true_chain}
use Rattle.verity_plan.specs.{Plans.{PlanFields, level_count}, PlanCounts.level_count_of, Settings.{TreeSettingsFields, fan}}
use Rattle.verity_blocks.specs.Levels.{data_blocks}

-- two different messages with one hash
pub record Collide (algorithm : Algorithm) (x y : List ℕ) : Type 0 where
  pub differ : x ≢ y
  pub one_hash : hash_of algorithm x ≡ hash_of algorithm y

-- what is hashed for the block so many levels above data block i, or for that data block
abbrev pub hashed_above : TreeSettingsFields → List (List ℕ) → ℕ → ℕ → List ℕ
hashed_above s blocks i levels = salted_input s.algorithm s.rule s.salt (true_chain s blocks i levels)

-- at one place of the trees above two lists of data blocks, two different messages are hashed, and have one hash
pub record TreesCollide (s : TreeSettingsFields) (xs ys : List (List ℕ)) : Type 0 where
  pub index : ℕ
  pub levels : ℕ
  pub index_below : index < length xs
  pub levels_most : levels ≤ level_count (fan s) (length xs)
  pub collide : Collide s.algorithm (hashed_above s xs index levels) (hashed_above s ys index levels)

-- the same plan with another salt
abbrev pub with_salt : PlanFields → List ℕ → PlanFields
with_salt p salt = record {
  settings = record {
    algorithm = p.settings.algorithm;
    rule = p.settings.rule;
    salt = salt;
    data_block = p.settings.data_block;
    hash_block = p.settings.hash_block;
  };
  blocks = p.blocks;
  wanted = p.wanted;
  base = p.base;
}

-- what is hashed for the root hash of a plan's tree
abbrev pub hashed_last : PlanFields → List ℕ → List ℕ
hashed_last p bytes = hashed_above p.settings (data_blocks p bytes) 0 (level_count_of p)
