-- The tree above data that are fed, which are all data of a plan or those of a part, between two calls. For the private
-- functions; a public contract says only that bytes were fed, and it needs none of these to be read.
use Rattle.std.specs.Prelude.{◌≡◌, ◌⊎◌, ◌<◌, ◌≤◌, ℕ, ◌+◌, ◌-◌, ⊤, List, [], ◌∷◌, ◌++◌, length, Option, Some, None, Result, Ok, Err}
use Rattle.{verity_plan.specs.{Plans.PlanFields, PlanCounts.level_count_of}, verity_builders.specs.declared.feed_fault.FeedFault.FeedFault}
use Rattle.verity_builders.specs.{declared.tree_builder.Fed.Fed, Feeding.{IsPlacedFrom, after_open_blocks, open_blocks}}
use Rattle.verity_blocks.specs.{ClosingOrder.{BlockIndex, handed_out, most_closed}, Steps.Feeding.{Stands, handed_at}}
use Rattle.verity_blocks.specs.declared.{closing.Progress.Progress, hash_block.HashBlock.HashBlock}

-- a plan of the tree above some data of a whole tree, which begin with data block `first` and stand below so many levels:
-- some of these may be above all that the plan has
pub record IsTreeIn (whole own : PlanFields) (first levels : ℕ) : Type 0 where
  pub settings_are : own.settings ≡ whole.settings
  pub own_levels : level_count_of own ≤ levels
  pub levels_most : levels ≤ level_count_of whole
  pub within : first + own.blocks ≤ whole.blocks

-- these bytes were fed
pub record IsFedTo (own : PlanFields) (levels : ℕ) (at : Progress) (memory fed : List ℕ) : Type 0 where
  pub count : length fed ≡ at.fed
  pub stands : Stands own levels fed at.closed (open_blocks own.settings levels memory)
      (after_open_blocks own.settings levels memory)

-- what an answer to a piece of a length says, whatever progress and memory were
pub record TakesFrom (whole own : PlanFields) (first levels : ℕ) (before after : Progress) (count : ℕ)
    (answer : Fed) : Type 0 where
  pub fed_is : after.fed ≡ before.fed + answer.taken
  pub most : answer.taken ≤ count
  pub all : answer.hash_block ≡ None → answer.taken ≡ count
  pub done : answer.hash_block ≡ None → after.fed ≡ own.wanted → after.closed ≡ levels
  pub placed : (block : HashBlock) → answer.hash_block ≡ Some block
      → IsPlacedFrom whole first levels after.fed after.closed block
  pub waits : (block : HashBlock) → answer.hash_block ≡ Some block
      → (answer.taken < count) ⊎ (after.fed ≡ own.wanted)
  pub rises : (block : HashBlock) → answer.hash_block ≡ Some block → answer.taken ≡ 0
      → after.closed ≡ before.closed + 1

-- the hash block that is handed out, by its number above the data alone
abbrev pub given_of : PlanFields → Progress → Option HashBlock → List BlockIndex
given_of own at None = []
given_of own at (Some block) = handed_at own at.fed (at.closed - 1) ∷ []

-- the bytes that were taken were fed after those before them, and the hash block that is handed out is the next
pub record FeedsFrom (own : PlanFields) (levels : ℕ) (before after : Progress) (fed more memory : List ℕ)
    (hash_block : Option HashBlock) : Type 0 where
  pub is_fed : IsFedTo own levels after memory (fed ++ more)
  pub fed_most : after.fed ≤ own.wanted
  pub had_closed : before.closed ≤ levels
  pub has_closed : after.closed ≤ levels
  pub order : handed_out own after.fed after.closed
      ≡ handed_out own before.fed before.closed ++ given_of own after hash_block

-- the hash block that was handed out last, with the numbers that name it
pub record IsLastOf (whole own : PlanFields) (first levels : ℕ) (at : Progress) (block : HashBlock) : Type 0 where
  pub some : 0 < at.fed
  pub most : at.fed ≤ own.wanted
  pub closed : 0 < at.closed
  pub few : at.closed ≤ most_closed own levels at.fed
  pub placed : IsPlacedFrom whole first levels at.fed at.closed block

-- what is answered of it, if the numbers have no fault
abbrev pub AnswersLast : PlanFields → PlanFields → ℕ → ℕ → Progress → Result (Option HashBlock) FeedFault → Type 0
AnswersLast whole own first levels at (Err fault) = ⊤
AnswersLast whole own first levels at (Ok None) = 0 < at.fed → 0 < at.closed → ⊥
AnswersLast whole own first levels at (Ok (Some block)) = IsLastOf whole own first levels at block
