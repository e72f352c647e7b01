-- The join of parts, between two calls. For the private functions; a public contract says only that digests were joined,
-- and it needs none of these to be read.
use Rattle.std.specs.Prelude.{◌≡◌, ◌<◌, ◌≤◌, ℕ, zero, suc, ◌+◌, ◌-◌, ◌*◌, ◌/◌, ◌%◌, ◌^◌, ◌++◌, ◌∷◌, [], Bool, true, false, List, length}
use Rattle.{std.specs.Fork.slice_chunk, verity_blocks.specs.ClosingOrder.{BlockIndex, block_index, closed_after, first_closing}}
use Rattle.verity_blocks.specs.Steps.OpenBlocks.{HasClosed, HasOpenBlocks, level_digest}
use Rattle.verity_plan.specs.{Plans.PlanFields, PlanCounts.count_under, Settings.{TreeSettingsFields, digest_len, fan}}

-- the plan of a tree above as many data blocks as a level has parts: its hash blocks are those of this level and above
abbrev pub plan_of_join : PlanFields → ℕ → PlanFields
plan_of_join p level = record {
  settings = p.settings;
  blocks = count_under p level;
  wanted = count_under p level * p.settings.data_block;
  base = 0;
}

-- the open blocks of a join, above the blocks whose digests came
abbrev pub JoinOpen : TreeSettingsFields → List (List ℕ) → ℕ → ℕ → ℕ → List ℕ → Type 0
JoinOpen s blocks levels taken zero opened = HasOpenBlocks s blocks 0 levels taken opened
JoinOpen s blocks levels taken (suc level) opened = HasClosed s blocks (taken - 1) level levels opened

-- so many digests have come, and hash blocks of so many levels above the last of them have been handed out: of no level
-- only if none closed with it
pub record JoinStands (s : TreeSettingsFields) (blocks : List (List ℕ)) (levels taken closed : ℕ)
    (opened last : List ℕ) : Type 0 where
  pub taken_most : taken ≤ length blocks
  pub closed_most : closed ≤ levels
  pub some : 0 < closed → 0 < taken
  pub all : taken ≡ length blocks → 0 < levels → 0 < closed
  pub room : closed ≡ 0 → 0 < taken → (taken - 1) % fan s + 1 < fan s
  pub opened_is : JoinOpen s blocks levels taken closed opened
  pub last_is : 0 < taken → last ≡ level_digest s blocks (taken - 1) 0

-- the hash blocks that the join handed out, counted in levels and places of its own
abbrev pub handed_out_above : ℕ → ℕ → ℕ → ℕ → List BlockIndex
handed_out_above fan n taken closed = closed_after fan n (taken - 1) ++ first_closing fan (taken - 1) closed

-- digests came and no hash block has closed, or one has
abbrev pub HandsAbove : ℕ → ℕ → ℕ → ℕ → ℕ → ℕ → Bool → Type 0
HandsAbove fan n before closed after new_closed false =
    handed_out_above fan n after new_closed ≡ handed_out_above fan n before closed
HandsAbove fan n before closed after new_closed true = handed_out_above fan n after new_closed
    ≡ handed_out_above fan n before closed ++ block_index (new_closed - 1) ((after - 1) / fan ^ new_closed) ∷ []

-- digests may come: those that came stand in the open blocks, and all hash blocks that closed with them were handed out
pub record JoinTakesMore (s : TreeSettingsFields) (blocks : List (List ℕ)) (levels before closed taken : ℕ)
    (opened : List ℕ) : Type 0 where
  pub stands : HasOpenBlocks s blocks 0 levels taken opened
  pub order : closed_after (fan s) (length blocks) taken ≡ handed_out_above (fan s) (length blocks) before closed

-- the next hash block above the digests that came has closed, or more may come
abbrev pub ClosesAbove : TreeSettingsFields → List (List ℕ) → ℕ → ℕ → ℕ → Bool → List ℕ → List ℕ → Type 0
ClosesAbove s blocks levels taken closed true opened last = JoinStands s blocks levels taken (closed + 1) opened last
    × HandsAbove (fan s) (length blocks) taken closed taken (closed + 1) true
ClosesAbove s blocks levels taken closed false opened last =
    taken < length blocks → JoinTakesMore s blocks levels taken closed taken opened

-- these bytes are digests one after another: those of the blocks from one on
abbrev pub HasDigests : TreeSettingsFields → List (List ℕ) → ℕ → List ℕ → Type 0
HasDigests s blocks from digests = (k : ℕ) → k < length digests / digest_len s
    → slice_chunk digests (digest_len s) k ≡ level_digest s blocks (from + k) 0

-- digests came after those before, and whether a hash block has closed
pub record JoinsOn (s : TreeSettingsFields) (blocks : List (List ℕ)) (levels before closed : ℕ) (closes : Bool)
    (taken new_closed : ℕ) (opened last : List ℕ) : Type 0 where
  pub stands : JoinStands s blocks levels taken new_closed opened last
  pub order : HandsAbove (fan s) (length blocks) before closed taken new_closed closes
