-- A tree that is made as its data come, read or fed: the open blocks and the window between two steps, and each step.
-- For the crates that make trees; a contract of `verity_tree` says only that bytes were fed.
use Rattle.std.specs.Prelude.{◌≡◌, ◌⊎◌, ◌<◌, ◌≤◌, ℕ, zero, suc, ◌+◌, ◌-◌, ◌*◌, ◌/◌, ◌^◌, Bool, true, false, List, ◌++◌, ◌∷◌, [], length, take, drop}
use Rattle.verity_plan.specs.{Plans.{IsPlan, PlanFields}, PlanCounts.level_count_of, Settings.{TreeSettingsFields, fan}}
use Rattle.verity_blocks.specs.{ClosingOrder.{BlockIndex, block_index, blocks_before, closed_after, handed_out}, Levels.{cut, data_blocks}}
use Rattle.verity_blocks.specs.{Steps.{OpenBlocks.{HasClosed, HasOpenBlocks, level_digest}, Batches.IsBatch}, Windows.{window_blocks, window_length}}
use Rattle.verity_blocks.specs.declared.window.WindowPlace.{WindowPlace}

-- the first n data blocks of some bytes
abbrev pub first_blocks : TreeSettingsFields → ℕ → List ℕ → List (List ℕ)
first_blocks s n fed = cut s n (n * s.data_block) fed

-- the windows before the one that the last of so many bytes is in
abbrev pub windows_before : TreeSettingsFields → ℕ → ℕ
windows_before s count = (count - 1) / window_length s

-- the first data block of the window that the last byte of all is in
abbrev pub last_window : PlanFields → ℕ
last_window p = windows_before p.settings p.wanted * window_blocks p.settings

-- the bytes that come after so many windows
abbrev pub after_windows : TreeSettingsFields → ℕ → List ℕ → List ℕ
after_windows s windows fed = drop (windows * window_length s) fed

-- the data blocks of so many windows have come to the open blocks, and the window begins with the bytes after them
pub record HasWindow (s : TreeSettingsFields) (levels windows : ℕ) (fed opened window : List ℕ) : Type 0 where
  pub stands : HasOpenBlocks s (first_blocks s (windows * window_blocks s) fed) 0 levels (windows * window_blocks s) opened
  pub holds : take (length (after_windows s windows fed)) window ≡ after_windows s windows fed

-- where the last of so many bytes is in its window: all data blocks of the window before its own, and that one, are
-- there, and none before it is the last below a hash block
pub record IsWindowPlace (p : PlanFields) (count : ℕ) (place : WindowPlace) : Type 0 where
  pub first_is : place.first ≡ windows_before p.settings count * window_blocks p.settings
  pub rows_are : place.first + place.rows ≡ blocks_before p.settings count
  pub bytes_are : place.bytes ≡ count - windows_before p.settings count * window_length p.settings
  pub some : 0 < place.bytes
  pub most : place.bytes ≤ window_length p.settings
  pub each : (r : ℕ) → r ≤ place.rows → r * p.settings.data_block < place.bytes
  pub batch : IsBatch p place.first (place.rows + 1)

-- some bytes were fed: the windows before the last byte's have come to the open blocks
abbrev pub HasFed : TreeSettingsFields → ℕ → List ℕ → List ℕ → List ℕ → Type 0
HasFed s levels fed opened window = HasWindow s levels (windows_before s (length fed)) fed opened window

-- the same before a byte comes: all windows that are full have come to the open blocks
abbrev pub IsSettled : TreeSettingsFields → ℕ → List ℕ → List ℕ → List ℕ → Type 0
IsSettled s levels fed opened window = HasWindow s levels (length fed / window_length s) fed opened window

-- the data blocks before the last byte's have come to the open blocks, and this is the digest of that one
pub record HasCome (p : PlanFields) (levels : ℕ) (fed opened digest : List ℕ) : Type 0 where
  pub stands : HasOpenBlocks p.settings (data_blocks p fed) 0 levels (blocks_before p.settings (length fed)) opened
  pub digest_is : digest ≡ level_digest p.settings (data_blocks p fed) (blocks_before p.settings (length fed)) 0

-- the last byte is the last of a window, or of all
pub record EndsWindow (p : PlanFields) (count : ℕ) : Type 0 where
  pub some : 0 < count
  pub most : count ≤ p.wanted
  pub ends : (count ≡ (windows_before p.settings count + 1) * window_length p.settings) ⊎ (count ≡ p.wanted)

-- some bytes were fed, and the hash block of a level that closed above the last of them has been handed out
pub record IsHandingOut (p : PlanFields) (levels level : ℕ) (fed opened : List ℕ) : Type 0 where
  pub ends : EndsWindow p (length fed)
  pub level_below : level < levels
  pub closed : HasClosed p.settings (data_blocks p fed) (blocks_before p.settings (length fed)) level levels opened

-- some bytes were fed, and hash blocks of so many levels above the last of them have been handed out
abbrev pub Stands : PlanFields → ℕ → List ℕ → ℕ → List ℕ → List ℕ → Type 0
Stands p levels fed zero opened window = HasFed p.settings levels fed opened window
Stands p levels fed (suc level) opened window = IsHandingOut p levels level fed opened

-- the hash block that closes above the last of so many bytes at a level
abbrev pub handed_at : PlanFields → ℕ → ℕ → BlockIndex
handed_at p count level = block_index level (blocks_before p.settings count / fan p.settings ^ (level + 1))

-- bytes may come: the windows that are full have come to the open blocks, and all that closed with them was handed out
pub record TakesMore (p : PlanFields) (levels : ℕ) (fed : List ℕ) (closed : ℕ) (opened window : List ℕ) : Type 0 where
  pub settled : IsSettled p.settings levels fed opened window
  pub order : closed_after (fan p.settings) p.blocks (length fed / window_length p.settings * window_blocks p.settings)
      ≡ handed_out p (length fed) closed

-- the next hash block above the bytes that were fed has closed, or more may come
abbrev pub ClosesNext : PlanFields → ℕ → List ℕ → ℕ → Bool → List ℕ → List ℕ → Type 0
ClosesNext p levels fed closed true opened window = IsHandingOut p levels closed fed opened
    × (handed_out p (length fed) (closed + 1) ≡ handed_out p (length fed) closed ++ handed_at p (length fed) closed ∷ [])
ClosesNext p levels fed closed false opened window = TakesMore p levels fed closed opened window

-- what a step needs of what it is given: memory for so many open blocks and the window of a plan that can be carried
-- out, no more bytes than the plan wants, and no more levels whose hash blocks were handed out than can have closed. Above
-- the plan's own levels there may be more, as in the last part of a tree: each has one block, which closes with the last byte
pub record CanStep (p : PlanFields) (levels count closed : ℕ) (opened window : List ℕ) : Type 0 where
  pub planned : IsPlan p
  pub own : level_count_of p ≤ levels
  pub open_room : levels * p.settings.hash_block ≤ length opened
  pub window_room : length window ≡ window_length p.settings
  pub most : count ≤ p.wanted
  pub within : closed ≤ levels
  pub early : count < p.wanted → closed ≤ level_count_of p

-- some bytes more were fed and no hash block has closed, or one has
abbrev pub Hands : PlanFields → ℕ → ℕ → ℕ → ℕ → Bool → Type 0
Hands p before closed after new_closed false = handed_out p after new_closed ≡ handed_out p before closed
Hands p before closed after new_closed true = handed_out p after new_closed ≡ handed_out p before closed
    ++ handed_at p after (new_closed - 1) ∷ []

-- some bytes more were fed, and whether a hash block has closed
pub record FeedsOn (p : PlanFields) (levels : ℕ) (fed : List ℕ) (closed : ℕ) (more : List ℕ) (closes : Bool)
    (new_closed : ℕ) (opened window : List ℕ) : Type 0 where
  pub stands : Stands p levels (fed ++ more) new_closed opened window
  pub order : Hands p (length fed) closed (length (fed ++ more)) new_closed closes
