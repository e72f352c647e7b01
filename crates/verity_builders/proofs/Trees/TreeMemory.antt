-- The memory of a builder between two calls: its open blocks, and what comes after them.
use Rattle.std.proofs.Common.{List, [], ap, arith, rules, drop, length, refl, replicate, sym, take, ℕ, zero, suc, Some, None, inl, inr, ◌*◌, ◌++◌}
use Rattle.{std.proofs.{Common.{◌+◌, ◌-◌, ◌/◌, ◌^◌, ◌∙◌, ◌≡◌, ◌<◌, ◌≤◌}, lemmas.Bool.cases_lt}, verity_plan.specs.Settings.{TreeSettingsFields, fan}}
use Rattle.{std.proofs.lemmas.List.{drop_at, length-replicate, places, same_lists, take_at}, verity_blocks.proofs.Windows.LastByte.last-below}
use Rattle.{std.specs.Prelude.{Err, IfOk, MatchOption, Ok, Option, Result}, verity_blocks.proofs.Windows.BytesToWindow.HasFed-zeros}
use Rattle.verity_plan.{proofs.CountLemmas.mul_le, specs.{Plans.{IsPlan, PlanFields}, PlanCounts.{level_count_of, most_level_count}}}
use Rattle.verity_blocks.specs.{ClosingOrder.{blocks_before, most_closed}, Levels.data_blocks, Steps.Feeding.{HasFed, IsHandingOut, Stands}}
use Rattle.verity_blocks.specs.{TreeOnDevice.tree_block, declared.{closing.Progress.Progress, hash_block.HashBlock.HashBlock}}
use Rattle.verity_blocks.proofs.{ClosingSteps.Climbing.{most_closed-all, most_closed-early}, Order.HandedOut.handed-out-stays}
use Rattle.verity_builders.specs.Feeding.{Feeds, HasLast, IsFed, IsFedFile, IsHandedOut, IsPlaced, after_open_blocks, end_fault, ending_fault}
use Rattle.verity_builders.specs.{Feeding.{feed_fault, open_blocks, taking_fault}, Steps.FedTrees.{AnswersLast, FeedsFrom, IsFedTo, IsTreeIn}}
use Rattle.verity_builders.specs.declared.{feed_fault.FeedFault.FeedFault, file_builder.FileBuilder.FileBuilder, tree_builder.TreeBuilder.TreeBuilder}

-- memory that begins with zeros for the open blocks, to which nothing was fed
pub HasFed-none : (s : TreeSettingsFields) (levels n : ℕ) (zeros rest : List ℕ) → n ≡ levels * s.hash_block
    → zeros ≡ replicate n 0
    → HasFed s levels [] (open_blocks s levels (zeros ++ rest)) (after_open_blocks s levels (zeros ++ rest))
HasFed-none s levels n zeros rest room are =
    let m = levels * s.hash_block in
    let memory = replicate m 0 ++ rest in
    rw (are, room) (HasFed-zeros s levels m (open_blocks s levels memory) (after_open_blocks s levels memory)
    (take_at (replicate m 0) rest m (length-replicate m 0)) (omega arith))

-- what is known of the two parts of some memory, which are put together
pub joined : (P : List ℕ → List ℕ → Type 0) (n : ℕ) (opened window : List ℕ) → length opened ≡ n → P opened window
    → P (take n (opened ++ window)) (drop n (opened ++ window))
joined P n opened window size h = rw (take_at opened window n size, drop_at opened window n size) h

-- what was fed stands in the two parts of the memory
pub IsFedTo-parted : (own : PlanFields) (levels n : ℕ) (at : Progress) (memory opened window fed : List ℕ)
    → n ≡ levels * own.settings.hash_block → opened ≡ take n memory → window ≡ drop n memory
    → IsFedTo own levels at memory fed → Stands own levels fed at.closed opened window
IsFedTo-parted own levels n at memory opened window fed same front back h = rw (front, back, same) h.stands

-- and again in the memory once they are put together
pub IsFedTo-joined : (own : PlanFields) (levels : ℕ) (at : Progress) (opened window fed : List ℕ)
    → length opened ≡ levels * own.settings.hash_block → length fed ≡ at.fed
    → Stands own levels fed at.closed opened window → IsFedTo own levels at (opened ++ window) fed
IsFedTo-joined own levels at opened window fed size count h = record {
  count = count;
  stands = joined (Stands own levels fed at.closed) (levels * own.settings.hash_block) opened window size h;
}

pub IsFedFile-parted : (b : FileBuilder) (n : ℕ) (memory opened window fed : List ℕ)
    → n ≡ most_level_count b.settings * b.settings.hash_block → opened ≡ take n memory → window ≡ drop n memory
    → IsFedFile b memory fed → HasFed b.settings (most_level_count b.settings) fed opened window
IsFedFile-parted b n memory opened window fed same front back h = rw (front, back, same) h.stands

-- an open block of the memory
pub open_block-within : (size level levels : ℕ) (memory : List ℕ) → level + 1 ≤ levels
    → take size (drop (level * size) (take (levels * size) memory)) ≡ take size (drop (level * size) memory)
open_block-within size level levels memory step =
    let room : level * size + size ≤ levels * size = omega (arith, mul_le (level + 1) levels size step) in
    same_lists _ _ (search (rules, places)) (λ k d h. grind (arith, places))

-- the last byte's data block is one of the whole tree's
pub last-in : (whole own : PlanFields) (first levels count : ℕ) → IsPlan own → IsTreeIn whole own first levels → 0 < count
    → count ≤ own.wanted → first + blocks_before whole.settings count < whole.blocks
last-in whole own first levels count planned tree some most =
    rw (← tree.settings_are) (omega (arith, last-below own count planned some most, tree.within))

-- none has closed above the last byte if the numbers name none
pub nothing-last : (p : PlanFields) (levels closed : ℕ) (fed opened window : List ℕ)
    → (0 < length fed → 0 < closed → ⊥) → Stands p levels fed closed opened window → closed ≡ 0
nothing-last p levels zero fed opened window none h = refl
nothing-last p levels (suc level) fed opened window none h = absurd (none h.ends.some (omega arith))

-- the hash block that was handed out last stands in the memory, whatever bytes come after
pub closed-block : (own : PlanFields) (levels level : ℕ) (at : Progress) (memory fed more : List ℕ) → IsPlan own
    → at.closed ≡ level + 1 → level < levels → IsFedTo own levels at memory fed → length (fed ++ more) ≤ own.wanted
    → take own.settings.hash_block (drop (level * own.settings.hash_block) memory)
    ≡ tree_block own.settings (data_blocks own (fed ++ more)) level
    (blocks_before own.settings at.fed / fan own.settings ^ (level + 1))
closed-block own levels level at memory fed more planned closed below h fits =
    let s = own.settings in
    let next : at.closed ≡ suc level = omega (arith, closed) in
    let out : IsHandingOut own levels level fed (open_blocks s levels memory) = rw next at h.stands in
    sym (open_block-within s.hash_block level levels memory (omega (arith, below)))
    ∙ out.closed.stands
    ∙ handed-out-stays own levels level fed more _ planned out fits
    ∙ ap (λ (n : ℕ). tree_block s (data_blocks own (fed ++ more)) level (blocks_before s n / fan s ^ (level + 1))) h.count

-- ---- a builder of a tree

-- its progress
abbrev pub progress_of : TreeBuilder → Progress
progress_of b = record { fed = b.fed; closed = b.closed }

pub IsFedTo-tree : (b : TreeBuilder) (memory fed : List ℕ) → IsFed b memory fed
    → IsFedTo b.plan (level_count_of b.plan) (progress_of b) memory fed
IsFedTo-tree b memory fed h = record { count = h.count; stands = h.stands }

-- above a tree's own levels there are no more
pub most_closed-tree : (p : PlanFields) (count : ℕ) → most_closed p (level_count_of p) count ≡ level_count_of p
most_closed-tree p count = elim (cases_lt count p.wanted) [
  | inl less ↦ most_closed-early p (level_count_of p) count less
  | inr past ↦ most_closed-all p (level_count_of p) count past
]

pub taking-tree : (b : TreeBuilder) (levels count : ℕ) → levels ≡ level_count_of b.plan
    → taking_fault b.plan levels b.fed b.closed count ≡ feed_fault b count
taking-tree b levels count is = rw (is, most_closed-tree b.plan b.fed) refl

pub ending-tree : (b : TreeBuilder) (levels : ℕ) → levels ≡ level_count_of b.plan
    → ending_fault b.plan levels b.fed b.closed ≡ end_fault b
ending-tree b levels is = rw (is, most_closed-tree b.plan b.fed) refl

-- what is known of the hash block that was handed out last
pub IsHandedOut-last : (p : PlanFields) (at : Progress) (memory fed : List ℕ) (block : HashBlock) → IsPlan p
    → IsPlaced p at.fed at.closed block → IsFedTo p (level_count_of p) at memory fed → IsHandedOut p fed memory block
IsHandedOut-last p at memory fed block planned placed h =
    let s = p.settings in
    let first : 0 + blocks_before s at.fed ≡ blocks_before s at.fed = omega arith in
    record {
      level_below = placed.level_below;
      at_is = placed.at_is;
      start_is = placed.start_is;
      bytes = λ more fits.
          ap (λ (n : ℕ). take s.hash_block (drop n memory)) placed.at_is
          ∙ closed-block p (level_count_of p) block.level at memory fed more planned placed.level_is placed.level_below h fits
          ∙ rw (placed.index_is, first) refl;
    }

-- what a call that feeds it leaves
pub Feeds-of : (b : TreeBuilder) (after : Progress) (fed more memory : List ℕ) (hash_block : Option HashBlock)
    → IsPlan b.plan
    → FeedsFrom b.plan (level_count_of b.plan) (progress_of b) after fed more memory hash_block
    → ((block : HashBlock) → hash_block ≡ Some block → IsPlaced b.plan after.fed after.closed block)
    → Feeds b (record { plan = b.plan; fed = after.fed; closed = after.closed }) fed more memory hash_block
Feeds-of b after fed more memory None planned h placed = record {
  is_fed = record { count = h.is_fed.count; stands = h.is_fed.stands };
  order = h.order;
  stands = λ block is. absurd cc;
}
Feeds-of b after fed more memory (Some block) planned h placed =
    let s = b.plan.settings in
    let at = placed block refl in
    let last : after.closed - 1 ≡ block.level = omega (arith, at.level_is) in
    let first : 0 + blocks_before s after.fed ≡ blocks_before s after.fed = omega arith in
    record {
      is_fed = record { count = h.is_fed.count; stands = h.is_fed.stands };
      order = rw (at.index_is, first) (rw last at h.order);
      stands = λ other is. IsHandedOut-last b.plan after memory (fed ++ more) other planned (placed other is) h.is_fed;
    }

-- and what is said of the hash block that was handed out last
pub placed-last : (b : TreeBuilder) (last : Result (Option HashBlock) FeedFault)
    → AnswersLast b.plan b.plan 0 (level_count_of b.plan) (progress_of b) last
    → IfOk last (λ found. MatchOption found (HasLast b → ⊥) (λ block. HasLast b × IsPlaced b.plan b.fed b.closed block))
placed-last b (Err fault) h = tt
placed-last b (Ok None) h = λ is. h is.some is.closed
placed-last b (Ok (Some block)) h = (
  record {
    some = h.some;
    most = h.most;
    closed = h.closed;
    levels = omega (arith, h.few, most_closed-tree b.plan b.fed);
  },
  h.placed,
)

pub stands-last : (b : TreeBuilder) (last : Result (Option HashBlock) FeedFault) (memory fed : List ℕ) → IsPlan b.plan
    → AnswersLast b.plan b.plan 0 (level_count_of b.plan) (progress_of b) last → IsFed b memory fed
    → IfOk last (λ found. MatchOption found (b.closed ≡ 0) (λ block. IsHandedOut b.plan fed memory block))
stands-last b (Err fault) memory fed planned h is = tt
stands-last b (Ok None) memory fed planned h is =
    nothing-last b.plan _ b.closed fed _ _ (λ some. h (omega (arith, some, is.count))) is.stands
stands-last b (Ok (Some block)) memory fed planned h is =
    IsHandedOut-last b.plan (progress_of b) memory fed block planned h.placed (IsFedTo-tree b memory fed is)
