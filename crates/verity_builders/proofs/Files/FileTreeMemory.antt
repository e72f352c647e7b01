-- The memory of a builder of a file's tree between two calls, and what it hands out.
use Rattle.std.proofs.Common.{◌≡◌, ℕ, zero, suc, ◌+◌, ◌-◌, ◌*◌, ◌<◌, ◌≤◌, Bool, true, false, List, [], ◌++◌, length, take, drop, Some, None, arith}
use Rattle.{std.proofs.{Common.{refl, sym, ◌∙◌, ap, length-append}, lemmas.List.append-nil}, verity_blocks.proofs.Order.HandedOut.handed-out-stays}
use Rattle.verity_plan.specs.{Plans.plan_of_file, PlanCounts.most_level_count, Settings.{IsValid, TreeSettingsFields}}
use Rattle.verity_blocks.specs.{ClosingOrder.{BlockIndex, handed_out}, Steps.Feeding.{FeedsOn, IsHandingOut, Stands}}
use Rattle.verity_builders.{specs.FileTrees.{FeedsFile, IsFedFileTree, IsFinal, IsPlacedInFile}, proofs.Trees.TreeMemory.{open_block-within, joined}}
use Rattle.verity_builders.specs.declared.file_tree_builder.{FileHashBlock.FileHashBlock, FileTreeBuilder.FileTreeBuilder}
use Rattle.verity_builders.{proofs.Files.FileTreeBlocks.{Stands-moves, handed_out-same, handing-moves}, specs.Feeding.{IsFedFile, open_blocks}}

-- when no hash block waits, the bytes were fed to a builder that gives the root hash alone
pub file-of_tree : (b : FileTreeBuilder) (memory fed : List ℕ) → b.closed ≡ 0 → IsFedFileTree b memory fed
    → IsFedFile (record { settings = b.settings; fed = b.fed }) memory fed
file-of_tree b memory fed none h = record { count = h.count; stands = rw none at h.stands }

pub tree-of_file : (b : FileTreeBuilder) (memory fed : List ℕ) → b.closed ≡ 0
    → IsFedFile (record { settings = b.settings; fed = b.fed }) memory fed → IsFedFileTree b memory fed
tree-of_file b memory fed none h = record { count = h.count; stands = rw none h.stands }

-- what was fed stands in the two parts of the memory
pub IsFedFileTree-parted : (b : FileTreeBuilder) (n : ℕ) (memory opened window fed : List ℕ)
    → n ≡ most_level_count b.settings * b.settings.hash_block → opened ≡ take n memory → window ≡ drop n memory
    → IsFedFileTree b memory fed
    → Stands (plan_of_file b.settings (length fed + 1)) (most_level_count b.settings) fed b.closed opened window
IsFedFileTree-parted b n memory opened window fed same front back h = rw (front, back, same) h.stands

-- the hash block that was handed out last is final
pub IsFinal-last : (b : FileTreeBuilder) (memory fed : List ℕ) (block : FileHashBlock) → IsValid b.settings
    → IsPlacedInFile b.settings b.fed b.closed block → IsFedFileTree b memory fed → IsFinal b.settings fed memory block
IsFinal-last b memory fed block valid placed h =
    let s = b.settings in
    let levels = most_level_count s in
    let count = length fed in
    let next : b.closed ≡ suc block.level = omega (arith, placed.level_is) in
    let out : IsHandingOut (plan_of_file s (count + 1)) levels block.level fed (open_blocks s levels memory) =
    rw next at h.stands in
    let moved = λ (size : ℕ) (more : count < size).
    handing-moves s levels block.level (count + 1) size fed (open_blocks s levels memory) valid (omega arith) more out in
    record {
      level_below = λ size more. (moved size more).1;
      at_is = placed.at_is;
      bytes = λ more some planned.
          let size = length (fed ++ more) in
          let goes_on = (moved size (omega (arith, some, length-append fed more))).0 in
          ap (λ (n : ℕ). take s.hash_block (drop n memory)) placed.at_is
          ∙ sym (open_block-within s.hash_block block.level levels memory (omega (arith, placed.level_below)))
          ∙ goes_on.closed.stands
          ∙ handed-out-stays (plan_of_file s size) levels block.level fed more _ planned goes_on (omega arith)
          ∙ rw (placed.index_is, h.count) refl;
    }

-- more bytes were fed to a builder by the plan of a file of some size, and its memory stands in two parts
pub record HasFedOnFile (b : FileTreeBuilder) (size count closed : ℕ) (fed more : List ℕ) (closes : Bool)
    (opened window : List ℕ) : Type 0 where
  pub valid : IsValid b.settings
  pub had : length fed ≡ b.fed
  pub has : length (fed ++ more) ≡ count
  pub long : length opened ≡ most_level_count b.settings * b.settings.hash_block
  pub most : count ≤ size
  pub before_end : closes ≡ true → count < size
  pub none_waits : closes ≡ false → closed ≡ 0
  pub on : FeedsOn (plan_of_file b.settings size) (most_level_count b.settings) fed b.closed more closes closed opened window

-- when no hash block waits the plan doesn't count
Stands-open : (s : TreeSettingsFields) (levels closed m n : ℕ) (fed opened window : List ℕ) → closed ≡ 0
    → Stands (plan_of_file s m) levels fed closed opened window → Stands (plan_of_file s n) levels fed closed opened window
Stands-open s levels zero m n fed opened window none h = h
Stands-open s levels (suc level) m n fed opened window none h = absurd (omega (arith, none))

-- the memory is put together
IsFedFileTree-joined : (b : FileTreeBuilder) (size count closed : ℕ) (fed more : List ℕ) (closes : Bool)
    (opened window : List ℕ)
    → HasFedOnFile b size count closed fed more closes opened window
    → IsFedFileTree (record { settings = b.settings; fed = count; closed = closed }) (opened ++ window) (fed ++ more)
IsFedFileTree-joined b size count closed fed more closes opened window h =
    let s = b.settings in
    let levels = most_level_count s in
    let all = length (fed ++ more) in
    record {
      count = h.has;
      stands = joined (Stands (plan_of_file s (all + 1)) levels (fed ++ more) closed) (levels * s.hash_block) opened window
          h.long (stood closes (h.before_end) (h.none_waits));
    }
  where
    stood : (x : Bool) → (x ≡ true → count < size) → (x ≡ false → closed ≡ 0)
        → Stands (plan_of_file b.settings (length (fed ++ more) + 1)) (most_level_count b.settings) (fed ++ more) closed
        opened window
    stood true before none =
        Stands-moves b.settings (most_level_count b.settings) closed size (length (fed ++ more) + 1) (fed ++ more) opened
        window h.valid (omega (arith, before refl, h.has)) (omega arith) h.on.stands
    stood false before none =
        Stands-open b.settings (most_level_count b.settings) closed size (length (fed ++ more) + 1) (fed ++ more) opened
        window (none refl) h.on.stands

-- the order in which blocks are handed out, of a file of any size
order-of : (s : TreeSettingsFields) (size other before closed after new_closed : ℕ) (out : List BlockIndex) → IsValid s
    → before ≤ after → after ≤ size → after ≤ other
    → handed_out (plan_of_file s size) after new_closed ≡ handed_out (plan_of_file s size) before closed ++ out
    → handed_out (plan_of_file s other) after new_closed ≡ handed_out (plan_of_file s other) before closed ++ out
order-of s size other before closed after new_closed out valid rises most enough h =
    handed_out-same s after new_closed other size valid enough most
    ∙ h
    ∙ ap (λ (xs : List BlockIndex). xs ++ out)
    (handed_out-same s before closed size other valid (omega (arith, rises, most)) (omega (arith, rises, enough)))

-- after a call without a hash block that has closed
pub FeedsFile-none : (b : FileTreeBuilder) (size count closed : ℕ) (fed more opened window : List ℕ)
    → HasFedOnFile b size count closed fed more false opened window
    → FeedsFile b (record { settings = b.settings; fed = count; closed = closed }) fed more (opened ++ window) None
FeedsFile-none b size count closed fed more opened window h =
    let rises : b.fed ≤ count = omega (arith, h.had, h.has, length-append fed more) in
    let order : handed_out (plan_of_file b.settings size) count closed
    ≡ handed_out (plan_of_file b.settings size) b.fed b.closed ++ [] = rw (append-nil, ← h.has, ← h.had) h.on.order in
    record {
      is_fed = IsFedFileTree-joined b size count closed fed more false opened window h;
      order = λ other enough. order-of b.settings size other b.fed b.closed count closed [] h.valid rises h.most enough order;
      placed = λ block is. absurd cc;
      stands = λ block is. absurd cc;
    }

-- and after one with it
pub FeedsFile-some : (b : FileTreeBuilder) (size count closed : ℕ) (fed more opened window : List ℕ) (block : FileHashBlock)
    → HasFedOnFile b size count closed fed more true opened window → IsPlacedInFile b.settings count closed block
    → FeedsFile b (record { settings = b.settings; fed = count; closed = closed }) fed more (opened ++ window) (Some block)
FeedsFile-some b size count closed fed more opened window block h placed =
    let is_fed = IsFedFileTree-joined b size count closed fed more true opened window h in
    let rises : b.fed ≤ count = omega (arith, h.had, h.has, length-append fed more) in
    let last : closed - 1 ≡ block.level = omega (arith, placed.level_is) in
    let on = rw (last, h.has, h.had) at h.on.order in
    record {
      is_fed = is_fed;
      order = λ other enough. order-of b.settings size other b.fed b.closed count closed _ h.valid rises h.most enough
          (rw placed.index_is on);
      placed = λ other is. let same : block ≡ other = cc in rw (← same) placed;
      stands = λ other is.
          let same : block ≡ other = cc in
          rw (← same) (IsFinal-last _ (opened ++ window) (fed ++ more) block h.valid placed is_fed);
    }
