-- A device on which format has begun: what isn't written is as before, and without the superblock there is none.
use Rattle.std.proofs.Common.{◌≡◌, ◌≢◌, ◌⊎◌, ℕ, ◌+◌, ◌-◌, ◌<◌, ◌≤◌, true, false, cond, List, [], ◌∷◌, ◌++◌, length, take, drop, get_or, Result, Ok}
use Rattle.std.proofs.{Common.{Err, arith, sym, subst, ◌∙◌, ap, refl, inl, inr}, lemmas.{Bool.cases_lt, List.{get_or-drop, get_or-take}}}
use Rattle.{std.{proofs.lemmas.List.Sums.sum_by-append, specs.Prelude.{◌==◌, ◌&&◌}}, verity_io.specs.Writing.{Spoiled, put}}
use Rattle.{verity_format.specs.Superblocks.{IsSuperblock, SuperblockFields, signature}, verity_pass.proofs.BesideTree.block-within}
use Rattle.verity_plan.{specs.{Plans.{HasBlock, IsTreeBlock, start_byte, start_byte_of}, Settings.fan}, proofs.FanLemmas.fan-some}
use Rattle.verity_plan.proofs.{FitLemmas.fan-fits, PlanLemmas.some_hash}
use Rattle.verity_blocks.specs.{ClosingOrder.{BlockIndex, ComesNext, block_index, closed_after, times}, Levels.data_blocks, TreeOnDevice.tree_block}
use Rattle.verity_blocks.{specs.TreeWriting.{device_with, tree_on_device}, proofs.Order.TimesCounted.{times-first, times-more}}
use Rattle.verity_blocks.proofs.{Order.{ClosesOnce.closed_time, PlacedBlocks.{length-put, length-tree_block, put-byte}}, Levels.CutBlocks.length-cut}
use Rattle.veritysetup.specs.{Faults.{result_status, status_refused}, Options.Settings.SettingsFields, Runs.Format.{Formatted, Reads, Writes}}
use Rattle.veritysetup.specs.{Runs.{Formatted.{IsFormattedDevice, is_written}, HashDevice.superblock_at, Verify.Verifies}, declared.fault.Fault.Fault}
use Rattle.veritysetup.specs.{Runs.Resumed.{IsBeforeSuperblock, IsStoredAt, KeepsOthers}, declared.runs.verify_input.VerifyInput.VerifyInput}
use Rattle.veritysetup.{specs.declared.runs.verify_input.VerifyInput.TheVariants.{Stored, Given}, proofs.SettingsLemmas.{AreValid, superblock-before}}
use Rattle.veritysetup.proofs.FormattedLemmas.{beside-superblock, beside-tree, formatted-no_longer, formatted-no_shorter, formatted-others}
use Rattle.verity_pass.specs.declared.building.BuildFault.TheVariants as build
use Rattle.veritysetup.specs.declared.fault.Fault.TheVariants as fault
use Rattle.veritysetup.specs.declared.options.option_fault.OptionFault.TheVariants as option

-- ---- a write into what format writes

-- a range lies within what format writes
abbrev IsOfFormat : SettingsFields → ℕ → ℕ → Type 0
IsOfFormat s at c = (i : ℕ) → is_written s i ≡ false → (i < at) ⊎ (at + c ≤ i)

pub keeps-refl : (s : SettingsFields) (device : List ℕ) → KeepsOthers s device device
keeps-refl s device = record {
  others = λ i miss. refl;
  no_shorter = omega arith;
  no_longer = λ i past unwritten. past;
}

-- a failed write into such a range keeps the others
spoiled-keeps : (s : SettingsFields) (before device after : List ℕ) (at c : ℕ) → 0 < c → IsOfFormat s at c
    → KeepsOthers s before device → Spoiled device at c after → KeepsOthers s before after
spoiled-keeps s before device after at c some own kept spoiled = record {
  others = λ i miss. spoiled.outside i (own i miss) ∙ kept.others i miss;
  no_shorter = omega (arith, spoiled.no_shorter, kept.no_shorter);
  no_longer = λ i past unwritten.
      let last = at + c - 1 in
      let ends : at + c ≤ i = elim (cases_lt i (at + c)) [
        | inr fits ↦ fits
        | inl below ↦ elim (own last (unwritten last (omega (arith, below)))) [
          | inl low ↦ absurd (omega (arith, low, some))
          | inr high ↦ absurd (omega (arith, high, some))
        ]
      ] in
      omega (arith, spoiled.no_longer, kept.no_longer i past unwritten, ends);
}

-- a write does to the others what a failed one may
put-spoils : (device : List ℕ) (at : ℕ) (bytes : List ℕ) (n : ℕ) → length bytes ≡ n
    → Spoiled device at n (put device at bytes)
put-spoils device at bytes n long = record {
  no_shorter = omega (arith, length-put device at bytes);
  no_longer = omega (arith, length-put device at bytes, long);
  outside = λ i apart. put-byte device at bytes i
      (subst (λ (m : ℕ). (i < at) ⊎ (at + m ≤ i)) (sym long) apart);
}

-- ---- some blocks of the tree

-- what each write of a hash block keeps, writing these keeps
blocks-keep : (P : List ℕ → Type 0) (s : SettingsFields) (source : List ℕ) → AreValid s
    → ((l j : ℕ) → HasBlock s.plan l j → (block device : List ℕ) → length block ≡ s.plan.settings.hash_block → P device
    → P (put device (start_byte_of s.plan l j) block))
    → (done : List BlockIndex) → ((l j : ℕ) → 0 < times l j done → HasBlock s.plan l j) → (device : List ℕ) → P device
    → P (device_with s.plan.settings (data_blocks s.plan source) s.plan.base done device)
unfolding device_with
blocks-keep P s source valid each [] own device so = so
blocks-keep P s source valid each (next ∷ rest) own device so =
    let tree = s.plan.settings in
    let blocks = data_blocks s.plan source in
    let many : length blocks ≡ s.plan.blocks = length-cut tree s.plan.blocks s.plan.wanted source in
    let l = next.level in
    let j = next.index in
    let block = tree_block tree blocks l j in
    let here = own l j (times-first next rest) in
    let long = length-tree_block tree blocks l j (fan-fits tree valid.planned.valid)
    (subst (λ (n : ℕ). IsTreeBlock (fan tree) n l j) (sym many) here) in
    blocks-keep P s source valid each rest (λ m k some. own m k (omega (arith, some, times-more m k next rest)))
    (put device (start_byte tree (length blocks) s.plan.base l j) block)
    (subst (λ (n : ℕ). P (put device (start_byte tree n s.plan.base l j) block)) (sym many)
    (each l j here block device long so))

-- a block's range lies within what format writes
block-own : (s : SettingsFields) (l j : ℕ) → HasBlock s.plan l j
    → IsOfFormat s (start_byte_of s.plan l j) s.plan.settings.hash_block
block-own s l j here i miss =
    let within = block-within s.plan l j here in
    elim (beside-tree s i miss) [
      | inl low ↦ inl (omega (arith, low, within.0))
      | inr past ↦ inr (omega (arith, past, within.1))
    ]

some-keep : (s : SettingsFields) (source before : List ℕ) (done : List BlockIndex) → AreValid s
    → ((l j : ℕ) → 0 < times l j done → HasBlock s.plan l j)
    → KeepsOthers s before (device_with s.plan.settings (data_blocks s.plan source) s.plan.base done before)
some-keep s source before done valid own =
    blocks-keep (KeepsOthers s before) s source valid
    (λ l j here block device long so.
    spoiled-keeps s before device (put device (start_byte_of s.plan l j) block) (start_byte_of s.plan l j)
    s.plan.settings.hash_block (some_hash s.plan valid.planned) (block-own s l j here) so
    (put-spoils device (start_byte_of s.plan l j) block s.plan.settings.hash_block long))
    done own before (keeps-refl s before)

-- the blocks that have closed are the tree's
closed-own : (s : SettingsFields) (i : ℕ) → i ≤ s.plan.blocks → (l j : ℕ)
    → 0 < times l j (closed_after (fan s.plan.settings) s.plan.blocks i) → HasBlock s.plan l j
closed-own s i most l j some =
    (closed_time (fan s.plan.settings) s.plan.blocks l j i (fan-some s.plan.settings) most some).0

-- so are those before the next, and the next
next-own : (s : SettingsFields) (done : List BlockIndex) (block : BlockIndex)
    → ComesNext (closed_after (fan s.plan.settings) s.plan.blocks s.plan.blocks) done block
    → ((l j : ℕ) → 0 < times l j done → HasBlock s.plan l j) × HasBlock s.plan block.level block.index
next-own s done block next =
    let all = closed_after (fan s.plan.settings) s.plan.blocks s.plan.blocks in
    let counted : (l j : ℕ) → times l j all ≡ times l j done + times l j (block ∷ []) + times l j next.rest = λ l j.
    let test : BlockIndex → ℕ = λ b. cond ((b.level == l) && (b.index == j)) 1 0 in
    omega (
      arith,
      ap (times l j) next.in_order,
      sum_by-append test (done ++ block ∷ []) next.rest,
      sum_by-append test done (block ∷ []),
    ) in (
      λ l j some. closed-own s s.plan.blocks (omega arith) l j (omega (arith, some, counted l j)),
      closed-own s s.plan.blocks (omega arith) block.level block.index
          (omega (arith, times-first block [], counted block.level block.index)),
    )

-- ---- each outcome

pub outcome-keeps : {X : Type 0} (s : SettingsFields) (source left before between : List ℕ) (outcome : Result X Fault)
    → AreValid s → Reads s outcome source left → Writes s (data_blocks s.plan source) outcome before between
    → KeepsOthers s before between
outcome-keeps s source left before between (Err fault.Store) valid read stands =
    subst (KeepsOthers s before) (sym stands) (keeps-refl s before)
outcome-keeps s source left before between (Err (fault.Build (build.SourceShort i))) valid read stands =
    subst (KeepsOthers s before) (sym stands)
    (some-keep s source before (closed_after (fan s.plan.settings) s.plan.blocks i) valid
    (closed-own s i (omega (arith, read.below))))
outcome-keeps s source left before between (Err (fault.Build (build.SourceFailed i))) valid read stands =
    subst (KeepsOthers s before) (sym stands)
    (some-keep s source before (closed_after (fan s.plan.settings) s.plan.blocks i) valid
    (closed-own s i (omega (arith, read.below))))
outcome-keeps s source left before between (Err (fault.Build (build.DeviceFailed level block))) valid read stands =
    let own = next-own s stands.done (block_index level block) stands.next in
    spoiled-keeps s before
    (device_with s.plan.settings (data_blocks s.plan source) s.plan.base stands.done before) between
    (start_byte_of s.plan level block) s.plan.settings.hash_block (some_hash s.plan valid.planned)
    (block-own s level block own.1) (some-keep s source before stands.done valid own.0) stands.spoiled
outcome-keeps s source left before between (Err fault.SuperblockUnwritten) valid read stands =
    spoiled-keeps s before (tree_on_device s.plan (data_blocks s.plan source) before) between s.offset 512
    (omega arith) (λ i miss. beside-superblock s i stands.0 miss)
    (some-keep s source before (closed_after (fan s.plan.settings) s.plan.blocks s.plan.blocks) valid
    (closed-own s s.plan.blocks (omega arith))) stands.1
outcome-keeps s source left before between outcome valid read stands =
    subst (KeepsOthers s before) (sym stands) (record {
      others = formatted-others s source before valid;
      no_shorter = formatted-no_shorter s (data_blocks s.plan source) before;
      no_longer = formatted-no_longer s source before valid;
    })

-- formatting a device that keeps the others formats the device before
pub begun-formatted : (s : SettingsFields) (source before between after : List ℕ) → KeepsOthers s before between
    → IsFormattedDevice s source between after → IsFormattedDevice s source before after
begun-formatted s source before between after kept formatted = record {
  tree = formatted.tree;
  superblock = formatted.superblock;
  others = λ i miss. formatted.others i miss ∙ kept.others i miss;
  no_shorter = omega (arith, kept.no_shorter, formatted.no_shorter);
  no_longer = λ i past unwritten. formatted.no_longer i (kept.no_longer i past unwritten) unwritten;
}

-- ---- no superblock

-- without the superblock its first byte stays zero
blocks-zero : (s : SettingsFields) (source : List ℕ) (done : List BlockIndex) → AreValid s → s.superblock ≡ true
    → ((l j : ℕ) → 0 < times l j done → HasBlock s.plan l j)
    → get_or (device_with s.plan.settings (data_blocks s.plan source) s.plan.base done []) s.offset 0 ≡ 0
blocks-zero s source done valid has own =
    blocks-keep (λ device. get_or device s.offset 0 ≡ 0) s source valid
    (λ l j here block device long so.
    put-byte device (start_byte_of s.plan l j) block s.offset
    (inl (omega (arith, (block-within s.plan l j here).0, superblock-before s valid has))) ∙ so)
    done own [] refl

begun-zero : (s : SettingsFields) (source left between : List ℕ) (cause : Fault) → AreValid s → s.superblock ≡ true
    → IsBeforeSuperblock cause → Reads {X = Formatted} s (Err cause) source left
    → Writes {X = Formatted} s (data_blocks s.plan source) (Err cause) [] between → get_or between s.offset 0 ≡ 0
begun-zero s source left between fault.Store valid has early read stands =
    ap (λ (device : List ℕ). get_or device s.offset 0) stands
begun-zero s source left between (fault.Build (build.SourceShort i)) valid has early read stands =
    ap (λ (device : List ℕ). get_or device s.offset 0) stands
    ∙ blocks-zero s source (closed_after (fan s.plan.settings) s.plan.blocks i) valid has
    (closed-own s i (omega (arith, read.below)))
begun-zero s source left between (fault.Build (build.SourceFailed i)) valid has early read stands =
    ap (λ (device : List ℕ). get_or device s.offset 0) stands
    ∙ blocks-zero s source (closed_after (fan s.plan.settings) s.plan.blocks i) valid has
    (closed-own s i (omega (arith, read.below)))
begun-zero s source left between (fault.Build (build.DeviceFailed level block)) valid has early read stands =
    let own = next-own s stands.done (block_index level block) stands.next in
    let within = block-within s.plan level block own.1 in
    stands.spoiled.outside s.offset (inl (omega (arith, within.0, superblock-before s valid has)))
    ∙ blocks-zero s source stands.done valid has own.0
begun-zero s source left between other valid has early read stands = absurd early

-- where the first byte is zero, there is no superblock
zero-none : (offset : ℕ) (device : List ℕ) (v : SuperblockFields) → get_or device offset 0 ≡ 0
    → IsSuperblock (superblock_at offset device) v → ⊥
zero-none offset device v zero said =
    let rest = drop offset device in
    let there : offset + 0 ≡ offset = omega arith in
    let byte : get_or (take 8 (take 512 rest)) 0 0 ≡ get_or device offset 0 =
    get_or-take 8 (take 512 rest) 0 0 (omega arith)
    ∙ get_or-take 512 rest 0 0 (omega arith)
    ∙ get_or-drop offset device 0 0
    ∙ ap (λ (n : ℕ). get_or device n 0) there in
    let letter : get_or signature 0 0 ≡ 118 = refl in
    absurd (omega (arith, sym byte ∙ ap (λ (bytes : List ℕ). get_or bytes 0 0) said.signed, zero, letter))

pub begun-unread : (s : SettingsFields) (source left between : List ℕ) (cause : Fault) → AreValid s
    → s.superblock ≡ true → IsBeforeSuperblock cause → Reads {X = Formatted} s (Err cause) source left
    → Writes {X = Formatted} s (data_blocks s.plan source) (Err cause) [] between → (v : SuperblockFields)
    → IsSuperblock (superblock_at s.offset between) v → ⊥
begun-unread s source left between cause valid has early read stands v =
    zero-none s.offset between v (begun-zero s source left between cause valid has early read stands)

-- verify refuses a device without a superblock
pub unread-refused : {X : Type 0} (offset : ℕ) (input : VerifyInput) (device source rest : List ℕ)
    (outcome : Result X Fault)
    → ((v : SuperblockFields) → IsSuperblock (superblock_at offset device) v → ⊥) → IsStoredAt offset input
    → Verifies input device source rest outcome → outcome ≢ Err fault.SuperblockUnread
    → result_status outcome ≡ status_refused
unread-refused offset (Given settings) device source rest outcome none at verifies called = absurd at
unread-refused {X = X} offset (Stored there text) device source rest outcome none at verifies called =
    by_outcome outcome verifies called
  where
    never : (v : SuperblockFields) → IsSuperblock (superblock_at there device) v → ⊥
    never v said = none v (subst (λ (n : ℕ). IsSuperblock (superblock_at n device) v) at said)

    by_outcome : (outcome : Result X Fault) → Verifies (Stored there text) device source rest outcome
        → outcome ≢ Err fault.SuperblockUnread → result_status outcome ≡ status_refused
    by_outcome (Ok done) verifies called = absurd (never verifies.trusted.fields verifies.trusted.superblock)
    by_outcome (Err fault.Store) verifies called =
        absurd (never verifies.0.2.fields verifies.0.2.superblock)
    by_outcome (Err (fault.Compare cause)) verifies called =
        absurd (never verifies.trusted.fields verifies.trusted.superblock)
    by_outcome (Err fault.SuperblockUnread) verifies called = absurd (called refl)
    by_outcome (Err (fault.Superblock cause)) verifies called = refl
    by_outcome (Err fault.HashAreaTooLarge) verifies called =
        absurd (never verifies.0.fields verifies.0.superblock)
    by_outcome (Err (fault.Option option.BadRoot)) verifies called =
        absurd (never verifies.0.fields verifies.0.superblock)
    by_outcome (Err other) verifies called = absurd verifies.0
