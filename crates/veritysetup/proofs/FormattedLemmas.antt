-- A formatted device is the one that writing each hash block and then the superblock leaves.
use Rattle.std.proofs.Common.{◌≡◌, ◌⊎◌, ℕ, ◌+◌, ◌-◌, ◌*◌, ◌<◌, ◌≤◌, Bool, true, false, ◌&&◌, List, length, take, drop, get_or, arith, sym, subst, ◌∙◌}
use Rattle.std.proofs.{Common.{ap, refl, inl, inr}, lemmas.Bool.{and_parts, cases_lt, or_cases, or_parts, Decides.nat_tests}}
use Rattle.{std.proofs.lemmas.List.{ext_get_or, get_or-drop, get_or-take}, verity_io.specs.Writing.put, verity_blocks.specs.Levels.data_blocks}
use Rattle.verity_plan.{specs.Plans.{HasBlock, end_place_of, start_byte_of}, proofs.PlanLemmas.some_hash}
use Rattle.{verity_format.{specs.Superblocks.superblock_bytes, proofs.TextLemmas.length-superblock_bytes}, verity_blocks.specs.TreeOnDevice.HoldsTree}
use Rattle.verity_blocks.{proofs.Order.PlacedBlocks.{length-put, put-byte, put-here, range-within}, specs.TreeWriting.tree_on_device}
use Rattle.verity_pass.proofs.{BesideTree.{block-within, tree-byte, tree-bytes, tree-no_longer, tree-no_shorter}, PutTree.{put-before, put-holds}}
use Rattle.veritysetup.specs.{Options.Settings.SettingsFields, Runs.Formatted.{IsFormattedDevice, is_within, is_written, root_above}}
use Rattle.veritysetup.specs.Runs.{HashDevice.{superblock_at, superblock_for}, Format.formatted_device}
use Rattle.veritysetup.proofs.SettingsLemmas.{AreValid, superblock-before, superblock-valid}

-- ---- the superblock

-- a device with the superblock
with-superblock : (s : SettingsFields) (blocks : List (List ℕ)) (before : List ℕ) → s.superblock ≡ true
    → formatted_device s blocks before
    ≡ put (tree_on_device s.plan blocks before) s.offset (superblock_bytes (superblock_for s))
with-superblock s blocks before has = rw has refl

without-superblock : (s : SettingsFields) (blocks : List (List ℕ)) (before : List ℕ) → s.superblock ≡ false
    → formatted_device s blocks before ≡ tree_on_device s.plan blocks before
without-superblock s blocks before none = rw none refl

-- ---- the tree

-- the device holds the tree
holds-formatted : (s : SettingsFields) (bytes before : List ℕ) → AreValid s → s.plan.wanted ≤ length bytes
    → HoldsTree s.plan (formatted_device s (data_blocks s.plan bytes) before) bytes (root_above s bytes)
holds-formatted s bytes before valid enough = by_test s.superblock refl
  where
    by_test : (b : Bool) → s.superblock ≡ b
        → HoldsTree s.plan (formatted_device s (data_blocks s.plan bytes) before) bytes (root_above s bytes)
    by_test false none =
        subst (λ (device : List ℕ). HoldsTree s.plan device bytes (root_above s bytes))
        (sym (without-superblock s (data_blocks s.plan bytes) before none))
        (put-holds s.plan bytes before valid.planned enough)
    by_test true has =
        let v = superblock_for s in
        subst (λ (device : List ℕ). HoldsTree s.plan device bytes (root_above s bytes))
        (sym (with-superblock s (data_blocks s.plan bytes) before has))
        (put-before s.plan (tree_on_device s.plan (data_blocks s.plan bytes) before) bytes (root_above s bytes)
        s.offset (superblock_bytes v) valid.planned
        (omega (arith, superblock-before s valid has, length-superblock_bytes v (superblock-valid s valid)))
        (put-holds s.plan bytes before valid.planned enough))

-- ---- what is written

within_true : (first end i : ℕ) → is_within first end i ≡ true → (first ≤ i) × (i < end)
within_true first end i e = (grind (arith, nat_tests, e), grind (arith, nat_tests, e))

within_false : (first end i : ℕ) → is_within first end i ≡ false → (i < first) ⊎ (end ≤ i)
within_false first end i e = elim (cases_lt i first) [
  | inl before ↦ inl before
  | inr from ↦ elim (cases_lt i end) [
    | inr past ↦ inr past
    | inl below ↦ absurd (grind (arith, nat_tests, e, from, below))
  ]
]

-- a byte that isn't written is outside the tree's range
pub beside-tree : (s : SettingsFields) (i : ℕ) → is_written s i ≡ false
    → (i < s.plan.base * s.plan.settings.hash_block) ⊎ (end_place_of s.plan * s.plan.settings.hash_block ≤ i)
beside-tree s i miss =
    within_false (s.plan.base * s.plan.settings.hash_block) (end_place_of s.plan * s.plan.settings.hash_block) i
    (or_parts _ _ miss).1

-- and outside the superblock
pub beside-superblock : (s : SettingsFields) (i : ℕ) → s.superblock ≡ true → is_written s i ≡ false
    → (i < s.offset) ⊎ (s.offset + 512 ≤ i)
beside-superblock s i has miss =
    let outside : (s.superblock && is_within s.offset (s.offset + 512) i) ≡ false = (or_parts _ _ miss).0 in
    within_false s.offset (s.offset + 512) i
    (ap (λ (b : Bool). b && is_within s.offset (s.offset + 512) i) (sym has) ∙ outside)

-- ---- what is written leaves a formatted device

formatted-superblock : (s : SettingsFields) (blocks : List (List ℕ)) (before : List ℕ) → AreValid s
    → s.superblock ≡ true
    → superblock_at s.offset (formatted_device s blocks before) ≡ superblock_bytes (superblock_for s)
formatted-superblock s blocks before valid has =
    let v = superblock_for s in
    let tree = tree_on_device s.plan blocks before in
    ap (λ (device : List ℕ). take 512 (drop s.offset device)) (with-superblock s blocks before has)
    ∙ ap (λ (n : ℕ). take n (drop s.offset (put tree s.offset (superblock_bytes v))))
    (sym (length-superblock_bytes v (superblock-valid s valid)))
    ∙ put-here tree s.offset (superblock_bytes v)

pub formatted-others : (s : SettingsFields) (source before : List ℕ) → AreValid s → (i : ℕ) → is_written s i ≡ false
    → get_or (formatted_device s (data_blocks s.plan source) before) i 0 ≡ get_or before i 0
formatted-others s source before valid i miss = by_test s.superblock refl
  where
    by_test : (b : Bool) → s.superblock ≡ b
        → get_or (formatted_device s (data_blocks s.plan source) before) i 0 ≡ get_or before i 0
    by_test false none =
        ap (λ (device : List ℕ). get_or device i 0) (without-superblock s (data_blocks s.plan source) before none)
        ∙ tree-byte s.plan source before i valid.planned (beside-tree s i miss)
    by_test true has =
        let bytes = superblock_bytes (superblock_for s) in
        let long : length bytes ≡ 512 = length-superblock_bytes (superblock_for s) (superblock-valid s valid) in
        let tree = tree_on_device s.plan (data_blocks s.plan source) before in
        let outside : (i < s.offset) ⊎ (s.offset + length bytes ≤ i) =
        elim (beside-superblock s i has miss) [
          | inl low ↦ inl low
          | inr past ↦ inr (omega (arith, past, long))
        ] in
        ap (λ (device : List ℕ). get_or device i 0) (with-superblock s (data_blocks s.plan source) before has)
        ∙ put-byte tree s.offset bytes i outside
        ∙ tree-byte s.plan source before i valid.planned (beside-tree s i miss)

pub formatted-no_shorter : (s : SettingsFields) (blocks : List (List ℕ)) (before : List ℕ)
    → length before ≤ length (formatted_device s blocks before)
formatted-no_shorter s blocks before = by_test s.superblock refl
  where
    by_test : (b : Bool) → s.superblock ≡ b → length before ≤ length (formatted_device s blocks before)
    by_test false none =
        omega (
          arith,
          ap length (without-superblock s blocks before none),
          tree-no_shorter s.plan blocks before,
        )
    by_test true has =
        omega (
          arith,
          ap length (with-superblock s blocks before has),
          length-put (tree_on_device s.plan blocks before) s.offset (superblock_bytes (superblock_for s)),
          tree-no_shorter s.plan blocks before,
        )

-- a block that is written ends before a byte from which on nothing is written
block-before : (s : SettingsFields) (i : ℕ) → AreValid s → ((j : ℕ) → i ≤ j → is_written s j ≡ false)
    → (l j : ℕ) → HasBlock s.plan l j → start_byte_of s.plan l j + s.plan.settings.hash_block ≤ i
block-before s i valid unwritten l j here =
    let size = s.plan.settings.hash_block in
    let some : 0 < size = some_hash s.plan valid.planned in
    let last = start_byte_of s.plan l j + size - 1 in
    let within = block-within s.plan l j here in
    elim (cases_lt i (start_byte_of s.plan l j + size)) [
      | inr past ↦ past
      | inl below ↦
          let from : i ≤ last = omega (arith, below) in
          elim (beside-tree s last (unwritten last from)) [
            | inl low ↦ absurd (omega (arith, low, within.0, some))
            | inr high ↦ absurd (omega (arith, high, within.1, some))
          ]
    ]

pub formatted-no_longer : (s : SettingsFields) (source before : List ℕ) → AreValid s → (i : ℕ) → length before ≤ i
    → ((j : ℕ) → i ≤ j → is_written s j ≡ false)
    → length (formatted_device s (data_blocks s.plan source) before) ≤ i
formatted-no_longer s source before valid i past unwritten = by_test s.superblock refl
  where
    tree-most : length (tree_on_device s.plan (data_blocks s.plan source) before) ≤ i
    tree-most = tree-no_longer s.plan source before i valid.planned past (block-before s i valid unwritten)

    by_test : (b : Bool) → s.superblock ≡ b → length (formatted_device s (data_blocks s.plan source) before) ≤ i
    by_test false none =
        omega (arith, ap length (without-superblock s (data_blocks s.plan source) before none), tree-most)
    by_test true has =
        let last = s.offset + 511 in
        let ends : s.offset + 512 ≤ i = elim (cases_lt i (s.offset + 512)) [
          | inr fits ↦ fits
          | inl below ↦
              let from : i ≤ last = omega (arith, below) in
              elim (beside-superblock s last has (unwritten last from)) [
                | inl low ↦ absurd (omega (arith, low))
                | inr high ↦ absurd (omega (arith, high))
              ]
        ] in
        omega (
          arith,
          ap length (with-superblock s (data_blocks s.plan source) before has),
          length-put (tree_on_device s.plan (data_blocks s.plan source) before) s.offset
              (superblock_bytes (superblock_for s)),
          length-superblock_bytes (superblock_for s) (superblock-valid s valid),
          ends,
          tree-most,
        )

-- a device on which all is written is formatted
pub written-formatted : (s : SettingsFields) (source before : List ℕ) → AreValid s → s.plan.wanted ≤ length source
    → IsFormattedDevice s source before (formatted_device s (data_blocks s.plan source) before)
written-formatted s source before valid enough = record {
  tree = holds-formatted s source before valid enough;
  superblock = formatted-superblock s (data_blocks s.plan source) before valid;
  others = formatted-others s source before valid;
  no_shorter = formatted-no_shorter s (data_blocks s.plan source) before;
  no_longer = formatted-no_longer s source before valid;
}

-- ---- and there is no other

-- a byte of the superblock is the same on two formatted devices
superblock-byte : (s : SettingsFields) (a b : List ℕ) (i : ℕ) → AreValid s → s.offset ≤ i → i < s.offset + 512
    → superblock_at s.offset a ≡ superblock_bytes (superblock_for s)
    → superblock_at s.offset b ≡ superblock_bytes (superblock_for s)
    → (i < length a) × (get_or a i 0 ≡ get_or b i 0)
superblock-byte s a b i valid from to of_a of_b =
    let bytes = superblock_bytes (superblock_for s) in
    let long : length bytes ≡ 512 = length-superblock_bytes (superblock_for s) (superblock-valid s valid) in
    let fits : s.offset + 512 ≤ length a = range-within a bytes s.offset 512 (omega arith) long of_a in
    let n = i - s.offset in
    let below : n < 512 = omega (arith, from, to) in
    let back : s.offset + n ≡ i = omega (arith, from) in
    let byte : (device : List ℕ) → get_or (take 512 (drop s.offset device)) n 0 ≡ get_or device i 0 = λ device.
    get_or-take 512 (drop s.offset device) n 0 below ∙ get_or-drop s.offset device n 0
    ∙ ap (λ (k : ℕ). get_or device k 0) back in
    (omega (arith, fits, to), sym (byte a) ∙ ap (λ (xs : List ℕ). get_or xs n 0) (of_a ∙ sym of_b) ∙ byte b)

-- and so is each byte that is written
written-same : (s : SettingsFields) (source before a b : List ℕ) → AreValid s
    → IsFormattedDevice s source before a → IsFormattedDevice s source before b → (i : ℕ) → is_written s i ≡ true
    → (i < length a) × (get_or a i 0 ≡ get_or b i 0)
written-same s source before a b valid of_a of_b i hit =
    elim (or_cases _ _ hit) [
      | inl top ↦
          let both = and_parts s.superblock (is_within s.offset (s.offset + 512) i) top in
          let within = within_true s.offset (s.offset + 512) i both.1 in
          superblock-byte s a b i valid within.0 within.1 (of_a.superblock both.0) (of_b.superblock both.0)
      | inr tree ↦
          let within =
          within_true (s.plan.base * s.plan.settings.hash_block) (end_place_of s.plan * s.plan.settings.hash_block) i
          tree in
          tree-bytes s.plan source a b (root_above s source) i valid.planned of_a.tree of_b.tree within.0 within.1
    ]

formatted-most : (s : SettingsFields) (source before a b : List ℕ) → AreValid s → IsFormattedDevice s source before a
    → IsFormattedDevice s source before b → length a ≤ length b
formatted-most s source before a b valid of_a of_b =
    of_a.no_longer (length b) of_b.no_shorter (λ j past. by_test j past (is_written s j) refl)
  where
    by_test : (j : ℕ) → length b ≤ j → (hit : Bool) → is_written s j ≡ hit → is_written s j ≡ false
    by_test j past false miss = miss
    by_test j past true hit =
        let same = written-same s source before b a valid of_b of_a j hit in
        absurd (omega (arith, past, same.0))

-- two devices that are formatted alike are the same
pub formatted-same : (s : SettingsFields) (source before a b : List ℕ) → AreValid s
    → IsFormattedDevice s source before a → IsFormattedDevice s source before b → a ≡ b
formatted-same s source before a b valid of_a of_b =
    let long : length a ≡ length b =
    omega (
      arith,
      formatted-most s source before a b valid of_a of_b,
      formatted-most s source before b a valid of_b of_a,
    ) in
    ext_get_or 0 a b long (λ i below. by_test i (is_written s i) refl)
  where
    by_test : (i : ℕ) (hit : Bool) → is_written s i ≡ hit → get_or a i 0 ≡ get_or b i 0
    by_test i true hit = (written-same s source before a b valid of_a of_b i hit).1
    by_test i false miss = of_a.others i miss ∙ sym (of_b.others i miss)
