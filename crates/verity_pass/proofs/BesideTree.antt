-- What stands beside a tree on a device: other bytes stay, and the device gets no longer than the tree needs. And in the
-- tree's range two devices that hold it are the same.
use Rattle.std.proofs.Common.{◌≡◌, ℕ, ◌+◌, ◌*◌, ◌/◌, ◌%◌, ◌<◌, ◌≤◌, ◌⊎◌, List, [], ◌∷◌, length, take, drop, get_or, arith, sym, subst, ◌∙◌, ap, refl}
use Rattle.std.proofs.{Common.{inl, inr}, lemmas.{Grind.common_steps, Nat.{div-add-mod', div_below, le-div, mod_below}}, Math.Nat.mul-le-mul_right}
use Rattle.{verity_io.specs.Writing.put, verity_blocks.specs.{TreeOnDevice.{HoldsTree, tree_block}, TreeWriting.{device_with, tree_on_device}}}
use Rattle.verity_blocks.{proofs.Levels.CutBlocks.length-cut, specs.{ClosingOrder.{BlockIndex, closed_after, times}, Levels.data_blocks}}
use Rattle.verity_blocks.proofs.Order.{TimesCounted.{times-first, times-more}, ClosesOnce.ClosesOnce-all}
use Rattle.verity_blocks.proofs.Order.PlacedBlocks.{length-put, length-tree_block, put-byte, range-within}
use Rattle.verity_plan.{specs.Plans.{HasBlock, IsPlan, IsTreeBlock, PlanFields, end_place_of, start_byte, start_byte_of}, proofs.FanLemmas.fan-some}
use Rattle.verity_plan.{specs.Settings.{TreeSettingsFields, fan}, proofs.{FitLemmas.fan-fits, PlaceLemmas.PlacesAreOnce-all, PlanLemmas.some_hash}}

-- ---- blocks that are put one after another

-- what each put of a block keeps of a device, all of them keep
device-keeps : (P : List ℕ → Type 0) (s : TreeSettingsFields) (blocks : List (List ℕ)) (base : ℕ) (all : List BlockIndex)
    → ((m k : ℕ) → 0 < times m k all → (device : List ℕ) → P device
    → P (put device (start_byte s (length blocks) base m k) (tree_block s blocks m k)))
    → (device : List ℕ) → P device → P (device_with s blocks base all device)
unfolding device_with
device-keeps P s blocks base [] each device so = so
device-keeps P s blocks base (next ∷ rest) each device so =
    device-keeps P s blocks base rest (λ m k some. each m k (omega (arith, some, times-more m k next rest)))
    (put device (start_byte s (length blocks) base next.level next.index) (tree_block s blocks next.level next.index))
    (each next.level next.index (times-first next rest) device so)

-- ---- the blocks of a tree

-- a block stands within the tree's range
pub block-within : (p : PlanFields) (l j : ℕ) → HasBlock p l j
    → (p.base * p.settings.hash_block ≤ start_byte_of p l j)
    × (start_byte_of p l j + p.settings.hash_block ≤ end_place_of p * p.settings.hash_block)
block-within p l j here =
    let within = (PlacesAreOnce-all (fan p.settings) p.blocks p.base).within l j here in (
      mul-le-mul_right p.settings.hash_block within.0,
      omega (arith, mul-le-mul_right p.settings.hash_block within.1),
    )

-- a block has a hash block's length
length-block : (p : PlanFields) (bytes : List ℕ) (l j : ℕ) → IsPlan p → HasBlock p l j
    → length (tree_block p.settings (data_blocks p bytes) l j) ≡ p.settings.hash_block
length-block p bytes l j planned here =
    length-tree_block p.settings (data_blocks p bytes) l j (fan-fits p.settings planned.valid)
    (subst (λ (n : ℕ). IsTreeBlock (fan p.settings) n l j) (sym (length-cut p.settings p.blocks p.wanted bytes)) here)

-- what every put of a hash block in its place keeps of a device, putting the whole tree keeps
tree-keeps : (P : List ℕ → Type 0) (p : PlanFields) (bytes : List ℕ) → IsPlan p
    → ((l j : ℕ) → HasBlock p l j → (block device : List ℕ) → length block ≡ p.settings.hash_block → P device
    → P (put device (start_byte_of p l j) block))
    → (device : List ℕ) → P device → P (tree_on_device p (data_blocks p bytes) device)
tree-keeps P p bytes planned each =
    let s = p.settings in
    let blocks = data_blocks p bytes in
    device-keeps P s blocks p.base (closed_after (fan s) p.blocks p.blocks) (λ l j some device so.
    let here = (ClosesOnce-all (fan s) p.blocks (fan-some s)).only l j some in
    subst (λ (n : ℕ). P (put device (start_byte s n p.base l j) (tree_block s blocks l j)))
    (sym (length-cut s p.blocks p.wanted bytes))
    (each l j here (tree_block s blocks l j) device (length-block p bytes l j planned here) so))

-- a byte outside the tree's range stays
pub tree-byte : (p : PlanFields) (bytes device : List ℕ) (i : ℕ) → IsPlan p
    → (i < p.base * p.settings.hash_block) ⊎ (end_place_of p * p.settings.hash_block ≤ i)
    → get_or (tree_on_device p (data_blocks p bytes) device) i 0 ≡ get_or device i 0
tree-byte p bytes device i planned beside =
    tree-keeps (λ after. get_or after i 0 ≡ get_or device i 0) p bytes planned (λ l j here block before long so.
    let within = block-within p l j here in
    put-byte before (start_byte_of p l j) block i (elim beside [
      | inl low ↦ inl (omega (arith, low, within.0))
      | inr past ↦ inr (omega (arith, past, within.1, long))
    ]) ∙ so) device refl

pub tree-no_shorter : (p : PlanFields) (blocks : List (List ℕ)) (device : List ℕ)
    → length device ≤ length (tree_on_device p blocks device)
tree-no_shorter p blocks device =
    device-keeps (λ after. length device ≤ length after) p.settings blocks p.base
    (closed_after (fan p.settings) p.blocks p.blocks)
    (λ m k _ before so. omega (
      arith,
      so,
      length-put before (start_byte p.settings (length blocks) p.base m k)
          (tree_block p.settings blocks m k),
    )) device (omega arith)

pub tree-no_longer : (p : PlanFields) (bytes device : List ℕ) (i : ℕ) → IsPlan p → length device ≤ i
    → ((l j : ℕ) → HasBlock p l j → start_byte_of p l j + p.settings.hash_block ≤ i)
    → length (tree_on_device p (data_blocks p bytes) device) ≤ i
tree-no_longer p bytes device i planned most each =
    tree-keeps (λ after. length after ≤ i) p bytes planned (λ l j here block before long so.
    omega (arith, so, each l j here, long, length-put before (start_byte_of p l j) block)) device most

-- ---- two devices that hold one tree

-- a byte of the tree's range is the same in both
pub tree-bytes : (p : PlanFields) (bytes a b digest : List ℕ) (k : ℕ) → IsPlan p
    → HoldsTree p a bytes digest → HoldsTree p b bytes digest
    → p.base * p.settings.hash_block ≤ k → k < end_place_of p * p.settings.hash_block
    → (k < length a) × (get_or a k 0 ≡ get_or b k 0)
tree-bytes p bytes a b digest k planned of_a of_b from to =
    let s = p.settings in
    let size = s.hash_block in
    let some = some_hash p planned in
    let q = k / size in
    let all = (PlacesAreOnce-all (fan s) p.blocks p.base).each q (le-div p.base k size some from)
    (div_below k size (end_place_of p) some to) in
    let l = all.0 in
    let j = all.1 in
    let here = all.2 in
    let start = start_byte_of p l j in
    let blocks = data_blocks p bytes in
    let long = length-block p bytes l j planned here in
    let fits : start + size ≤ length a =
    range-within a (tree_block s blocks l j) start size some long (of_a.stands l j here) in
    let n = k % size in
    let below : n < size = mod_below k size some in
    let back : start + n ≡ k = omega (arith, ap (λ (m : ℕ). m * size) all.3, div-add-mod' k size) in
    let byte : (device : List ℕ) → get_or (take size (drop start device)) n 0 ≡ get_or device k 0 =
    λ device. grind (arith, common_steps, below, back) in
    let same : take size (drop start a) ≡ take size (drop start b) = of_a.stands l j here ∙ sym (of_b.stands l j here) in
    let short : k < length a = omega (arith, fits, back, below) in
    (short, sym (byte a) ∙ ap (λ (xs : List ℕ). get_or xs n 0) same ∙ byte b)
