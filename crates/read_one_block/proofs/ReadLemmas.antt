-- What a read at a hash block's place gives.
use Rattle.std.proofs.Common.{◌≡◌, ℕ, ◌+◌, ◌*◌, ◌-◌, ◌/◌, ◌^◌, ◌<◌, ◌≤◌, List, length, take, drop, arith, ap, sym, ◌∙◌, refl, inl, inr}
use Rattle.{std.{proofs.{lemmas.Bool.cases_lt, Math.Nat.mul-le-mul_right}, specs.Fork.slice_chunk}, verity_hash.specs.Hashing.with_zeros}
use Rattle.verity_plan.{specs.{Plans.{PlanFields, start_byte_of}, Settings.fan}, proofs.IndexLemmas.quotient-next}
use Rattle.{verity_blocks.proofs.OpenBlocks.DigestsInTurn.{chunk-other, chunk-same}, read_one_block.specs.Reading.stored_above}
use borrow.Rule.Slice.PartMut.{put_mid}

-- the bytes that were read are those stored above the data block
pub read-stored : (p : PlanFields) (i l at n j : ℕ) (device before : List ℕ) → n ≡ p.settings.hash_block
    → at ≡ start_byte_of p l j → j ≡ i / fan p.settings ^ (l + 1)
    → before ≡ device → with_zeros n (take n (drop at before)) ≡ stored_above p i device l
read-stored p i l at n j device before size place index same =
    ap (λ (k : ℕ). with_zeros k (take k (drop at before))) size
    ∙ ap (λ (k : ℕ). with_zeros p.settings.hash_block (take p.settings.hash_block (drop k before)))
    (place ∙ ap (start_byte_of p l) index)
    ∙ ap (λ (xs : List ℕ). with_zeros p.settings.hash_block
    (take p.settings.hash_block (drop (start_byte_of p l (i / fan p.settings ^ (l + 1))) xs))) same

-- the place of a hash block in its level, from that of the block below it
pub closing-place : (f i m index g : ℕ) → index ≡ i / f ^ m → g ≡ f → index / g ≡ i / f ^ (m + 1)
closing-place f i m index g index_is g_is =
    ap (λ (n : ℕ). n / g) index_is ∙ ap (λ (n : ℕ). i / f ^ m / n) g_is ∙ sym (quotient-next f i m)

-- the hash block of a level lies within the path
pub run-within : (path : List ℕ) (l levels size : ℕ) → l < levels → length path ≡ levels * size
    → l * size + size ≤ length path
run-within path l levels size below whole =
    let next : l + 1 ≤ levels = omega arith in
    omega (arith, whole, mul-le-mul_right size next)

-- one more level of a path is read
pub path-more : (p : PlanFields) (i l size : ℕ) (path block device : List ℕ) → size ≡ p.settings.hash_block
    → length block ≡ size → l * size + size ≤ length path
    → block ≡ stored_above p i device l
    → ((m : ℕ) → m < l → slice_chunk path p.settings.hash_block m ≡ stored_above p i device m)
    → (m : ℕ) → m < l + 1
    → slice_chunk (put_mid (l * size) (l * size + size - l * size) path block) p.settings.hash_block m
    ≡ stored_above p i device m
path-more p i l size path block device is len within stored below m less =
    let k = l * size + size - l * size in
    let after = put_mid (l * size) k path block in
    let wide : k ≡ size = omega arith in
    ap (λ (n : ℕ). slice_chunk after n m) (sym is)
    ∙ elim (cases_lt m l) [
      | inl low ↦
          chunk-other path block size l m (l * size) k refl wide len within (inl low)
          ∙ ap (λ (n : ℕ). slice_chunk path n m) is
          ∙ below m low
      | inr high ↦
          let same : m ≡ l = omega (arith, less, high) in
          ap (slice_chunk after size) same
          ∙ chunk-same path block size l (l * size) k refl len within
          ∙ stored
          ∙ ap (stored_above p i device) (sym same)
    ]
