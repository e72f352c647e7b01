-- Slots one after another.
use Rattle.std.proofs.{Common.{◌≡◌, ℕ, ◌-◌, ◌≤◌, List, ◌++◌, take, length, replicate, arith, ◌+◌, ◌<◌, get_or}, lemmas.Grind.common_steps}
use Rattle.{std.{proofs.lemmas.List.take-replicate, specs.List.flat_map}, verity_blocks.specs.Levels.hash_block_of}
use Rattle.{verity_plan.specs.Settings.{TreeSettingsFields, slot, slot_width}, verity_hash.specs.Hashing.with_zeros}

-- a digest and zeros added to some bytes are its slot added
pub slot_pushed : (before bytes digest first second : List ℕ) (rest width : ℕ)
    → first ≡ before ++ bytes → second ≡ first ++ take rest (replicate 128 0) → bytes ≡ digest
    → rest ≡ width - length bytes → width ≤ 128
    → second ≡ before ++ with_zeros width digest
slot_pushed before bytes digest first second rest width e f same r most =
    let zeros : take rest (replicate {A = ℕ} 128 0) ≡ replicate rest 0 = take-replicate rest 128 0 (omega arith) in
    grind (arith, common_steps)

-- one slot more
pub slots-more : (s : TreeSettingsFields) (before after : List ℕ) (digests : List (List ℕ)) (digest : List ℕ) (i width : ℕ)
    → width ≡ slot_width s → digest ≡ get_or digests i digest → i < length digests
    → before ≡ flat_map (slot s) (take i digests) → after ≡ before ++ with_zeros width digest
    → after ≡ flat_map (slot s) (take (i + 1) digests)
slots-more s before after digests digest i width width_is digest_is below before_is after_is =
    grind (arith, common_steps)

-- all slots, and zeros up to the size of a hash block
pub slots-filled : (s : TreeSettingsFields) (before after : List ℕ) (digests : List (List ℕ)) (i size rest : ℕ)
    → length digests ≤ i → length before ≤ size → rest ≡ s.hash_block - length before
    → before ≡ flat_map (slot s) (take i digests) → after ≡ take size before ++ replicate rest 0
    → after ≡ hash_block_of s digests
slots-filled s before after digests i size rest all long left before_is after_is = grind (arith, common_steps)
