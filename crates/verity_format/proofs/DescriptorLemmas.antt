-- The bytes of a descriptor say one descriptor.
use Rattle.std.proofs.Common.{◌≡◌, ℕ, ◌-◌, ◌*◌, ◌^◌, ◌<◌, ◌≤◌, true, List, [], ◌∷◌, ◌++◌, get_or, take, drop, length, replicate, arith, sym, subst}
use Rattle.std.proofs.{Common.{◌∙◌, ap, refl, append_assoc, length-append}, lemmas.List.{drop_at, length-replicate, take_at}}
use Rattle.{std.specs.Int.is_power_of_two, byteorder.specs.{Endian.{little_bytes, little_number}, Numbers.little_number-reads_back}}
use Rattle.verity_hash.specs.{Hashing.{digest_len_of, with_zeros}, declared.algorithm.Algorithm.{Algorithm, TheVariants.{Sha256, Sha512}}}
use Rattle.verity_plan.{specs.Settings.{TreeSettingsFields, is_of_fsverity, log2}, proofs.FitLemmas.power_of_two-is}
use Rattle.{verity_plan.proofs.FanLemmas.{block_power, digest_len_of-most, log2-is, some_data}, verity_format.proofs.SuperblockLemmas.tree-same}
use Rattle.verity_format.specs.Descriptors.{DescriptorFields, IsValidDescriptor, algorithm_number, descriptor_bytes}

-- what stands before the size
head : DescriptorFields → List ℕ
head v = 1 ∷ algorithm_number v.tree.algorithm ∷ log2 v.tree.data_block ∷ length v.tree.salt ∷ []

-- the bytes of a descriptor, with what follows the salt
text : DescriptorFields → List ℕ → List ℕ
text v z = head v ++ (replicate 4 0 ++ (little_bytes 8 v.size ++ (with_zeros 64 v.root ++ (v.tree.salt ++ z))))

grouped : (a b c d e z : List ℕ) → ((((a ++ b) ++ c) ++ d) ++ e) ++ z ≡ a ++ (b ++ (c ++ (d ++ (e ++ z))))
grouped a b c d e z = simp append_assoc

text-is : (v : DescriptorFields) → (z : List ℕ) × (descriptor_bytes v ≡ text v z)
unfolding descriptor_bytes text head
text-is v =
    let all = head v ++ replicate 4 0 ++ little_bytes 8 v.size ++ with_zeros 64 v.root ++ v.tree.salt in
    let z = replicate (256 - length all) 0 in
    (z, grouped (head v) (replicate 4 0) (little_bytes 8 v.size) (with_zeros 64 v.root) v.tree.salt z)

-- what the bytes of a descriptor say
record Says (bytes : List ℕ) (v : DescriptorFields) : Type 0 where
  algorithm : get_or bytes 1 0 ≡ algorithm_number v.tree.algorithm
  block : get_or bytes 2 0 ≡ log2 v.tree.data_block
  salt_size : get_or bytes 3 0 ≡ length v.tree.salt
  size : little_number 8 (drop 8 bytes) ≡ v.size
  root : take (length v.root) (drop 16 bytes) ≡ v.root
  salt : take (length v.tree.salt) (drop 80 bytes) ≡ v.tree.salt

text-says : (v : DescriptorFields) (z : List ℕ) → v.size < 2 ^ 64 → length v.root ≤ 64 → Says (text v z) v
unfolding text head
text-says v z small short =
    let rest = v.tree.salt ++ z in
    let long : length (with_zeros 64 v.root) ≡ 64 =
    omega (
      arith,
      length-append v.root (replicate (64 - length v.root) 0),
      length-replicate {A = ℕ} (64 - length v.root) 0,
    ) in
    record {
      algorithm = refl;
      block = refl;
      salt_size = refl;
      size = little_number-reads_back 8 v.size (with_zeros 64 v.root ++ rest) (omega (arith, small));
      root = ap (take (length v.root)) (append_assoc v.root (replicate (64 - length v.root) 0) rest)
          ∙ take_at v.root (replicate (64 - length v.root) 0 ++ rest) (length v.root) refl;
      salt = ap (take (length v.tree.salt)) (drop_at (with_zeros 64 v.root) rest 64 long)
          ∙ take_at v.tree.salt z (length v.tree.salt) refl;
    }

descriptor-says : (v : DescriptorFields) → v.size < 2 ^ 64 → length v.root ≤ 64 → Says (descriptor_bytes v) v
descriptor-says v small short =
    let all = text-is v in
    subst (λ (bytes : List ℕ). Says bytes v) (sym all.1) (text-says v all.0 small short)

-- a power of two by its logarithm
power-log2 : (n : ℕ) → 0 < n → is_power_of_two n ≡ true → n ≡ 2 ^ log2 n
power-log2 n some power =
    let p = power_of_two-is n some power in
    let low : 2 ^ p.0 ≤ n = omega (arith, p.1) in
    let high : n < 2 * 2 ^ p.0 = omega (arith, p.1, some) in
    p.1 ∙ ap (λ (k : ℕ). 2 ^ k) (sym (log2-is n p.0 low high))

-- a hash function of fs-verity by its number
algorithm_by_number : (a b : Algorithm) → is_of_fsverity a ≡ true → is_of_fsverity b ≡ true
    → algorithm_number a ≡ algorithm_number b → a ≡ b
algorithm_by_number Sha256 Sha256 of_a of_b e = refl
algorithm_by_number Sha256 Sha512 of_a of_b e = absurd (omega (arith, e))
algorithm_by_number Sha512 Sha256 of_a of_b e = absurd (omega (arith, e))
algorithm_by_number Sha512 Sha512 of_a of_b e = refl
algorithm_by_number _ _ of_a of_b e = cc

-- and by the length of its digests
pub algorithm_by_length : (a b : Algorithm) → is_of_fsverity a ≡ true → is_of_fsverity b ≡ true
    → digest_len_of a ≡ digest_len_of b → a ≡ b
algorithm_by_length Sha256 Sha256 of_a of_b e = refl
algorithm_by_length Sha256 Sha512 of_a of_b e = absurd (omega (arith, e))
algorithm_by_length Sha512 Sha256 of_a of_b e = absurd (omega (arith, e))
algorithm_by_length Sha512 Sha512 of_a of_b e = refl
algorithm_by_length _ _ of_a of_b e = cc

-- fields by their parts
fields_from : TreeSettingsFields → ℕ → List ℕ → DescriptorFields
fields_from tree size root = record { tree = tree; size = size; root = root }

fields-same : (v w : DescriptorFields) → v.tree ≡ w.tree → v.size ≡ w.size → v.root ≡ w.root → v ≡ w
unfolding fields_from
fields-same v w tree size root =
    ap (λ (x : TreeSettingsFields). fields_from x v.size v.root) tree
    ∙ ap (λ (x : ℕ). fields_from w.tree x v.root) size
    ∙ ap (λ (x : List ℕ). fields_from w.tree w.size x) root

-- one descriptor
pub one-descriptor : (v w : DescriptorFields) → IsValidDescriptor v → IsValidDescriptor w
    → descriptor_bytes v ≡ descriptor_bytes w → v ≡ w
one-descriptor v w of_v of_w same =
    let long = of_v.described.1 in
    let wide = of_w.described.1 in
    let of_root : length v.root ≤ 64 = omega (arith, digest_len_of-most v.tree.algorithm, long) in
    let of_other : length w.root ≤ 64 = omega (arith, digest_len_of-most w.tree.algorithm, wide) in
    let said = descriptor-says v of_v.size of_root in
    let read = subst (λ (bytes : List ℕ). Says bytes w) (sym same) (descriptor-says w of_w.size of_other) in
    let one : v.tree.algorithm ≡ w.tree.algorithm =
    algorithm_by_number v.tree.algorithm w.tree.algorithm (of_v.tree.known of_v.described.0)
    (of_w.tree.known of_w.described.0) (sym said.algorithm ∙ read.algorithm) in
    let lengths : length v.root ≡ length w.root = long ∙ ap digest_len_of one ∙ sym wide in
    let salts : length v.tree.salt ≡ length w.tree.salt = sym said.salt_size ∙ read.salt_size in
    let block : v.tree.data_block ≡ w.tree.data_block =
    power-log2 v.tree.data_block (some_data v.tree of_v.tree)
    (block_power _ v.tree.data_block of_v.tree.data_block_size)
    ∙ ap (λ (k : ℕ). 2 ^ k) (sym said.block ∙ read.block)
    ∙ sym (power-log2 w.tree.data_block (some_data w.tree of_w.tree)
    (block_power _ w.tree.data_block of_w.tree.data_block_size)) in
    fields-same v w
    (tree-same v.tree w.tree one (of_v.described.0 ∙ sym of_w.described.0)
    (sym said.salt ∙ ap (λ (n : ℕ). take n (drop 80 (descriptor_bytes v))) salts ∙ read.salt) block
    (sym (of_v.tree.one_size of_v.described.0) ∙ block ∙ of_w.tree.one_size of_w.described.0))
    (sym said.size ∙ read.size)
    (sym said.root ∙ ap (λ (n : ℕ). take n (drop 16 (descriptor_bytes v))) lengths ∙ read.root)
