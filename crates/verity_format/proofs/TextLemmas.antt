-- The bytes of a superblock say it.
use Rattle.std.proofs.Common.{◌≡◌, ℕ, ◌+◌, ◌-◌, ◌*◌, ◌<◌, ◌≤◌, List, ◌++◌, length, take, drop, replicate, arith, refl, ap, sym, ◌∙◌, append_assoc}
use Rattle.std.proofs.{Common.length-append, Math.{Nat.le-mul_of_pos_right, Seq.drop-append-add}, lemmas.List.{drop_at, length-replicate, take_at}}
use Rattle.verity_format.specs.Superblocks.{superblock_bytes, number_at, until_zero, SuperblockFields, IsValidSuperblock, IsSuperblock, signature}
use Rattle.{byteorder.specs.{Endian.{little_bytes, little_number}, Numbers.little_number-reads_back}, verity_hash.specs.Hashing.{name_of, with_zeros}}
use Rattle.verity_hash.specs.declared.algorithm.Algorithm.{TheVariants.{Sha256, Sha512, Sha1, Sha224, Sha384}, Algorithm}
use Rattle.verity_plan.specs.{Settings.type_number, declared.hash_type.HashType.{HashType, TheVariants.{Original, Current}}}
use Rattle.verity_plan.proofs.{FanLemmas.{data_most, hash_most, some_data}, LimitLemmas.salt_most}

-- what follows the name
tail : SuperblockFields → List ℕ → List ℕ
tail v z = little_bytes 4 v.tree.data_block ++ (little_bytes 4 v.tree.hash_block ++ (little_bytes 8 v.blocks
    ++ (little_bytes 2 (length v.tree.salt) ++ (replicate 6 0 ++ (v.tree.salt ++ z)))))

-- all the fields, and the zeros after them
fields : SuperblockFields → List ℕ → List ℕ
fields v z = signature ++ (little_bytes 4 1 ++ (little_bytes 4 (type_number v.hash_type) ++ (v.uuid
    ++ (with_zeros 32 (name_of v.tree.algorithm) ++ tail v z))))

grouped : (a b c d e f g h i j k z : List ℕ)
    → ((((((((((a ++ b) ++ c) ++ d) ++ e) ++ f) ++ g) ++ h) ++ i) ++ j) ++ k) ++ z
    ≡ a ++ (b ++ (c ++ (d ++ (e ++ (f ++ (g ++ (h ++ (i ++ (j ++ (k ++ z))))))))))
grouped a b c d e f g h i j k z = simp append_assoc

text_is : (v : SuperblockFields) → (z : List ℕ) × (superblock_bytes v ≡ fields v z) × (512 ≤ length (superblock_bytes v))
unfolding superblock_bytes fields tail
text_is v =
    let all = signature ++ little_bytes 4 1 ++ little_bytes 4 (type_number v.hash_type) ++ v.uuid
    ++ with_zeros 32 (name_of v.tree.algorithm)
    ++ little_bytes 4 v.tree.data_block ++ little_bytes 4 v.tree.hash_block ++ little_bytes 8 v.blocks
    ++ little_bytes 2 (length v.tree.salt) ++ replicate 6 0 ++ v.tree.salt in
    let z = replicate (512 - length all) 0 in (
      z,
      grouped signature (little_bytes 4 1) (little_bytes 4 (type_number v.hash_type)) v.uuid
          (with_zeros 32 (name_of v.tree.algorithm))
          (little_bytes 4 v.tree.data_block) (little_bytes 4 v.tree.hash_block) (little_bytes 8 v.blocks)
          (little_bytes 2 (length v.tree.salt)) (replicate 6 0) v.tree.salt z,
      omega (arith, length-append all z, length-replicate {A = ℕ} (512 - length all) 0),
    )

-- what stands after a UUID and a name
past : (uuid name rest : List ℕ) (m : ℕ) → length uuid ≡ 16 → length name ≡ 32
    → drop (48 + m) (uuid ++ (name ++ rest)) ≡ drop m rest
past uuid name rest m sixteen long =
    let both : length (uuid ++ name) + m ≡ 48 + m = omega (arith, length-append uuid name) in
    ap (drop (48 + m)) (sym (append_assoc uuid name rest))
    ∙ ap (λ (n : ℕ). drop n ((uuid ++ name) ++ rest)) (sym both) ∙ drop-append-add (uuid ++ name) rest m

name_read : (algorithm : Algorithm) (rest : List ℕ)
    → until_zero (take 32 (with_zeros 32 (name_of algorithm) ++ rest)) ≡ name_of algorithm
name_read Sha256 rest = refl
name_read Sha512 rest = refl
name_read Sha1 rest = refl
name_read Sha224 rest = refl
name_read Sha384 rest = refl

name_long : (algorithm : Algorithm) → length (with_zeros 32 (name_of algorithm)) ≡ 32
name_long Sha256 = refl
name_long Sha512 = refl
name_long Sha1 = refl
name_long Sha224 = refl
name_long Sha384 = refl

type_small : (hash_type : HashType) → type_number hash_type < 256
type_small Original = omega arith
type_small Current = omega arith

fields_say : (v : SuperblockFields) (z : List ℕ) → IsValidSuperblock v → 512 ≤ length (fields v z)
    → IsSuperblock (fields v z) v
unfolding fields tail number_at
fields_say v z valid long =
    let name = with_zeros 32 (name_of v.tree.algorithm) in
    let ln = name_long v.tree.algorithm in
    let small = type_small v.hash_type in
    let blocks : v.blocks ≤ v.blocks * v.tree.data_block = le-mul_of_pos_right v.blocks (some_data v.tree valid.tree) in
    let most = valid.tree.salt_most in
    let after_blocks = little_bytes 2 (length v.tree.salt) ++ (replicate 6 0 ++ (v.tree.salt ++ z)) in
    let after_hash_block = little_bytes 8 v.blocks ++ after_blocks in
    let after_data_block = little_bytes 4 v.tree.hash_block ++ after_hash_block in
    let size : number_at 80 2 (fields v z) ≡ length v.tree.salt =
    ap (little_number 2) (past v.uuid name (tail v z) 16 valid.uuid ln)
    ∙ little_number-reads_back 2 (length v.tree.salt) (replicate 6 0 ++ (v.tree.salt ++ z))
    (omega (arith, salt_most v.tree.rule, most)) in
    record {
      long = long;
      signed = refl;
      version = refl;
      hash_type =
          little_number-reads_back 4 (type_number v.hash_type) (v.uuid ++ (name ++ tail v z)) (omega (arith, small));
      uuid = take_at v.uuid (name ++ tail v z) 16 valid.uuid;
      algorithm = ap (λ (t : List ℕ). until_zero (take 32 t)) (drop_at v.uuid (name ++ tail v z) 16 valid.uuid)
          ∙ name_read v.tree.algorithm (tail v z);
      data_block = ap (little_number 4) (past v.uuid name (tail v z) 0 valid.uuid ln)
          ∙ little_number-reads_back 4 v.tree.data_block after_data_block
          (omega (arith, data_most v.tree valid.tree));
      hash_block = ap (little_number 4) (past v.uuid name (tail v z) 4 valid.uuid ln)
          ∙ little_number-reads_back 4 v.tree.hash_block after_hash_block
          (omega (arith, hash_most v.tree valid.tree));
      salt_size = size;
      salt = ap (take (length v.tree.salt)) (past v.uuid name (tail v z) 24 valid.uuid ln)
          ∙ take_at v.tree.salt z (length v.tree.salt) refl;
      blocks = ap (little_number 8) (past v.uuid name (tail v z) 8 valid.uuid ln)
          ∙ little_number-reads_back 8 v.blocks after_blocks (omega (arith, blocks, valid.within));
      valid = valid;
    }

pub text_says : (v : SuperblockFields) → IsValidSuperblock v → IsSuperblock (superblock_bytes v) v
text_says v valid =
    let all = text_is v in
    rw (all.1) (fields_say v all.0 valid (rw (all.1) at all.2))

-- the length of many bytes joined
joined : (a b c d e f g h i j k : List ℕ) → length (a ++ b ++ c ++ d ++ e ++ f ++ g ++ h ++ i ++ j ++ k)
    ≡ length a + length b + length c + length d + length e + length f + length g + length h + length i + length j
    + length k
joined a b c d e f g h i j k = simp length-append

-- a superblock's bytes are 512
pub length-superblock_bytes : (v : SuperblockFields) → IsValidSuperblock v → length (superblock_bytes v) ≡ 512
unfolding superblock_bytes
length-superblock_bytes v valid =
    let name = with_zeros 32 (name_of v.tree.algorithm) in
    let all = signature ++ little_bytes 4 1 ++ little_bytes 4 (type_number v.hash_type) ++ v.uuid ++ name
    ++ little_bytes 4 v.tree.data_block ++ little_bytes 4 v.tree.hash_block ++ little_bytes 8 v.blocks
    ++ little_bytes 2 (length v.tree.salt) ++ replicate 6 0 ++ v.tree.salt in
    let size : length all ≡ 8 + 4 + 4 + length v.uuid + length name + 4 + 4 + 8 + 2 + 6 + length v.tree.salt =
    joined signature (little_bytes 4 1) (little_bytes 4 (type_number v.hash_type)) v.uuid name
    (little_bytes 4 v.tree.data_block) (little_bytes 4 v.tree.hash_block) (little_bytes 8 v.blocks)
    (little_bytes 2 (length v.tree.salt)) (replicate 6 0) v.tree.salt in
    let short : length all ≤ 512 =
    omega (
      arith,
      size,
      name_long v.tree.algorithm,
      valid.uuid,
      salt_most v.tree.rule,
      valid.tree.salt_most,
    ) in
    let ends : length (all ++ replicate (512 - length all) 0) ≡ 512 =
    omega (
      arith,
      short,
      length-append all (replicate (512 - length all) 0),
      length-replicate {A = ℕ} (512 - length all) 0,
    ) in
    ends
