-- A file digest says its file, or a collision is at hand.
use Rattle.std.proofs.Common.{◌≡◌, ℕ, ◌^◌, ◌<◌, ◌⊎◌, Bool, true, false, List, length, arith, sym, subst, ◌∙◌, ap, refl, inl, inr}
use Rattle.std.{proofs.lemmas.{Bool.cases_lt, List.take_all, Slice.Eq.bytes_eq-Decides}, specs.Str.bytes_eq}
use Rattle.verity_hash.specs.{Hashing.hash_of, declared.{algorithm.Algorithm.Algorithm, salting.SaltRule.TheVariants.PaddedBefore}}
use Rattle.verity_plan.{proofs.FanLemmas.{fan-two, some_data}, specs.{Plans.{block_count, plan_of_file}, Settings.{IsValid, TreeSettingsFields}}}
use Rattle.{verity_format.specs.Descriptors.{DescriptorFields, descriptor_bytes, digest_of_file}, verity_hash.proofs.HashLemmas.length-hash_of}
use Rattle.{verity_format.proofs.DescriptorLemmas.{algorithm_by_length, one-descriptor}, verity_plan.proofs.CountLemmas.le-div_ceil}
use Rattle.verity_pass.{specs.Collisions.TreesCollide, proofs.{BoundData.bytes-bound, PathSteps.bytes_eq-false}}
use Rattle.{verity_pass.proofs.RootLevels.{length-root_of_file, root_of_some}, verity_blocks.specs.Levels.{cut, data_blocks, root, root_of_file}}
use Rattle.fsverity.specs.Runs.FileCollisions.{FilesCollide, blocks_of_file, descriptor_of_file}

-- a file without bytes is empty
same-empty : (x y : List ℕ) → length x ≡ 0 → length y ≡ 0 → x ≡ y
same-empty x y none nothing =
    sym (take_all 0 x (omega (arith, none))) ∙ take_all 0 y (omega (arith, nothing))

-- files of one size and one root hash are one, or their trees show a collision
files-bound : (s : TreeSettingsFields) (x y : List ℕ) → IsValid s → length x ≡ length y
    → root_of_file s (length x) x ≡ root_of_file s (length y) y
    → (x ≡ y) ⊎ TreesCollide s (blocks_of_file s x) (blocks_of_file s y)
files-bound s x y valid same one =
    elim (cases_lt 0 (length x)) [
      | inr none ↦ inl (same-empty x y (omega (arith, none)) (omega (arith, none, same)))
      | inl some ↦
          let more : 0 < length y = omega (arith, some, same) in
          let size = length x in
          let blocks = block_count s size in
          let wide = some_data s valid in
          let of_y : data_blocks (plan_of_file s (length y)) y ≡ cut s blocks size y =
          ap (λ (n : ℕ). cut s (block_count s n) n y) (sym same) in
          let roots : root s (cut s blocks size x) ≡ root s (cut s blocks size y) =
          root_of_some s size x some ∙ one ∙ sym (root_of_some s (length y) y more) ∙ ap (root s) of_y in
          elim (bytes-bound s blocks size x y (fan-two s valid) wide
          (le-div_ceil size s.data_block blocks wide (omega arith)) (omega arith) (omega (arith, same)) roots) [
            | inl equal ↦
                inl (sym (take_all size x (omega arith)) ∙ equal ∙ take_all size y (omega (arith, same)))
            | inr collide ↦
                inr (subst (λ (blocks : List (List ℕ)). TreesCollide s (blocks_of_file s x) blocks) (sym of_y) collide)
          ]
    ]

-- one file digest: one file with one settings, or a collision
pub files-bound-by : (s t : TreeSettingsFields) (x y : List ℕ) → IsValid s → IsValid t → s.rule ≡ PaddedBefore
    → t.rule ≡ PaddedBefore → length x < 2 ^ 64 → length y < 2 ^ 64
    → digest_of_file (descriptor_of_file s x) ≡ digest_of_file (descriptor_of_file t y)
    → ((s ≡ t) × (x ≡ y)) ⊎ FilesCollide s t x y
files-bound-by s t x y valid other of_s of_t small less digests =
    by_test (bytes_eq (descriptor_bytes (descriptor_of_file s x)) (descriptor_bytes (descriptor_of_file t y))) refl
  where
    by_test : (b : Bool)
        → bytes_eq (descriptor_bytes (descriptor_of_file s x)) (descriptor_bytes (descriptor_of_file t y)) ≡ b
        → ((s ≡ t) × (x ≡ y)) ⊎ FilesCollide s t x y
    by_test false apart =
        let bytes = descriptor_bytes (descriptor_of_file s x) in
        let others = descriptor_bytes (descriptor_of_file t y) in
        let one : s.algorithm ≡ t.algorithm =
        algorithm_by_length s.algorithm t.algorithm (valid.known of_s) (other.known of_t)
        (sym (length-hash_of s.algorithm bytes) ∙ ap length digests ∙ length-hash_of t.algorithm others) in
        inr (inl (record {
          differ = bytes_eq-false _ _ apart;
          one_hash = digests ∙ ap (λ (a : Algorithm). hash_of a others) (sym one);
        }))
    by_test true same =
        let v = descriptor_of_file s x in
        let w = descriptor_of_file t y in
        let equal : descriptor_bytes v ≡ descriptor_bytes w = (bytes_eq-Decides _ _).0 same in
        let both : v ≡ w = one-descriptor v w
        (record { tree = valid; described = (of_s, length-root_of_file s (length x) x); size = small })
        (record { tree = other; described = (of_t, length-root_of_file t (length y) y); size = less }) equal in
        let trees : s ≡ t = ap (λ (u : DescriptorFields). u.tree) both in
        let sizes : length x ≡ length y = ap (λ (u : DescriptorFields). u.size) both in
        let roots : root_of_file s (length x) x ≡ root_of_file s (length y) y =
        ap (λ (u : DescriptorFields). u.root) both
        ∙ ap (λ (u : TreeSettingsFields). root_of_file u (length y) y) (sym trees) in
        elim (files-bound s x y valid sizes roots) [
          | inl file ↦ inl (trees, file)
          | inr collide ↦ inr (inr collide)
        ]
