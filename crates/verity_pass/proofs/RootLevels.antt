-- The root hash: it is the same from one level up; that of a file; and how long it is.
use Rattle.std.proofs.Common.{◌≡◌, ℕ, zero, suc, ◌-◌, inl, inr, ◌^◌, ◌<◌, ◌≤◌, List, [], length, map, get_or, arith, ◌∙◌, ap, Bool, false, refl}
use Rattle.std.{proofs.{Common.{replicate, true}, lemmas.{Bool.cases_lt, List.{length-map, get_or-map, length-replicate}}}, specs.Int.div_ceil}
use Rattle.std.{proofs.Math.Nat.{pow-zero, pow-suc, one-le-pow}, specs.Prelude.{if◌then◌else◌, ◌==◌}}
use Rattle.verity_plan.specs.{Plans.{level_count, plan_of_file}, Settings.{TreeSettingsFields, hash, fan, digest_len}}
use Rattle.verity_plan.proofs.CountLemmas.{IsLevelCount-level_count, IsLevelCount-same, div_ceil-pos, le-div_ceil, mul-lt_div_ceil}
use Rattle.verity_blocks.specs.{Levels.{pack, blocks_up, root, data_blocks, root_of_file}, Steps.PlainRoots.{digests_up, root_of_digests}}
use Rattle.verity_blocks.proofs.{OpenBlocks.OpenBlock.length-hash, Levels.LevelCounts.{length-pack, length-blocks_up, height-level_count}}

-- one level more than above one level up
pub level_count-suc : (fan n : ℕ) → 2 ≤ fan → 1 < n → level_count fan n ≡ suc (level_count fan (div_ceil n fan))
level_count-suc fan n two more =
    let levels = level_count fan (div_ceil n fan) in
    let up = IsLevelCount-level_count fan (div_ceil n fan) two in
    IsLevelCount-same fan n _ _ (IsLevelCount-level_count fan n two) (record {
      enough = omega (arith, pow-suc fan levels, le-div_ceil n fan (fan ^ levels) (omega arith) up.enough);
      least = λ m below. elim (cases_lt 0 m) [
        | inl some ↦
            let next : m ≡ suc (m - 1) = omega arith in
            let low = mul-lt_div_ceil n fan (fan ^ (m - 1)) (omega arith) (up.least (m - 1) (omega arith)) in
            grind (arith, next, pow-suc fan (m - 1), low)
        | inr none ↦ let least : m ≡ 0 = omega arith in grind (arith, least, pow-zero fan)
      ];
    })

pub level_count-one : (fan : ℕ) → 2 ≤ fan → level_count fan 1 ≡ 0
level_count-one fan two =
    IsLevelCount-same fan 1 _ 0 (IsLevelCount-level_count fan 1 two)
    (record { enough = omega (arith, pow-zero fan); least = λ m h. absurd (omega arith) })

-- the levels of digests above one level up
pub digests_up-up : (s : TreeSettingsFields) (digests : List (List ℕ)) (l : ℕ)
    → digests_up s digests (suc l) ≡ digests_up s (map (hash s) (pack s digests)) l
unfolding digests_up
digests_up-up s digests zero = refl
digests_up-up s digests (suc l) =
    ap (λ (ds : List (List ℕ)). map (hash s) (pack s ds)) (digests_up-up s digests l)

-- how many digests are one level up
pub length-above : (s : TreeSettingsFields) (digests above : List (List ℕ)) → above ≡ map (hash s) (pack s digests)
    → length above ≡ div_ceil (length digests) (fan s)
length-above s digests above e = ap length e ∙ length-map (pack s digests) (hash s) ∙ length-pack s digests

-- one level up leaves the same root
pub root_of_digests-up : (s : TreeSettingsFields) (digests : List (List ℕ)) → 2 ≤ fan s → 1 < length digests
    → root_of_digests s (map (hash s) (pack s digests)) ≡ root_of_digests s digests
unfolding root_of_digests
root_of_digests-up s digests two more =
    rw (
      length-above s digests _ refl,
      level_count-suc (fan s) (length digests) two more,
      digests_up-up s digests (level_count (fan s) (div_ceil (length digests) (fan s))),
    ) refl

-- a single digest is the root
pub root_of_digests-one : (s : TreeSettingsFields) (digests : List (List ℕ)) → 2 ≤ fan s → length digests ≡ 1
    → root_of_digests s digests ≡ get_or digests 0 []
unfolding root_of_digests digests_up
root_of_digests-one s digests two one =
    rw (one, level_count-one (fan s) two) refl

-- the digests of the blocks of a level
pub map-hash-blocks_up : (s : TreeSettingsFields) (blocks : List (List ℕ)) (l : ℕ)
    → map (hash s) (blocks_up s blocks l) ≡ digests_up s (map (hash s) blocks) l
unfolding blocks_up digests_up
map-hash-blocks_up s blocks zero = refl
map-hash-blocks_up s blocks (suc l) = ap (λ (ds : List (List ℕ)). map (hash s) (pack s ds))
    (map-hash-blocks_up s blocks l)

-- the root above some blocks is the root above their digests
pub root-digests : (s : TreeSettingsFields) (blocks : List (List ℕ)) → 2 ≤ fan s → 0 < length blocks
    → root s blocks ≡ root_of_digests s (map (hash s) blocks)
unfolding root root_of_digests
root-digests s blocks two some =
    let l = level_count (fan s) (length blocks) in
    let low : 0 < fan s = omega arith in
    let left : 0 < length (blocks_up s blocks l) =
    grind (arith, div_ceil-pos, one-le-pow l (fan s) low, length-blocks_up s blocks l low) in
    grind (
      arith,
      height-level_count s blocks low,
      get_or-map (hash s) (blocks_up s blocks l) 0 [] [] left,
      map-hash-blocks_up s blocks l,
      length-map blocks (hash s),
    )

-- a file that isn't empty has the root hash of its tree
pub root_of_some : (s : TreeSettingsFields) (size : ℕ) (bytes : List ℕ) → 0 < size
    → root s (data_blocks (plan_of_file s size) bytes) ≡ root_of_file s size bytes
root_of_some s size bytes some = grind arith

-- a root hash is as long as a digest, and so is that of an empty file
pub length-root : (s : TreeSettingsFields) (blocks : List (List ℕ)) → length (root s blocks) ≡ digest_len s
unfolding root
length-root s blocks = length-hash s _

pub length-root_of_file : (s : TreeSettingsFields) (size : ℕ) (bytes : List ℕ)
    → length (root_of_file s size bytes) ≡ digest_len s
length-root_of_file s size bytes = by_size (size == 0) _ (length-root s _)
  where
    by_size : (empty : Bool) (above : List ℕ) → length above ≡ digest_len s
        → length (if empty then replicate (digest_len s) 0 else above) ≡ digest_len s
    by_size true above long = length-replicate (digest_len s) 0
    by_size false above long = long
