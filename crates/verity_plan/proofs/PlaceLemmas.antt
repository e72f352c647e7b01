-- The places of the hash blocks.
use Rattle.std.{proofs.Common.{◌≡◌, ℕ, zero, suc, ◌+◌, ◌-◌, ◌*◌, ◌^◌, ◌<◌, ◌≤◌, arith, sym, ◌∙◌, ap, inl, inr}, specs.List.range_with_len}
use Rattle.std.proofs.{Math.Nat.{mul-le-mul_left, one-le-pow}, lemmas.{List.Sums.sum_by-cons, Bool.{cases_lt, cases_order}}}
use Rattle.verity_plan.specs.{Plans.{level_count, level_size, blocks_from, IsTreeBlock, place}, PlanLaws.PlacesAreOnce}
use Rattle.verity_plan.proofs.CountLemmas.{div_ceil-fewer, div_ceil-le}

-- the blocks of one level more
pub blocks_from-suc : (fan n l k : ℕ) → blocks_from fan n l (suc k) ≡ level_size fan n l + blocks_from fan n (l + 1) k
blocks_from-suc fan n l k = sum_by-cons (level_size fan n) l (range_with_len (l + 1) k)

-- fewer levels have no more blocks
pub blocks_from-le : (fan n l k m : ℕ) → m ≤ k → blocks_from fan n (l + m) (k - m) ≤ blocks_from fan n l k
blocks_from-le fan n l k zero h =
    let e : l + 0 ≡ l = omega arith in
    let f : k - 0 ≡ k = omega arith in
    let same : blocks_from fan n (l + 0) (k - 0) ≡ blocks_from fan n l k =
    ap (λ (a : ℕ). blocks_from fan n a (k - 0)) e ∙ ap (λ (a : ℕ). blocks_from fan n l a) f in
    omega (arith, same)
blocks_from-le fan n l zero (suc m) h = absurd (omega arith)
blocks_from-le fan n l (suc k) (suc m) h =
    let before : blocks_from fan n (l + 1 + m) (k - m) ≤ blocks_from fan n (l + 1) k =
    blocks_from-le fan n (l + 1) k m (omega arith) in
    let e : l + 1 + m ≡ l + suc m = omega arith in
    let f : k - m ≡ suc k - suc m = omega arith in
    let same : blocks_from fan n (l + 1 + m) (k - m) ≡ blocks_from fan n (l + suc m) (suc k - suc m) =
    ap (λ (a : ℕ). blocks_from fan n a (k - m)) e ∙ ap (λ (a : ℕ). blocks_from fan n (l + suc m) a) f in
    omega (arith, before, same, blocks_from-suc fan n l k)

-- the blocks from level l upward are level l's and those above it
pub blocks_from-level : (fan n l levels : ℕ) → l < levels
    → blocks_from fan n l (levels - l) ≡ level_size fan n l + blocks_from fan n (l + 1) (levels - (l + 1))
blocks_from-level fan n l levels h =
    let e : levels - l ≡ suc (levels - (l + 1)) = omega arith in
    ap (λ (k : ℕ). blocks_from fan n l k) e ∙ blocks_from-suc fan n l (levels - (l + 1))

-- the blocks from a higher level upward are no more
pub blocks_from-higher : (fan n l m levels : ℕ) → l ≤ m → m ≤ levels
    → blocks_from fan n m (levels - m) ≤ blocks_from fan n l (levels - l)
blocks_from-higher fan n l m levels h k =
    let most = blocks_from-le fan n l (levels - l) (m - l) (omega arith) in
    let e : l + (m - l) ≡ m = omega arith in
    let f : levels - l - (m - l) ≡ levels - m = omega arith in
    let same : blocks_from fan n (l + (m - l)) (levels - l - (m - l)) ≡ blocks_from fan n m (levels - m) =
    ap (λ (a : ℕ). blocks_from fan n a (levels - l - (m - l))) e ∙ ap (λ (a : ℕ). blocks_from fan n m a) f in
    omega (arith, most, same)

-- above fewer data blocks so many levels have no more blocks
pub blocks_from-fewer : (fan few many l k : ℕ) → 0 < fan → few ≤ many
    → blocks_from fan few l k ≤ blocks_from fan many l k
blocks_from-fewer fan few many l zero some le = omega arith
blocks_from-fewer fan few many l (suc k) some le =
    omega (
      arith,
      blocks_from-suc fan few l k,
      blocks_from-suc fan many l k,
      blocks_from-fewer fan few many (l + 1) k some le,
      div_ceil-fewer few many (fan ^ (l + 1)) (one-le-pow (l + 1) fan some) le,
    )

-- and more levels have no fewer
pub blocks_from-more : (fan n l k more : ℕ) → k ≤ more → blocks_from fan n l k ≤ blocks_from fan n l more
blocks_from-more fan n l zero more le = omega arith
blocks_from-more fan n l (suc k) zero le = absurd (omega (arith, le))
blocks_from-more fan n l (suc k) (suc more) le =
    omega (
      arith,
      blocks_from-suc fan n l k,
      blocks_from-suc fan n l more,
      blocks_from-more fan n (l + 1) k more (omega arith),
    )

-- no level has more blocks than there are data blocks
pub blocks_from-most : (fan n l k : ℕ) → 0 < fan → blocks_from fan n l k ≤ k * n
blocks_from-most fan n l zero some = omega arith
blocks_from-most fan n l (suc k) some =
    let wide : 1 ≤ fan ^ (l + 1) = one-le-pow (l + 1) fan some in
    let level : level_size fan n l ≤ n =
    div_ceil-le n (fan ^ (l + 1)) n (omega (arith, wide)) (omega (arith, mul-le-mul_left n wide)) in
    omega (arith, blocks_from-suc fan n l k, level, blocks_from-most fan n (l + 1) k some)

-- a block of a higher level stands before each of a lower one
pub place-lt : (fan n base l j m k : ℕ) → IsTreeBlock fan n l j → IsTreeBlock fan n m k → l < m
    → place fan n base m k < place fan n base l j
place-lt fan n base l j m k low high less =
    omega (
      arith,
      low.level_below,
      high.level_below,
      high.index_below,
      blocks_from-level fan n m (level_count fan n) high.level_below,
      blocks_from-higher fan n (l + 1) m (level_count fan n) (omega arith) (omega (arith, high.level_below)),
    )

-- the level and the block at a place
pub block_at_place : (fan n l k p : ℕ) → p < blocks_from fan n l k
    → (m : ℕ) × (j : ℕ) × (l ≤ m) × (m < l + k) × (j < level_size fan n m)
    × (blocks_from fan n (m + 1) (l + k - (m + 1)) + j ≡ p)
block_at_place fan n l zero p h = absurd (omega (arith, h))
block_at_place fan n l (suc k) p h =
    elim (cases_lt p (blocks_from fan n (l + 1) k)) [
      | inl above ↦
          let r = block_at_place fan n (l + 1) k p above in
          let e : l + 1 + k - (r.0 + 1) ≡ l + suc k - (r.0 + 1) = omega arith in (
            r.0,
            r.1,
            omega (arith, r.2),
            omega (arith, r.3),
            r.4,
            ap (λ (a : ℕ). blocks_from fan n (r.0 + 1) a + r.1) (sym e) ∙ r.5,
          )
      | inr here ↦
          let e : l + suc k - (l + 1) ≡ k = omega arith in (
            l,
            p - blocks_from fan n (l + 1) k,
            omega arith,
            omega arith,
            omega (arith, blocks_from-suc fan n l k, h),
            ap (λ (a : ℕ). blocks_from fan n (l + 1) a + (p - blocks_from fan n (l + 1) k)) e ∙ omega arith,
          )
    ]

pub PlacesAreOnce-all : (fan n base : ℕ) → PlacesAreOnce fan n base
PlacesAreOnce-all fan n base = record {
  within = λ l j b. (
    omega arith,
    let whole : blocks_from fan n 0 (level_count fan n - 0) ≡ blocks_from fan n 0 (level_count fan n) =
        ap (λ (k : ℕ). blocks_from fan n 0 k) (let e : level_count fan n - 0 ≡ level_count fan n = omega arith in e) in
        omega (
          arith,
          b.index_below,
          blocks_from-level fan n l (level_count fan n) b.level_below,
          blocks_from-higher fan n 0 l (level_count fan n) (omega arith) (omega (arith, b.level_below)),
          whole,
        ),
  );
  once = λ l j m k b c same. elim (cases_order l m) [
    | inl e ↦ (
      e,
      omega (
        arith,
        same,
        ap (λ (a : ℕ). blocks_from fan n (a + 1) (level_count fan n - (a + 1))) e,
      ),
    )
    | inr (inl less) ↦ absurd (omega (arith, place-lt fan n base l j m k b c less, same))
    | inr (inr more) ↦ absurd (omega (arith, place-lt fan n base m k l j c b more, same))
  ];
  each = λ p low high.
      let r = block_at_place fan n 0 (level_count fan n) (p - base) (omega arith) in
      let e : 0 + level_count fan n - (r.0 + 1) ≡ level_count fan n - (r.0 + 1) = omega arith in (
        r.0,
        r.1,
        record { level_below = omega (arith, r.3); index_below = r.4 },
        omega (arith, low, r.5, ap (λ (k : ℕ). blocks_from fan n (r.0 + 1) k) e),
      );
}
