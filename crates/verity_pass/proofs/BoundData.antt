-- Trees with one root hash stand above the same data, or show a collision.
use Rattle.std.proofs.Common.{◌≡◌, ◌≢◌, ℕ, zero, suc, ◌+◌, ◌*◌, ◌/◌, ◌%◌, ◌<◌, ◌≤◌, ◌⊎◌, List, [], get_or, take, drop, length, arith, sym, ◌∙◌, ap}
use Rattle.std.{proofs.{Common.{refl, inl, inr, length-append, below_more}, lemmas.Grind.common_steps}, specs.Int.{div_ceil, next_multiple_of}}
use Rattle.std.proofs.lemmas.List.{append_cancel_left, append_cancel_right, drop_at, ext_get_or, length-take-le, take_at}
use Rattle.std.proofs.lemmas.{List.FromFn.get_or-map-range_with_len, Nat.{div-add-mod', div_below, mod_below}}
use Rattle.verity_hash.specs.{Hashing.{input_block_of, salted_input, with_zeros}, declared.{algorithm.Algorithm.Algorithm, salting.SaltRule.SaltRule}}
use Rattle.verity_hash.specs.declared.salting.SaltRule.TheVariants.{Before, After, PaddedBefore}
use Rattle.verity_plan.specs.{Plans.{IsPlan, PlanFields, level_count}, PlanCounts.level_count_of, Settings.{TreeSettingsFields, fan, hash}}
use Rattle.verity_plan.proofs.{CountLemmas.le-div_ceil, FanLemmas.{fan-two, some_data}, PlanLemmas.blocks-some}
use Rattle.verity_pass.specs.{Collisions.{Collide, TreesCollide, hashed_last, with_salt}, Links.block_size_up, Paths.true_chain}
use Rattle.verity_pass.proofs.Paths.TrueChain.{length-data, length-true_block, true_chain-root, true_chain-top, true_chain-up}
use Rattle.verity_pass.proofs.{Paths.AcceptedLinks.length-at_level, PathSteps.{chains-meet, same_or_two}}
use Rattle.verity_blocks.{specs.Levels.{block_at, cut, data_blocks, root}, proofs.Levels.CutBlocks.length-cut}

-- what is hashed for a block says the block
salted_input-block : (algorithm : Algorithm) (rule : SaltRule) (salt x y : List ℕ)
    → salted_input algorithm rule salt x ≡ salted_input algorithm rule salt y → x ≡ y
salted_input-block algorithm Before salt x y e = append_cancel_left salt x y e
salted_input-block algorithm After salt x y e = append_cancel_right x y salt e
salted_input-block algorithm PaddedBefore salt x y e =
    append_cancel_left (with_zeros (next_multiple_of (length salt) (input_block_of algorithm)) salt) x y e

-- different blocks at one place of the trees with one hash
pub collide-at : (s : TreeSettingsFields) (xs ys : List (List ℕ)) (i levels : ℕ) → i < length xs
    → levels ≤ level_count (fan s) (length xs) → true_chain s xs i levels ≢ true_chain s ys i levels
    → hash s (true_chain s xs i levels) ≡ hash s (true_chain s ys i levels) → TreesCollide s xs ys
unfolding hash
collide-at s xs ys i levels below most differ one = record {
  index = i;
  levels = levels;
  index_below = below;
  levels_most = most;
  collide = record { differ = λ e. differ (salted_input-block s.algorithm s.rule s.salt _ _ e); one_hash = one };
}

-- one data block
block-bound : (s : TreeSettingsFields) (xs ys : List (List ℕ)) (i : ℕ) → 2 ≤ fan s → length xs ≡ length ys
    → i < length xs
    → root s xs ≡ root s ys → (get_or xs i [] ≡ get_or ys i []) ⊎ TreesCollide s xs ys
block-bound s xs ys i two same below one =
    let levels = level_count (fan s) (length xs) in
    let beside : i < length ys = omega (arith, below, same) in
    elim (chains-meet (hash s) (true_chain s xs i) (true_chain s ys i) levels levels (omega arith)
    (λ l _ above.
    grind (arith, above, true_chain-up s xs i l below, true_chain-up s ys i l beside))
    (grind (arith, one, same, true_chain-root s xs i two below, true_chain-root s ys i two beside))) [
      | inl here ↦ inl here
      | inr met ↦ inr (collide-at s xs ys i met.0 below met.1 met.2 met.3)
    ]

-- each number below some one has a property, or something else is so
all-or : (P : ℕ → Type 0) (other : Type 0) (n : ℕ) → ((i : ℕ) → i < n → P i ⊎ other) → ((i : ℕ) → i < n → P i) ⊎ other
all-or P other zero each = inl (λ i low. absurd (omega (arith, low)))
all-or P other (suc n) each = elim (all-or P other n (λ i low. each i (omega (arith, low)))) [
  | inl before ↦ elim (each n (omega arith)) [
    | inl here ↦ inl (λ i low. below_more P n before here i (omega (arith, low)))
    | inr so ↦ inr so
  ]
  | inr so ↦ inr so
]

-- all data blocks
pub blocks-bound : (s : TreeSettingsFields) (xs ys : List (List ℕ)) → 2 ≤ fan s → length xs ≡ length ys
    → root s xs ≡ root s ys → (xs ≡ ys) ⊎ TreesCollide s xs ys
blocks-bound s xs ys two same one =
    elim (all-or (λ i. get_or xs i [] ≡ get_or ys i []) (TreesCollide s xs ys) (length xs)
    (λ i below. block-bound s xs ys i two same below one)) [
      | inl each ↦ inl (ext_get_or [] xs ys same each)
      | inr collide ↦ inr collide
    ]

-- a byte is found in its data block
byte-cut : (s : TreeSettingsFields) (n wanted : ℕ) (bytes : List ℕ) (k : ℕ) → 0 < s.data_block
    → wanted ≤ n * s.data_block
    → wanted ≤ length bytes → k < wanted
    → get_or (get_or (cut s n wanted bytes) (k / s.data_block) []) (k % s.data_block) 0 ≡ get_or (take wanted bytes) k 0
unfolding cut
byte-cut s n wanted bytes k some room enough below =
    let d = s.data_block in
    let all = take wanted bytes in
    let i = k / d in
    let split : i * d + k % d ≡ k = div-add-mod' k d in
    let low : k % d < d = mod_below k d some in
    let few : i < n = div_below k d n some (omega (arith, below, room)) in
    let long : length all ≡ wanted = length-take-le wanted bytes enough in
    let block = get_or-map-range_with_len (block_at d all) 0 n i i [] few (omega arith) in
    ap (λ (xs : List ℕ). get_or xs (k % d) 0) block ∙ grind (arith, common_steps, split, low, below, long)

-- all covered bytes
pub bytes-bound : (s : TreeSettingsFields) (n wanted : ℕ) (x y : List ℕ) → 2 ≤ fan s → 0 < s.data_block
    → wanted ≤ n * s.data_block → wanted ≤ length x → wanted ≤ length y
    → root s (cut s n wanted x) ≡ root s (cut s n wanted y)
    → (take wanted x ≡ take wanted y) ⊎ TreesCollide s (cut s n wanted x) (cut s n wanted y)
bytes-bound s n wanted x y two some room of_x of_y one =
    let long_x : length (take wanted x) ≡ wanted = length-take-le wanted x of_x in
    let long_y : length (take wanted y) ≡ wanted = length-take-le wanted y of_y in
    elim (blocks-bound s (cut s n wanted x) (cut s n wanted y) two
    (length-cut s n wanted x ∙ sym (length-cut s n wanted y)) one) [
      | inl same ↦ inl (ext_get_or 0 (take wanted x) (take wanted y) (long_x ∙ sym long_y) (λ k low.
          let below : k < wanted = omega (arith, low, long_x) in
          grind (arith, same, byte-cut s n wanted x k some room of_x below, byte-cut s n wanted y k some room of_y below)))
      | inr collide ↦ inr collide
    ]

-- of a plan
pub data-bound : (p : PlanFields) (x y : List ℕ) → IsPlan p → p.wanted ≤ length x → p.wanted ≤ length y
    → root p.settings (data_blocks p x) ≡ root p.settings (data_blocks p y)
    → (take p.wanted x ≡ take p.wanted y) ⊎ TreesCollide p.settings (data_blocks p x) (data_blocks p y)
data-bound p x y planned of_x of_y one =
    let s = p.settings in
    let some = some_data s planned.valid in
    let most : div_ceil p.wanted s.data_block ≤ p.blocks = omega (arith, planned.blocks_are) in
    bytes-bound s p.blocks p.wanted x y (fan-two s planned.valid) some
    (le-div_ceil p.wanted s.data_block p.blocks some most) of_x of_y one

-- ---- the salt

-- bytes of one length that are joined to two salts
salted_input-salt : (algorithm : Algorithm) (rule : SaltRule) (salt other x y : List ℕ) → rule ≢ PaddedBefore
    → length x ≡ length y → salted_input algorithm rule salt x ≡ salted_input algorithm rule other y → salt ≡ other
salted_input-salt algorithm Before salt other x y dm long e =
    let size : length salt ≡ length other =
    omega (arith, ap length e, length-append salt x, length-append other y, long) in
    sym (take_at salt x (length salt) refl) ∙ ap (take (length salt)) e ∙ take_at other y (length salt) (sym size)
salted_input-salt algorithm After salt other x y dm long e =
    sym (drop_at x salt (length x) refl) ∙ ap (drop (length x)) e ∙ drop_at y other (length x) (sym long)
salted_input-salt algorithm PaddedBefore salt other x y dm long e = absurd (dm refl)

-- the length of the top block
length-last : (p : PlanFields) (bytes : List ℕ) → IsPlan p
    → length (true_chain p.settings (data_blocks p bytes) 0 (level_count_of p)) ≡ block_size_up p.settings (level_count_of p)
length-last p bytes planned =
    length-at_level p (true_chain p.settings (data_blocks p bytes) 0) (level_count_of p) (omega arith)
    (length-data p.settings p.blocks p.wanted bytes 0 (blocks-some p planned))
    (λ m _. length-true_block p bytes 0 m planned (blocks-some p planned))

-- plans that differ in the salt alone
pub salt-bound : (p : PlanFields) (salt x y : List ℕ) → IsPlan p → IsPlan (with_salt p salt)
    → p.settings.rule ≢ PaddedBefore
    → root p.settings (data_blocks p x) ≡ root (with_salt p salt).settings (data_blocks (with_salt p salt) y)
    → (p.settings.salt ≡ salt) ⊎ Collide p.settings.algorithm (hashed_last p x) (hashed_last (with_salt p salt) y)
unfolding hash fan
salt-bound p salt x y planned other dm one =
    let q = with_salt p salt in
    elim (same_or_two (hashed_last p x) (hashed_last q y)) [
      | inl equal ↦ inl (salted_input-salt p.settings.algorithm p.settings.rule p.settings.salt salt _ _ dm
          (length-last p x planned ∙ sym (length-last q y other)) equal)
      | inr differ ↦ inr (record {
        differ = differ;
        one_hash = true_chain-top p x 0 planned (blocks-some p planned) ∙ one
            ∙ sym (true_chain-top q y 0 other (blocks-some q other));
      })
    ]
