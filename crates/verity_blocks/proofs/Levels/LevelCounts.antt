-- Lengths of levels, and how many levels there are.
use Rattle.std.proofs.{Common.{◌≡◌, ℕ, zero, suc, ◌+◌, ◌^◌, ◌<◌, List, length, map, arith, sym, ◌∙◌, ap}, lemmas.List.length-map}
use Rattle.std.{proofs.{lemmas.List.FromFn.length-map-range_with_len, Math.Nat.{pow-zero, pow-suc, one-le-pow}}, specs.{Int.div_ceil, Prelude.nat_le}}
use Rattle.verity_plan.{proofs.CountLemmas.{div_ceil-div_ceil, leb-div_ceil_one}, specs.{Settings.{TreeSettingsFields, fan, hash}, Plans.level_count}}
use Rattle.{verity_plan.proofs.LeastLemmas.least_from-same, verity_blocks.specs.Levels.{pack, up, blocks_up, height}}

pub length-pack : (s : TreeSettingsFields) (digests : List (List ℕ))
    → length (pack s digests) ≡ div_ceil (length digests) (fan s)
unfolding pack
length-pack s digests = length-map-range_with_len _ 0 (div_ceil (length digests) (fan s))

pub length-up : (s : TreeSettingsFields) (blocks : List (List ℕ))
    → length (up s blocks) ≡ div_ceil (length blocks) (fan s)
length-up s blocks =
    length-pack s (map (hash s) blocks) ∙ ap (λ (n : ℕ). div_ceil n (fan s)) (length-map blocks (hash s))

-- l levels up there are ceil(n / fan ^ l) blocks
pub length-blocks_up : (s : TreeSettingsFields) (blocks : List (List ℕ)) (l : ℕ) → 0 < fan s
    → length (blocks_up s blocks l) ≡ div_ceil (length blocks) (fan s ^ l)
unfolding blocks_up
length-blocks_up s blocks zero some =
    let one : length blocks ≡ div_ceil (length blocks) 1 = omega arith in rw pow-zero one
length-blocks_up s blocks (suc l) some =
    length-up s (blocks_up s blocks l)
    ∙ ap (λ (n : ℕ). div_ceil n (fan s)) (length-blocks_up s blocks l some)
    ∙ div_ceil-div_ceil (length blocks) (fan s ^ l) (fan s) (one-le-pow l (fan s) some) some
    ∙ ap (div_ceil (length blocks)) (sym (pow-suc (fan s) l))

-- a level has as many blocks as there are groups of blocks below it
pub groups-under : (s : TreeSettingsFields) (blocks : List (List ℕ)) (l : ℕ) → 0 < fan s
    → div_ceil (length blocks) (fan s ^ (l + 1)) ≡ div_ceil (length (blocks_up s blocks l)) (fan s)
unfolding blocks_up
groups-under s blocks l some =
    let next : l + 1 ≡ suc l = omega arith in
    ap (λ (k : ℕ). div_ceil (length blocks) (fan s ^ k)) next ∙ sym (length-blocks_up s blocks (suc l) some)
    ∙ length-up s (blocks_up s blocks l)

-- the height by lists is the number of levels by arithmetic
pub height-level_count : (s : TreeSettingsFields) (blocks : List (List ℕ)) → 0 < fan s
    → height s blocks ≡ level_count (fan s) (length blocks)
unfolding height level_count
height-level_count s blocks some = least_from-same _ _ 0 (length blocks) (λ l.
    ap (λ (n : ℕ). nat_le n 1) (length-blocks_up s blocks l some)
    ∙ leb-div_ceil_one (length blocks) (fan s ^ l) (one-le-pow l (fan s) some))
