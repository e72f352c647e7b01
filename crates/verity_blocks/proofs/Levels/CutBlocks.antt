-- Runs of lists, and data blocks and hash blocks, with their digests.
use Rattle.std.proofs.Common.{◌≡◌, ℕ, ◌+◌, ◌-◌, ◌*◌, ◌<◌, List, [], ◌∷◌, ◌++◌, take, drop, map, min, length, arith, sym, ◌∙◌, ap, get_or}
use Rattle.std.proofs.{Common.{length-append, length-drop, replicate, ◌≤◌}, lemmas.{List.{drop-take, length-replicate, take_min}, Simd.map-map}}
use Rattle.std.{proofs.lemmas.List.FromFn.{get_or-map-range_with_len, map-range_with_len_more, length-map-range_with_len}, specs.List.range_with_len}
use Rattle.{std.specs.{Fork.slice_chunk, Int.div_ceil}, verity_hash.specs.Hashing.with_zeros}
use Rattle.verity_plan.specs.Settings.{TreeSettingsFields, hash, fan}
use Rattle.verity_blocks.specs.{Levels.{pack, cut, block_at, hash_block_of}, Steps.PlainRoots.{digest_of_group, digest_of_block}}

pub map-hash-pack : (s : TreeSettingsFields) (digests : List (List ℕ))
    → map (hash s) (pack s digests)
    ≡ map (digest_of_group s digests) (range_with_len 0 (div_ceil (length digests) (fan s)))
unfolding pack
map-hash-pack s digests =
    map-map (hash s) (λ j. hash_block_of s (slice_chunk digests (fan s) j))
    (range_with_len 0 (div_ceil (length digests) (fan s)))

-- block j of digests that are packed
pub get_or-pack : (s : TreeSettingsFields) (digests : List (List ℕ)) (j : ℕ) → j < div_ceil (length digests) (fan s)
    → get_or (pack s digests) j [] ≡ hash_block_of s (slice_chunk digests (fan s) j)
unfolding pack
get_or-pack s digests j h =
    get_or-map-range_with_len (λ m. hash_block_of s (slice_chunk digests (fan s) m)) 0
    (div_ceil (length digests) (fan s)) j j [] h (omega arith)

-- a range of a slice is a run
pub take-run : {A : Type 0} (xs : List A) (j size count all : ℕ) → size ≡ all → count ≡ min size (length xs - j * size)
    → take (j * size + count - j * size) (drop (j * size) xs) ≡ slice_chunk xs all j
take-run xs j size count all e m =
    ap (λ (n : ℕ). take n (drop (j * size) xs)) (omega (arith, m, length-drop (j * size) xs))
    ∙ take_min size (drop (j * size) xs) ∙ ap (λ (n : ℕ). take n (drop (j * n) xs)) e

-- a run is the same in lists with the same front
pub run-of_front : {A : Type 0} (xs ys : List A) (size j : ℕ) → take (j * size + size) xs ≡ take (j * size + size) ys
    → slice_chunk xs size j ≡ slice_chunk ys size j
run-of_front xs ys size j same =
    sym (drop-take (j * size) size xs) ∙ ap (drop (j * size)) same ∙ drop-take (j * size) size ys

-- one more element of a list by its index
pub mapped_more : (f : ℕ → List ℕ) (before after : List (List ℕ)) (j : ℕ) (x : List ℕ)
    → after ≡ before ++ x ∷ [] → before ≡ map f (range_with_len 0 j) → x ≡ f j
    → after ≡ map f (range_with_len 0 (j + 1))
mapped_more f before after j x pushed so_far same = let more = map-range_with_len_more f 0 j j (omega arith) in cc

pub map-hash-cut : (s : TreeSettingsFields) (n wanted : ℕ) (bytes : List ℕ)
    → map (hash s) (cut s n wanted bytes) ≡ map (digest_of_block s wanted bytes) (range_with_len 0 n)
unfolding cut
map-hash-cut s n wanted bytes = map-map (hash s) (block_at s.data_block (take wanted bytes)) (range_with_len 0 n)

pub length-cut : (s : TreeSettingsFields) (n wanted : ℕ) (bytes : List ℕ) → length (cut s n wanted bytes) ≡ n
unfolding cut
length-cut s n wanted bytes = length-map-range_with_len (block_at s.data_block (take wanted bytes)) 0 n

-- bytes filled to a size have it
pub length-with_zeros : (n : ℕ) (bytes : List ℕ) → length bytes ≤ n → length (with_zeros n bytes) ≡ n
length-with_zeros n bytes most =
    omega (arith, length-append bytes (replicate (n - length bytes) 0), length-replicate {A = ℕ} (n - length bytes) 0)
