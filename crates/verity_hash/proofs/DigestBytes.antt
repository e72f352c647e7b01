-- A digest is a list of bytes.
use Rattle.std.proofs.{Common.{ℕ, zero, suc, ◌-◌, ◌<◌, List, [], ◌∷◌, ◌++◌, length, take, arith, refl, inl, inr, ◌≡◌}, lemmas.Bool.cases_lt}
use Rattle.{std.{proofs.lemmas.List.{get_or-append_right, get_or_append_left}, specs.Prelude.slice_index}, sha1.specs.Sha1.sha1}
use Rattle.{std.specs.Int.{bytes_high_first, to_be_bytes, w32, w64}, sha2.specs.{Sha256.{sha224, sha256}, Sha512.{sha384, sha512}}}
use Rattle.verity_hash.specs.{Hashing.{hash_of, salted_hash, salted_input}, declared.{algorithm.Algorithm.Algorithm, salting.SaltRule.SaltRule}}
use Rattle.verity_hash.specs.declared.algorithm.Algorithm.TheVariants.{Sha256, Sha512, Sha1, Sha224, Sha384}
use Rattle.sha1.specs.Sha1 as S1
use Rattle.sha2.specs.Sha256 as S256
use Rattle.sha2.specs.Sha512 as S512

-- each is below 256
abbrev AreBytes : List ℕ → Type 0
AreBytes xs = (i : ℕ) → slice_index xs i < 256

bytes-none : AreBytes []
bytes-none i = omega arith

bytes-append : (xs ys : List ℕ) → AreBytes xs → AreBytes ys → AreBytes (xs ++ ys)
bytes-append xs ys of_xs of_ys i =
    elim (cases_lt i (length xs)) [
      | inl low ↦
          let here : slice_index (xs ++ ys) i ≡ slice_index xs i = get_or_append_left xs ys 0 i low in
          omega (arith, here, of_xs i)
      | inr past ↦
          let there : slice_index (xs ++ ys) i ≡ slice_index ys (i - length xs) =
          get_or-append_right xs ys (length xs) i 0 refl past in
          omega (arith, there, of_ys (i - length xs))
    ]

bytes-take : (n : ℕ) (xs : List ℕ) → AreBytes xs → AreBytes (take n xs)
bytes-take zero xs of_xs i = omega arith
bytes-take (suc n) [] of_xs i = omega arith
bytes-take (suc n) (x ∷ xs) of_xs zero = of_xs 0
bytes-take (suc n) (x ∷ xs) of_xs (suc i) = bytes-take n xs (λ k. of_xs (suc k)) i

bytes-high_first : (k n : ℕ) → AreBytes (bytes_high_first k n)
bytes-high_first zero n i = omega arith
bytes-high_first (suc zero) n zero = omega arith
bytes-high_first (suc (suc k)) n zero = omega arith
bytes-high_first (suc k) n (suc i) = bytes-high_first k n i

digest_bytes-1 : (words : List ℕ) (n : ℕ) → AreBytes (S1.digest_bytes words n)
unfolding S1.digest_bytes
digest_bytes-1 words zero = bytes-none
digest_bytes-1 words (suc n) =
    bytes-append (S1.digest_bytes words n) (to_be_bytes w32 (slice_index words n)) (digest_bytes-1 words n)
    (bytes-high_first 4 (slice_index words n))

digest_bytes-256 : (words : List ℕ) (n : ℕ) → AreBytes (S256.digest_bytes words n)
unfolding S256.digest_bytes
digest_bytes-256 words zero = bytes-none
digest_bytes-256 words (suc n) =
    bytes-append (S256.digest_bytes words n) (to_be_bytes w32 (slice_index words n)) (digest_bytes-256 words n)
    (bytes-high_first 4 (slice_index words n))

digest_bytes-512 : (words : List ℕ) (n : ℕ) → AreBytes (S512.digest_bytes words n)
unfolding S512.digest_bytes
digest_bytes-512 words zero = bytes-none
digest_bytes-512 words (suc n) =
    bytes-append (S512.digest_bytes words n) (to_be_bytes w64 (slice_index words n)) (digest_bytes-512 words n)
    (bytes-high_first 8 (slice_index words n))

-- the bytes of a digest
pub bytes-hash_of : (algorithm : Algorithm) (message : List ℕ) → (i : ℕ)
    → slice_index (hash_of algorithm message) i < 256
unfolding sha1 sha224 sha256 sha384 sha512
bytes-hash_of Sha1 message = digest_bytes-1 _ 5
bytes-hash_of Sha224 message = bytes-take 28 _ (digest_bytes-256 _ 8)
bytes-hash_of Sha256 message = digest_bytes-256 _ 8
bytes-hash_of Sha384 message = bytes-take 48 _ (digest_bytes-512 _ 8)
bytes-hash_of Sha512 message = digest_bytes-512 _ 8

-- and of a salted hash
pub bytes-salted_hash : (algorithm : Algorithm) (rule : SaltRule) (salt block : List ℕ) (i : ℕ)
    → slice_index (salted_hash algorithm rule salt block) i < 256
bytes-salted_hash algorithm rule salt block = bytes-hash_of algorithm (salted_input algorithm rule salt block)
