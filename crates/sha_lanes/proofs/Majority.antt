-- Maj as a sum of two parts without a bit in common: the bits that both b and c have, and those of a where
-- b and c differ.
use Rattle.std.{proofs.Common.{◌≡◌, ℕ, ◌+◌, ap, ◌∙◌, arith}, specs.{Int.Bits.xor_disjoint, Prelude.{bit_and, bit_xor}}}
use Rattle.std.proofs.lemmas.Nat.Bits.{bit_at-lt, bit_at-zero, bit_at_and, bit_at_xor, same_from_bits}

-- what a has where b and c differ
differing : (a b c : ℕ) → bit_and a (bit_xor b c) ≡ bit_xor (bit_and a b) (bit_and a c)
differing a b c =
    same_from_bits _ _ (λ i. omega (
      arith,
      bit_at-lt a i,
      bit_at-lt b i,
      bit_at-lt c i,
      bit_at_xor b c i,
      bit_at_and a (bit_xor b c) i,
      bit_at_and a b i,
      bit_at_and a c i,
      bit_at_xor (bit_and a b) (bit_and a c) i,
    ))

-- where they differ they don't both have a bit
apart : (a b c : ℕ) → bit_and (bit_and a (bit_xor b c)) (bit_and b c) ≡ 0
apart a b c =
    same_from_bits _ _ (λ i. omega (
      arith,
      bit_at-zero i,
      bit_at-lt b i,
      bit_at-lt c i,
      bit_at_xor b c i,
      bit_at_and b c i,
      bit_at_and a (bit_xor b c) i,
      bit_at_and (bit_and a (bit_xor b c)) (bit_and b c) i,
    ))

pub majority : (a b c : ℕ)
    → bit_and b c + bit_and a (bit_xor b c) ≡ bit_xor (bit_xor (bit_and a b) (bit_and a c)) (bit_and b c)
majority a b c =
    let sum : bit_xor (bit_and a (bit_xor b c)) (bit_and b c) ≡ bit_and a (bit_xor b c) + bit_and b c =
    xor_disjoint _ _ (apart a b c) in
    let turned : bit_and b c + bit_and a (bit_xor b c) ≡ bit_xor (bit_and a (bit_xor b c)) (bit_and b c) =
    omega (arith, sum) in
    turned ∙ ap (λ d. bit_xor d (bit_and b c)) (differing a b c)
