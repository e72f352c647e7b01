-- A list that is filled up with zeros.
use Rattle.std.proofs.Common.{◌≡◌, ℕ, ◌+◌, ◌-◌, ◌≤◌, inl, inr, List, ◌++◌, length, take, drop, replicate, sym, ◌∙◌, ap, arith, append-nil}
use Rattle.std.proofs.{Common.length-append, lemmas.{List.{take-append-le, take_all, take-replicate, drop_all, length-replicate}, Bool.cases_lt}}
use Rattle.{std.proofs.Math.Seq.take-append-add, verity_io.specs.Writing.put}

-- the first bytes of what was filled up to at least n
pub take_padded : (xs : List ℕ) (at n : ℕ) → at ≤ n →
    take at (xs ++ replicate (n - length xs) 0) ≡ take at xs ++ replicate (at - length xs) 0
take_padded xs at n le =
    elim (cases_lt at (length xs)) [
      | inl short ↦
          let none : at - length xs ≡ 0 = omega arith in
          let front : take at (xs ++ replicate (n - length xs) 0) ≡ take at xs =
          take-append-le at xs (replicate (n - length xs) 0) (omega arith) in
          rw none (front ∙ sym (append-nil (take at xs)))
      | inr long ↦
          let split : length xs + (at - length xs) ≡ at = omega arith in
          let all : take at xs ≡ xs = take_all at xs long in
          let seam : take (length xs + (at - length xs)) (xs ++ replicate (n - length xs) 0) ≡ xs
          ++ take (at - length xs) (replicate (n - length xs) 0)
          = take-append-add xs (replicate (n - length xs) 0) (at - length xs) in
          let zeros : take (at - length xs) (replicate (n - length xs) 0) ≡ replicate (at - length xs) 0
          = take-replicate (at - length xs) (n - length xs) 0 (omega arith) in
          rw all (rw split at seam ∙ ap (λ r. xs ++ r) zeros)
    ]

-- filling up leaves what stands from n on
pub drop_padded : (xs : List ℕ) (n : ℕ) → drop n (xs ++ replicate (n - length xs) 0) ≡ drop n xs
drop_padded xs n =
    elim (cases_lt n (length xs)) [
      | inl short ↦
          let none : n - length xs ≡ 0 = omega arith in
          rw none (ap (drop n) (append-nil xs))
      | inr long ↦
          let len : length (xs ++ replicate (n - length xs) 0) ≤ n
          = omega (arith, length-append xs (replicate (n - length xs) 0), length-replicate {A = ℕ} (n - length xs) 0) in
          drop_all n (xs ++ replicate (n - length xs) 0) len ∙ sym (drop_all n xs long)
    ]

-- a write into a list that was first filled up to the write's end
pub put_padded : (xs ys : List ℕ) (at : ℕ) (full : List ℕ) → full ≡ xs ++ replicate ((at + length ys) - length xs) 0 →
    take at full ++ ys ++ drop (at + length ys) full ≡ put xs at ys
put_padded xs ys at full is =
    let front : take at (xs ++ replicate ((at + length ys) - length xs) 0) ≡ take at xs ++ replicate (at - length xs) 0
    = take_padded xs at (at + length ys) (omega arith) in
    let back : drop (at + length ys) (xs ++ replicate ((at + length ys) - length xs) 0) ≡ drop (at + length ys) xs
    = drop_padded xs (at + length ys) in
    rw (is, front, back)
