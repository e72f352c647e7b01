-- The rounds, the schedule and the hash value, as vectors have them, by the definitions of `sha2`.
use Rattle.std.proofs.Common.{◌≡◌, ℕ, Bool, true, false, zero, suc, ◌+◌, ◌-◌, ◌*◌, ◌<◌, ◌≤◌, List, [], ◌∷◌, length, slice_index, take, drop, refl, ap}
use Rattle.{std.proofs.Common.{sym, ◌∙◌, arith}, sha2.proofs.Schedule256.{rounds_next, slice_index-schedule_first, slice_index-schedule_next}}
use Rattle.sha_instructions.specs.Sha256Vectors.{first_half, second_half, AreTwoSums, AreFourSums, abef, cdgh, efgh, from_abef, from_abcd, add_sigma0}
use Rattle.sha_instructions.specs.{Sha256Vectors.{add_sigma1, two_rounds, four_rounds}, Vectors.{first_four, four, four_at, add, moved}}
use Rattle.sha2.specs.Sha256 as S256

-- equal heads and equal tails
cons_eq : {a b : ℕ} {s t : List ℕ} → a ≡ b → s ≡ t → a ∷ s ≡ b ∷ t
cons_eq {a} {b} {s} {t} e f = ap (λ z. z ∷ s) e ∙ ap (λ z. b ∷ z) f

four_eq : {a b c d a' b' c' d' : ℕ} → a ≡ a' → b ≡ b' → c ≡ c' → d ≡ d' → a ∷ b ∷ c ∷ d ∷ [] ≡ a' ∷ b' ∷ c' ∷ d' ∷ []
four_eq e f g h = cons_eq e (cons_eq f (cons_eq g (cons_eq {s = []} h refl)))

-- eight words
pub eight_words : (v : List ℕ) → length v ≡ 8
    → slice_index v 0 ∷ slice_index v 1 ∷ slice_index v 2 ∷ slice_index v 3
    ∷ slice_index v 4 ∷ slice_index v 5 ∷ slice_index v 6 ∷ slice_index v 7 ∷ [] ≡ v
eight_words (a ∷ b ∷ c ∷ d ∷ e ∷ f ∷ g ∷ h ∷ []) l = refl
eight_words v l = absurd (omega arith)

-- ---- the rounds

-- two rounds are the next two
rounds_two : (s w : List ℕ) (t : ℕ) → two_rounds (S256.rounds s w t) (four S256.round_constants t) (four w t) ≡ S256.rounds s w (t + 2)
rounds_two s w t =
    let at : t + 2 ≡ t + 1 + 1 = omega arith in
    rw (at, rounds_next s w (t + 1), rounds_next s w t) refl

-- and four the next four
rounds_four : (s w : List ℕ) (t : ℕ) → four_rounds (S256.rounds s w t) (four S256.round_constants t) (four w t) ≡ S256.rounds s w (t + 4)
rounds_four s w t =
    let at : t + 4 ≡ t + 3 + 1 = omega arith in
    let before : t + 3 ≡ t + 2 + 1 = omega arith in
    ap (λ v. S256.round (S256.round v (slice_index S256.round_constants (t + 2)) (slice_index w (t + 2)))
    (slice_index S256.round_constants (t + 3)) (slice_index w (t + 3))) (rounds_two s w t)
    ∙ (ap (λ v. S256.round v (slice_index S256.round_constants (t + 3)) (slice_index w (t + 3)))
    (sym (rounds_next s w (t + 2)) ∙ ap (S256.rounds s w) (sym before))
    ∙ (sym (rounds_next s w (t + 3)) ∙ ap (S256.rounds s w) (sym at)))

-- after two, C, D, G and H are what A, B, E and F were
pub after_two : (s w : List ℕ) (t : ℕ) → abef (S256.rounds s w t) ≡ cdgh (S256.rounds s w (t + 2))
after_two s w t = ap cdgh (rounds_two s w t)

-- two rounds by vectors
pub vectors_two : {x y r : List ℕ} (s w : List ℕ) (t : ℕ) → x ≡ abef (S256.rounds s w t) → y ≡ cdgh (S256.rounds s w t)
    → r ≡ abef (two_rounds (from_abef x y) (four S256.round_constants t) (four w t))
    → r ≡ abef (S256.rounds s w (t + 2))
vectors_two {x} {y} s w t e f is =
    is ∙ (ap (λ z. abef (two_rounds (from_abef z y) (four S256.round_constants t) (four w t))) e
    ∙ (ap (λ z. abef (two_rounds (from_abef (abef (S256.rounds s w t)) z) (four S256.round_constants t) (four w t))) f
    ∙ ap abef (rounds_two s w t)))

-- four words and their constants, added
sum_at : {x y : List ℕ} (w : List ℕ) (t : ℕ) → x ≡ add y (four S256.round_constants t) → y ≡ four w t
    → x ≡ add (four w t) (four S256.round_constants t)
sum_at w t e f = e ∙ ap (λ z. add z (four S256.round_constants t)) f

pub low_sums : {x y : List ℕ} (w : List ℕ) (t : ℕ) → x ≡ add y (four S256.round_constants t) → y ≡ four w t
    → AreTwoSums x (four S256.round_constants t) (four w t)
low_sums w t e f =
    let is = sum_at w t e f in
    (ap (λ z. slice_index z 0) is, ap (λ z. slice_index z 1) is)

pub high_sums : {x y : List ℕ} (w : List ℕ) (t : ℕ) → x ≡ add y (four S256.round_constants t) → y ≡ four w t
    → AreTwoSums (slice_index x 2 ∷ slice_index x 3 ∷ slice_index x 2 ∷ slice_index x 3 ∷ [])
    (four S256.round_constants (t + 2)) (four w (t + 2))
high_sums w t e f =
    let is = sum_at w t e f in
    let at : t + 3 ≡ t + 2 + 1 = omega arith in
    (ap (λ z. slice_index z 2) is, ap (λ z. slice_index z 3) is ∙ ap (λ z. S256.add32 (slice_index w z) (slice_index S256.round_constants z)) at)

pub rounds_at : (s w : List ℕ) (t : ℕ) → S256.rounds s w (t + 2 + 2) ≡ S256.rounds s w (t + 4)
rounds_at s w t = ap (S256.rounds s w) (omega arith)

-- ---- the schedule

in_order : (a b c d : ℕ) → S256.add32 (S256.add32 (S256.add32 a b) c) d ≡ S256.add32 (S256.add32 (S256.add32 d c) b) a
in_order a b c d = omega arith

-- a word of the schedule, from the words before it
word_is : (b : List ℕ) (t p q r u : ℕ) → t + 16 < 64 → p ≡ t + 1 → q ≡ t + 9 → r ≡ t + 14 → u ≡ t + 16
    → S256.add32 (S256.add32 (S256.add32 (slice_index (S256.schedule b 48) t) (S256.small_sigma0 (slice_index (S256.schedule b 48) p)))
    (slice_index (S256.schedule b 48) q)) (S256.small_sigma1 (slice_index (S256.schedule b 48) r))
    ≡ slice_index (S256.schedule b 48) u
word_is b t p q r u lt p_is q_is r_is u_is =
    let w = S256.schedule b 48 in
    let at16 : t ≡ u - 16 = omega arith in
    let at15 : p ≡ u - 15 = omega arith in
    let at7 : q ≡ u - 7 = omega arith in
    let at2 : r ≡ u - 2 = omega arith in
    in_order (slice_index w t) (S256.small_sigma0 (slice_index w p)) (slice_index w q) (S256.small_sigma1 (slice_index w r))
    ∙ (ap (λ z. S256.add32 (S256.add32 (S256.add32 (S256.small_sigma1 (slice_index w r)) (slice_index w q)) (S256.small_sigma0 (slice_index w p))) (slice_index w z)) at16
    ∙ (ap (λ z. S256.add32 (S256.add32 (S256.add32 (S256.small_sigma1 (slice_index w r)) (slice_index w q)) (S256.small_sigma0 (slice_index w z))) (slice_index w (u - 16))) at15
    ∙ (ap (λ z. S256.add32 (S256.add32 (S256.add32 (S256.small_sigma1 (slice_index w r)) (slice_index w z)) (S256.small_sigma0 (slice_index w (u - 15)))) (slice_index w (u - 16))) at7
    ∙ (ap (λ z. S256.add32 (S256.add32 (S256.add32 (S256.small_sigma1 (slice_index w z)) (slice_index w (u - 7))) (S256.small_sigma0 (slice_index w (u - 15)))) (slice_index w (u - 16))) at2
    ∙ sym (slice_index-schedule_next b 48 u (omega arith) (omega arith))))))

-- four words of it, from the sixteen before them
next_is : (b : List ℕ) (t : ℕ) → t + 20 ≤ 64
    → add_sigma1 (add (add_sigma0 (four (S256.schedule b 48) t) (four (S256.schedule b 48) (t + 4)))
    (moved (four (S256.schedule b 48) (t + 8)) (four (S256.schedule b 48) (t + 12)))) (four (S256.schedule b 48) (t + 12))
    ≡ four (S256.schedule b 48) (t + 16)
next_is b t le =
    let w = S256.schedule b 48 in
    let r0 = word_is b t (t + 1) (t + 8 + 1) (t + 12 + 2) (t + 16) (omega arith) (omega arith) (omega arith) (omega arith) (omega arith) in
    let r1 = word_is b (t + 1) (t + 2) (t + 8 + 2) (t + 12 + 3) (t + 16 + 1) (omega arith) (omega arith) (omega arith) (omega arith) (omega arith) in
    let r2 = word_is b (t + 2) (t + 3) (t + 8 + 3) (t + 16) (t + 16 + 2) (omega arith) (omega arith) (omega arith) (omega arith) (omega arith) in
    let r3 = word_is b (t + 3) (t + 4) (t + 12) (t + 16 + 1) (t + 16 + 3) (omega arith) (omega arith) (omega arith) (omega arith) (omega arith) in
    four_eq r0 r1
    (ap (λ z. S256.add32 (S256.add32 (S256.add32 (slice_index w (t + 2)) (S256.small_sigma0 (slice_index w (t + 3)))) (slice_index w (t + 8 + 3))) (S256.small_sigma1 z)) r0 ∙ r2)
    (ap (λ z. S256.add32 (S256.add32 (S256.add32 (slice_index w (t + 3)) (S256.small_sigma0 (slice_index w (t + 4)))) (slice_index w (t + 12))) (S256.small_sigma1 z)) r1 ∙ r3)

-- by vectors
pub vectors_next : {w0 w1 w2 w3 r : List ℕ} (b : List ℕ) (t : ℕ) → t + 20 ≤ 64
    → w0 ≡ four (S256.schedule b 48) t → w1 ≡ four (S256.schedule b 48) (t + 4)
    → w2 ≡ four (S256.schedule b 48) (t + 8) → w3 ≡ four (S256.schedule b 48) (t + 12)
    → r ≡ add_sigma1 (add (add_sigma0 w0 w1) (moved w2 w3)) w3
    → r ≡ four (S256.schedule b 48) (t + 16)
vectors_next {w0} {w1} {w2} {w3} b t le e0 e1 e2 e3 is =
    let w = S256.schedule b 48 in
    is ∙ (ap (λ z. add_sigma1 (add (add_sigma0 z w1) (moved w2 w3)) w3) e0
    ∙ (ap (λ z. add_sigma1 (add (add_sigma0 (four w t) z) (moved w2 w3)) w3) e1
    ∙ (ap (λ z. add_sigma1 (add (add_sigma0 (four w t) (four w (t + 4))) (moved z w3)) w3) e2
    ∙ (ap (λ z. add_sigma1 (add (add_sigma0 (four w t) (four w (t + 4))) (moved (four w (t + 8)) z)) z) e3
    ∙ next_is b t le))))

-- the first words are the block's
pub first_words : (b : List ℕ) (t : ℕ) → t + 4 ≤ 16 → four_at b (4 * t) ≡ four (S256.schedule b 48) t
first_words b t le =
    let at = λ (k p : ℕ) (lt : k < 16) (is : p ≡ 4 * k). ap (S256.word_at b) is ∙ sym (slice_index-schedule_first b 48 k lt) in
    four_eq (at t (4 * t) (omega arith) refl) (at (t + 1) (4 * t + 4) (omega arith) (omega arith))
    (at (t + 2) (4 * t + 8) (omega arith) (omega arith)) (at (t + 3) (4 * t + 12) (omega arith) (omega arith))

-- ---- the hash value

pub rounds_start : (h w : List ℕ) → h ≡ S256.rounds h w 0
unfolding S256.rounds
rounds_start h w = refl

-- the vectors of a hash value, and of what is added to it
pub first_sum_is : (for_arm : Bool) (h b : List ℕ)
    → add (first_half for_arm h) (first_half for_arm (S256.rounds h (S256.schedule b 48) 64)) ≡ first_half for_arm (S256.compress h b)
unfolding S256.compress
first_sum_is true h b = refl
first_sum_is false h b = refl

pub second_sum_is : (for_arm : Bool) (h b : List ℕ)
    → add (second_half for_arm h) (second_half for_arm (S256.rounds h (S256.schedule b 48) 64)) ≡ second_half for_arm (S256.compress h b)
unfolding S256.compress
second_sum_is true h b = refl
second_sum_is false h b = refl

pub hash_start : (h p : List ℕ) → h ≡ S256.hash_after h p 0
unfolding S256.hash_after
hash_start h p = refl

pub hash_more : (h p : List ℕ) (k : ℕ) {b : List ℕ} → b ≡ take 64 (drop (k * 64) p)
    → S256.compress (S256.hash_after h p k) b ≡ S256.hash_after h p (k + 1)
unfolding S256.hash_after
hash_more h p k e =
    let su : suc k ≡ k + 1 = omega arith in
    ap (S256.compress (S256.hash_after h p k)) e ∙ ap (S256.hash_after h p) su

pub length-hash_after : (h p : List ℕ) (k : ℕ) → length h ≡ 8 → length (S256.hash_after h p k) ≡ 8
unfolding S256.hash_after S256.compress
length-hash_after h p zero l = l
length-hash_after h p (suc k) l = refl

-- one more block
pub vectors_more : (f : List ℕ → List ℕ) {x : List ℕ} (h p : List ℕ) (k : ℕ)
    → x ≡ f (S256.compress (S256.hash_after h p k) (take (64 * k + 64 - 64 * k) (drop (64 * k) p)))
    → x ≡ f (S256.hash_after h p (k + 1))
vectors_more f h p k is =
    let at : 64 * k ≡ k * 64 = omega arith in
    let long : 64 * k + 64 - 64 * k ≡ 64 = omega arith in
    is ∙ ap f (hash_more h p k (ap (λ z. take z (drop (64 * k) p)) long ∙ ap (λ z. take 64 (drop z p)) at))

-- ---- ARM

-- four rounds by vectors
pub vectors_four : {x y r : List ℕ} (f : List ℕ → List ℕ) (s w : List ℕ) (t : ℕ) → x ≡ first_four (S256.rounds s w t) → y ≡ efgh (S256.rounds s w t)
    → r ≡ f (four_rounds (from_abcd x y) (four S256.round_constants t) (four w t))
    → r ≡ f (S256.rounds s w (t + 4))
vectors_four {x} {y} f s w t e g is =
    is ∙ (ap (λ z. f (four_rounds (from_abcd z y) (four S256.round_constants t) (four w t))) e
    ∙ (ap (λ z. f (four_rounds (from_abcd (first_four (S256.rounds s w t)) z) (four S256.round_constants t) (four w t))) g
    ∙ ap f (rounds_four s w t)))

pub four_sums : {x y : List ℕ} (w : List ℕ) (t : ℕ) → x ≡ add y (four S256.round_constants t) → y ≡ four w t
    → AreFourSums x (four S256.round_constants t) (four w t)
four_sums w t e f =
    let is = sum_at w t e f in
    ((ap (λ z. slice_index z 0) is, ap (λ z. slice_index z 1) is), ap (λ z. slice_index z 2) is, ap (λ z. slice_index z 3) is)
