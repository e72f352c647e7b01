-- The rounds, the schedule and the hash value of SHA-512, as vectors have them, by the definitions of `sha2`.
use Rattle.std.proofs.Common.{◌≡◌, ℕ, zero, suc, ◌+◌, ◌-◌, ◌*◌, ◌<◌, ◌≤◌, List, [], ◌∷◌, bit_and, bit_xor, length, slice_index, take, drop, refl, ap}
use Rattle.{std.proofs.Common.{sym, ◌∙◌, arith}, sha2.proofs.Schedule512.{rounds_next, slice_index-schedule_first, slice_index-schedule_next}}
use Rattle.sha_instructions.specs.Sha512Vectors.{add, add_sigma0, add_sigma1, between, first_sums, second_sums, two, two_at}
use lib.Bits.{and_comm, xor_assoc, xor_comm}
use Rattle.sha2.specs.Sha512 as S512

two_eq : {a b a' b' : ℕ} → a ≡ a' → b ≡ b' → a ∷ b ∷ [] ≡ a' ∷ b' ∷ []
two_eq {a} {b} {a'} e f = ap (λ z. z ∷ b ∷ []) e ∙ ap (λ z. a' ∷ z ∷ []) f

-- ---- the rounds

-- T 1 and A, in the order in which the instructions add
temp_is : (h s c k w : ℕ) → S512.add64 (S512.add64 c s) (S512.add64 h (S512.add64 w k)) ≡ S512.add64 (S512.add64 (S512.add64 (S512.add64 h s) c) k) w
temp_is h s c k w = omega arith

a_is : (t s m : ℕ) → S512.add64 (S512.add64 m s) t ≡ S512.add64 t (S512.add64 s m)
a_is t s m = omega arith

e_is : (t d : ℕ) → S512.add64 t d ≡ S512.add64 d t
e_is t d = omega arith

-- Maj of the same three, the other way round
maj_turned : (x y z : ℕ) → S512.maj z y x ≡ S512.maj x y z
maj_turned x y z =
    ap (λ v. bit_xor (bit_xor v (bit_and z x)) (bit_and y x)) (and_comm z y)
    ∙ (ap (λ v. bit_xor (bit_xor (bit_and y z) v) (bit_and y x)) (and_comm z x)
    ∙ (ap (bit_xor (bit_xor (bit_and y z) (bit_and x z))) (and_comm y x)
    ∙ (xor_comm (bit_xor (bit_and y z) (bit_and x z)) (bit_and x y)
    ∙ (ap (bit_xor (bit_and x y)) (xor_comm (bit_and y z) (bit_and x z))
    ∙ sym (xor_assoc (bit_and x y) (bit_and x z) (bit_and y z))))))

-- two rounds
rounds_two : (s w : List ℕ) (t : ℕ)
    → S512.round (S512.round (S512.rounds s w t) (slice_index S512.round_constants t) (slice_index w t))
    (slice_index S512.round_constants (t + 1)) (slice_index w (t + 1)) ≡ S512.rounds s w (t + 2)
rounds_two s w t =
    let at : t + 2 ≡ t + 1 + 1 = omega arith in
    rw (at, rounds_next s w (t + 1), rounds_next s w t) refl

-- T 1 of both, that of the second first
temps_are : (v : List ℕ) (k0 k1 w0 w1 : ℕ)
    → first_sums (S512.add64 (slice_index v 6) (S512.add64 w1 k1) ∷ S512.add64 (slice_index v 7) (S512.add64 w0 k0) ∷ [])
    (between (two v 4) (two v 6)) (between (two v 2) (two v 4))
    ≡ S512.temp1 (S512.round v k0 w0) k1 w1 ∷ S512.temp1 v k0 w0 ∷ []
temps_are v k0 k1 w0 w1 =
    let first = temp_is (slice_index v 7) (S512.big_sigma1 (slice_index v 4)) (S512.ch (slice_index v 4) (slice_index v 5) (slice_index v 6)) k0 w0 in
    let e = S512.add64 (slice_index v 3) (S512.temp1 v k0 w0) in
    two_eq
    (ap (λ z. S512.add64 (S512.add64 (S512.ch z (slice_index v 4) (slice_index v 5)) (S512.big_sigma1 z)) (S512.add64 (slice_index v 6) (S512.add64 w1 k1)))
    (ap (λ z. S512.add64 z (slice_index v 3)) first ∙ e_is (S512.temp1 v k0 w0) (slice_index v 3))
    ∙ temp_is (slice_index v 6) (S512.big_sigma1 e) (S512.ch e (slice_index v 4) (slice_index v 5)) k1 w1)
    first

-- A and B after both
variables_are : (v : List ℕ) (k0 k1 w0 w1 : ℕ)
    → second_sums (S512.temp1 (S512.round v k0 w0) k1 w1 ∷ S512.temp1 v k0 w0 ∷ []) (two v 2) (two v 0)
    ≡ two (S512.round (S512.round v k0 w0) k1 w1) 0
variables_are v k0 k1 w0 w1 =
    let t0 = S512.temp1 v k0 w0 in
    let t1 = S512.temp1 (S512.round v k0 w0) k1 w1 in
    let a = S512.add64 t0 (S512.temp2 v) in
    let first = ap (λ z. S512.add64 (S512.add64 z (S512.big_sigma0 (slice_index v 0))) t0) (maj_turned (slice_index v 0) (slice_index v 1) (slice_index v 2))
    ∙ a_is t0 (S512.big_sigma0 (slice_index v 0)) (S512.maj (slice_index v 0) (slice_index v 1) (slice_index v 2)) in
    two_eq (ap (λ z. S512.add64 (S512.add64 (S512.maj z (slice_index v 0) (slice_index v 1)) (S512.big_sigma0 z)) t1) first
    ∙ a_is t1 (S512.big_sigma0 a) (S512.maj a (slice_index v 0) (slice_index v 1))) first

-- the words and the constants of two rounds, added, and their sums with G and H
abbrev sums_are : List ℕ → List ℕ → ℕ → List ℕ
sums_are v w t = add (two v 6) (between (add (two w t) (two S512.round_constants t)) (add (two w t) (two S512.round_constants t)))

-- T 1 of both by vectors
pub vectors_temps : {cd ef gh words wk sums temps : List ℕ} (s w : List ℕ) (t : ℕ)
    → cd ≡ two (S512.rounds s w t) 2 → ef ≡ two (S512.rounds s w t) 4 → gh ≡ two (S512.rounds s w t) 6
    → words ≡ two w t → wk ≡ add words (two S512.round_constants t) → sums ≡ add gh (between wk wk)
    → temps ≡ first_sums sums (between ef gh) (between cd ef)
    → temps ≡ S512.temp1 (S512.round (S512.rounds s w t) (slice_index S512.round_constants t) (slice_index w t))
    (slice_index S512.round_constants (t + 1)) (slice_index w (t + 1))
    ∷ S512.temp1 (S512.rounds s w t) (slice_index S512.round_constants t) (slice_index w t) ∷ []
vectors_temps {cd} {ef} {gh} {words} {wk} s w t cd_is ef_is gh_is words_are wk_is sum_is temps_is =
    let v = S512.rounds s w t in
    let k = two S512.round_constants t in
    let wk_at = wk_is ∙ ap (λ z. add z k) words_are in
    temps_is
    ∙ (ap (λ z. first_sums z (between ef gh) (between cd ef)) (sum_is ∙ (ap (λ z. add gh (between z z)) wk_at ∙ ap (λ z. add z (between (add (two w t) k) (add (two w t) k))) gh_is))
    ∙ (ap (λ z. first_sums (sums_are v w t) (between ef z) (between cd ef)) gh_is
    ∙ (ap (λ z. first_sums (sums_are v w t) (between z (two v 6)) (between cd z)) ef_is
    ∙ (ap (λ z. first_sums (sums_are v w t) (between (two v 4) (two v 6)) (between z (two v 4))) cd_is
    ∙ temps_are v (slice_index S512.round_constants t) (slice_index S512.round_constants (t + 1)) (slice_index w t) (slice_index w (t + 1))))))

-- the working variables after two rounds, by vectors
pub vectors_two : {ab cd ef temps r q : List ℕ} (s w : List ℕ) (t : ℕ)
    → ab ≡ two (S512.rounds s w t) 0 → cd ≡ two (S512.rounds s w t) 2 → ef ≡ two (S512.rounds s w t) 4
    → temps ≡ S512.temp1 (S512.round (S512.rounds s w t) (slice_index S512.round_constants t) (slice_index w t))
    (slice_index S512.round_constants (t + 1)) (slice_index w (t + 1))
    ∷ S512.temp1 (S512.rounds s w t) (slice_index S512.round_constants t) (slice_index w t) ∷ []
    → r ≡ second_sums temps cd ab → q ≡ add cd temps
    → (r ≡ two (S512.rounds s w (t + 2)) 0) × (ab ≡ two (S512.rounds s w (t + 2)) 2) × (q ≡ two (S512.rounds s w (t + 2)) 4) × (ef ≡ two (S512.rounds s w (t + 2)) 6)
vectors_two {ab} {cd} {ef} {temps} s w t ab_is cd_is ef_is temps_is r_is q_is =
    let v = S512.rounds s w t in
    let after = rounds_two s w t in
    let t0 = S512.temp1 v (slice_index S512.round_constants t) (slice_index w t) in
    let t1 = S512.temp1 (S512.round v (slice_index S512.round_constants t) (slice_index w t)) (slice_index S512.round_constants (t + 1)) (slice_index w (t + 1)) in (
      r_is ∙ (ap (λ z. second_sums z cd ab) temps_is
          ∙ (ap (λ z. second_sums (t1 ∷ t0 ∷ []) z ab) cd_is
          ∙ (ap (λ z. second_sums (t1 ∷ t0 ∷ []) (two v 2) z) ab_is
          ∙ (variables_are v (slice_index S512.round_constants t) (slice_index S512.round_constants (t + 1)) (slice_index w t) (slice_index w (t + 1))
          ∙ ap (λ z. two z 0) after)))),
      ab_is ∙ ap (λ z. two z 2) after,
      q_is ∙ (ap (λ z. add cd z) temps_is ∙ (ap (λ z. add z (t1 ∷ t0 ∷ [])) cd_is ∙ ap (λ z. two z 4) after)),
      ef_is ∙ ap (λ z. two z 6) after,
    )

-- ---- the schedule

in_order : (a b c d : ℕ) → S512.add64 (S512.add64 (S512.add64 a b) d) c ≡ S512.add64 (S512.add64 (S512.add64 d c) b) a
in_order a b c d = omega arith

-- a word of the schedule, from the words before it
word_is : (b : List ℕ) (t p q r u : ℕ) → t + 16 < 80 → p ≡ t + 1 → q ≡ t + 9 → r ≡ t + 14 → u ≡ t + 16
    → S512.add64 (S512.add64 (S512.add64 (slice_index (S512.schedule b 64) t) (S512.small_sigma0 (slice_index (S512.schedule b 64) p)))
    (S512.small_sigma1 (slice_index (S512.schedule b 64) r))) (slice_index (S512.schedule b 64) q)
    ≡ slice_index (S512.schedule b 64) u
word_is b t p q r u lt p_is q_is r_is u_is =
    let w = S512.schedule b 64 in
    let at16 : t ≡ u - 16 = omega arith in
    let at15 : p ≡ u - 15 = omega arith in
    let at7 : q ≡ u - 7 = omega arith in
    let at2 : r ≡ u - 2 = omega arith in
    in_order (slice_index w t) (S512.small_sigma0 (slice_index w p)) (slice_index w q) (S512.small_sigma1 (slice_index w r))
    ∙ (ap (λ z. S512.add64 (S512.add64 (S512.add64 (S512.small_sigma1 (slice_index w r)) (slice_index w q)) (S512.small_sigma0 (slice_index w p))) (slice_index w z)) at16
    ∙ (ap (λ z. S512.add64 (S512.add64 (S512.add64 (S512.small_sigma1 (slice_index w r)) (slice_index w q)) (S512.small_sigma0 (slice_index w z))) (slice_index w (u - 16))) at15
    ∙ (ap (λ z. S512.add64 (S512.add64 (S512.add64 (S512.small_sigma1 (slice_index w r)) (slice_index w z)) (S512.small_sigma0 (slice_index w (u - 15)))) (slice_index w (u - 16))) at7
    ∙ (ap (λ z. S512.add64 (S512.add64 (S512.add64 (S512.small_sigma1 (slice_index w z)) (slice_index w (u - 7))) (S512.small_sigma0 (slice_index w (u - 15)))) (slice_index w (u - 16))) at2
    ∙ sym (slice_index-schedule_next b 64 u (omega arith) (omega arith))))))

-- two words of it, by vectors of some of the sixteen before them
pub vectors_next : {w0 w1 w4 w5 w7 r : List ℕ} (b : List ℕ) (t : ℕ) → t + 18 ≤ 80
    → w0 ≡ two (S512.schedule b 64) t → w1 ≡ two (S512.schedule b 64) (t + 2) → w4 ≡ two (S512.schedule b 64) (t + 8)
    → w5 ≡ two (S512.schedule b 64) (t + 10) → w7 ≡ two (S512.schedule b 64) (t + 14)
    → r ≡ add_sigma1 (add_sigma0 w0 w1) w7 (between w4 w5)
    → r ≡ two (S512.schedule b 64) (t + 16)
vectors_next {w0} {w1} {w4} {w5} {w7} b t le e0 e1 e4 e5 e7 is =
    let w = S512.schedule b 64 in
    is ∙ (ap (λ z. add_sigma1 (add_sigma0 z w1) w7 (between w4 w5)) e0
    ∙ (ap (λ z. add_sigma1 (add_sigma0 (two w t) z) w7 (between w4 w5)) e1
    ∙ (ap (λ z. add_sigma1 (add_sigma0 (two w t) (two w (t + 2))) z (between w4 w5)) e7
    ∙ (ap (λ z. add_sigma1 (add_sigma0 (two w t) (two w (t + 2))) (two w (t + 14)) (between z w5)) e4
    ∙ (ap (λ z. add_sigma1 (add_sigma0 (two w t) (two w (t + 2))) (two w (t + 14)) (between (two w (t + 8)) z)) e5
    ∙ two_eq (word_is b t (t + 1) (t + 8 + 1) (t + 14) (t + 16) (omega arith) (omega arith) (omega arith) (omega arith) (omega arith))
    (word_is b (t + 1) (t + 2) (t + 10) (t + 14 + 1) (t + 16 + 1) (omega arith) (omega arith) (omega arith) (omega arith) (omega arith)))))))

-- the first words are the block's
pub first_words : (b : List ℕ) (t : ℕ) → t + 2 ≤ 16 → two_at b (8 * t) ≡ two (S512.schedule b 64) t
first_words b t le =
    let next : 8 * t + 8 ≡ 8 * (t + 1) = omega arith in
    two_eq (sym (slice_index-schedule_first b 64 t (omega arith)))
    (ap (S512.word_at b) next ∙ sym (slice_index-schedule_first b 64 (t + 1) (omega arith)))

-- ---- the hash value

pub rounds_start : (h w : List ℕ) → h ≡ S512.rounds h w 0
unfolding S512.rounds
rounds_start h w = refl

-- the vectors of a hash value, and of what is added to it
pub sum_is : (h b : List ℕ) → S512.add_state h (S512.rounds h (S512.schedule b 64) 80) ≡ S512.compress h b
unfolding S512.compress
sum_is h b = refl

pub hash_start : (h p : List ℕ) → h ≡ S512.hash_after h p 0
unfolding S512.hash_after
hash_start h p = refl

pub hash_more : (h p : List ℕ) (k : ℕ)
    → S512.compress (S512.hash_after h p k) (take (128 * k + 128 - 128 * k) (drop (128 * k) p)) ≡ S512.hash_after h p (k + 1)
unfolding S512.hash_after
hash_more h p k =
    let at : 128 * k ≡ k * 128 = omega arith in
    let long : 128 * k + 128 - 128 * k ≡ 128 = omega arith in
    let next : suc k ≡ k + 1 = omega arith in
    ap (λ z. S512.compress (S512.hash_after h p k) (take z (drop (128 * k) p))) long
    ∙ (ap (λ z. S512.compress (S512.hash_after h p k) (take 128 (drop z p))) at ∙ ap (S512.hash_after h p) next)

pub length-hash_after : (h p : List ℕ) (k : ℕ) → length h ≡ 8 → length (S512.hash_after h p k) ≡ 8
unfolding S512.hash_after S512.compress
length-hash_after h p zero l = l
length-hash_after h p (suc k) l = refl
