-- The rounds, the schedule and the hash value of SHA-1, as vectors have them, by the definitions of `sha1`.
use Rattle.std.proofs.Common.{◌≡◌, ℕ, zero, suc, ◌+◌, ◌-◌, ◌*◌, ◌/◌, ◌%◌, ◌^◌, ◌<◌, ◌≤◌, Bool, true, false, List, [], ◌∷◌, bit_or, bit_xor, length}
use Rattle.std.{proofs.Common.{slice_index, take, drop, refl, ap, sym, ◌∙◌, arith}, specs.Int.{w32, rotate_left}}
use Rattle.sha1.proofs.Schedule.{rounds_next, slice_index-schedule_first, slice_index-schedule_next, round_fn_choose, round_constant_choose}
use Rattle.sha1.proofs.Schedule.{round_fn_parity, round_constant_parity, round_fn_majority, round_constant_majority, round_fn_last}
use Rattle.sha1.proofs.Schedule.{round_constant_last}
use Rattle.sha_instructions.specs.Sha1Vectors.{AreSums, AreWordsAndE, add_to_first, four_rounds, hash_from, in_vector, rotated, round_by, with_e}
use Rattle.sha_instructions.specs.{Sha1Vectors.xor_two_on, Vectors.{add, backwards, first_four, four, four_at, xor}}
use lib.Bits.{or_shifted, xor_assoc, xor_block, xor_comm, xor_lt, xor_mod, xor_shr}
use Rattle.sha1.specs.Sha1 as S1

-- equal heads and equal tails
cons_eq : {a b : ℕ} {s t : List ℕ} → a ≡ b → s ≡ t → a ∷ s ≡ b ∷ t
cons_eq {a} {b} {s} {t} e f = ap (λ z. z ∷ s) e ∙ ap (λ z. b ∷ z) f

four_eq : {a b c d a' b' c' d' : ℕ} → a ≡ a' → b ≡ b' → c ≡ c' → d ≡ d' → a ∷ b ∷ c ∷ d ∷ [] ≡ a' ∷ b' ∷ c' ∷ d' ∷ []
four_eq e f g h = cons_eq e (cons_eq f (cons_eq g (cons_eq {s = []} h refl)))

-- ---- the rounds

-- one more round, whose function is f and whose constant k
round_more : (f : ℕ → ℕ → ℕ → ℕ) (k : ℕ) (s w : List ℕ) (t : ℕ) → ((x y z : ℕ) → S1.round_fn t x y z ≡ f x y z)
    → S1.round_constant t ≡ k → round_by f k (S1.rounds s w t) (slice_index w t) ≡ S1.rounds s w (t + 1)
round_more f k s w t is constant =
    let v = S1.rounds s w t in
    ap (λ z. S1.round v z k (slice_index w t)) (sym (is (slice_index v 1) (slice_index v 2) (slice_index v 3)))
    ∙ (ap (λ z. S1.round v (S1.round_fn t (slice_index v 1) (slice_index v 2) (slice_index v 3)) z (slice_index w t)) (sym constant)
    ∙ sym (rounds_next s w t))

-- four more of one kind
rounds_four : (f : ℕ → ℕ → ℕ → ℕ) (k : ℕ) (s w : List ℕ) (t : ℕ)
    → ((u : ℕ) → t ≤ u → u < t + 4 → (x y z : ℕ) → S1.round_fn u x y z ≡ f x y z)
    → ((u : ℕ) → t ≤ u → u < t + 4 → S1.round_constant u ≡ k)
    → four_rounds f k (S1.rounds s w t) (four w t) ≡ S1.rounds s w (t + 4)
rounds_four f k s w t is constant =
    let more = λ (u : ℕ) (from : t ≤ u) (to : u < t + 4). round_more f k s w u (is u from to) (constant u from to) in
    let at2 : t + 1 + 1 ≡ t + 2 = omega arith in
    let at3 : t + 2 + 1 ≡ t + 3 = omega arith in
    let at4 : t + 3 + 1 ≡ t + 4 = omega arith in
    let one = more t (omega arith) (omega arith) in
    let two = ap (λ v. round_by f k v (slice_index w (t + 1))) one ∙ (more (t + 1) (omega arith) (omega arith) ∙ ap (S1.rounds s w) at2) in
    let three = ap (λ v. round_by f k v (slice_index w (t + 2))) two ∙ (more (t + 2) (omega arith) (omega arith) ∙ ap (S1.rounds s w) at3) in
    ap (λ v. round_by f k v (slice_index w (t + 3))) three ∙ (more (t + 3) (omega arith) (omega arith) ∙ ap (S1.rounds s w) at4)

pub four_choose : (s w : List ℕ) (t : ℕ) → t + 4 ≤ 20
    → four_rounds S1.ch 0x5A827999 (S1.rounds s w t) (four w t) ≡ S1.rounds s w (t + 4)
four_choose s w t le =
    rounds_four S1.ch 0x5A827999 s w t (λ u from to x y z. round_fn_choose u x y z (omega arith)) (λ u from to. round_constant_choose u (omega arith))

pub four_parity : (s w : List ℕ) (t : ℕ) → 20 ≤ t → t + 4 ≤ 40
    → four_rounds S1.parity 0x6ED9EBA1 (S1.rounds s w t) (four w t) ≡ S1.rounds s w (t + 4)
four_parity s w t ge le =
    rounds_four S1.parity 0x6ED9EBA1 s w t (λ u from to x y z. round_fn_parity u x y z (omega arith) (omega arith)) (λ u from to. round_constant_parity u (omega arith) (omega arith))

pub four_majority : (s w : List ℕ) (t : ℕ) → 40 ≤ t → t + 4 ≤ 60
    → four_rounds S1.maj 0x8F1BBCDC (S1.rounds s w t) (four w t) ≡ S1.rounds s w (t + 4)
four_majority s w t ge le =
    rounds_four S1.maj 0x8F1BBCDC s w t (λ u from to x y z. round_fn_majority u x y z (omega arith) (omega arith)) (λ u from to. round_constant_majority u (omega arith) (omega arith))

pub four_last : (s w : List ℕ) (t : ℕ) → 60 ≤ t
    → four_rounds S1.parity 0xCA62C1D6 (S1.rounds s w t) (four w t) ≡ S1.rounds s w (t + 4)
four_last s w t ge =
    rounds_four S1.parity 0xCA62C1D6 s w t (λ u from to x y z. round_fn_last u x y z (omega arith)) (λ u from to. round_constant_last u (omega arith))

-- E, added to the word of the first round
e_added : (r g k e w : ℕ) → S1.add32 (S1.add32 (S1.add32 (S1.add32 r g) 0) k) (S1.add32 w e) ≡ S1.add32 (S1.add32 (S1.add32 (S1.add32 r g) e) k) w
e_added r g k e w = omega arith

pub e_first : (f : ℕ → ℕ → ℕ → ℕ) (k : ℕ) (x y w : List ℕ) (e : ℕ) → AreWordsAndE y w e
    → four_rounds f k (with_e x 0) y ≡ four_rounds f k (with_e x e) w
e_first f k x y w e are =
    let sum = S1.add32 (S1.add32 (S1.add32 (S1.add32 (rotate_left w32 (slice_index x 0) 5) (f (slice_index x 1) (slice_index x 2) (slice_index x 3))) e) k) (slice_index w 0) in
    let after = λ (z : ℕ). z ∷ slice_index x 0 ∷ rotate_left w32 (slice_index x 1) 30 ∷ slice_index x 2 ∷ slice_index x 3 ∷ [] in
    let first = ap (λ z. S1.add32 (S1.add32 (S1.add32 (S1.add32 (rotate_left w32 (slice_index x 0) 5) (f (slice_index x 1) (slice_index x 2) (slice_index x 3))) 0) k) z) are.0
    ∙ e_added (rotate_left w32 (slice_index x 0) 5) (f (slice_index x 1) (slice_index x 2) (slice_index x 3)) k e (slice_index w 0) in
    ap (λ z. round_by f k (round_by f k (round_by f k (after z) (slice_index y 1)) (slice_index y 2)) (slice_index y 3)) first
    ∙ (ap (λ z. round_by f k (round_by f k (round_by f k (after sum) z) (slice_index y 2)) (slice_index y 3)) are.1
    ∙ (ap (λ z. round_by f k (round_by f k (round_by f k (after sum) (slice_index w 1)) z) (slice_index y 3)) are.2
    ∙ ap (λ z. round_by f k (round_by f k (round_by f k (after sum) (slice_index w 1)) (slice_index w 2)) z) are.3))

-- by vectors of x86
pub x86_four : {x words y r : List ℕ} (e : List ℕ) (f : ℕ → ℕ → ℕ → ℕ) (k : ℕ) (s w : List ℕ) (t : ℕ)
    → four_rounds f k (S1.rounds s w t) (four w t) ≡ S1.rounds s w (t + 4)
    → x ≡ backwards (S1.rounds s w t) → rotate_left w32 (slice_index e 3) 30 ≡ slice_index (S1.rounds s w t) 4
    → words ≡ backwards (four w t) → y ≡ backwards (add_to_first (backwards words) (rotate_left w32 (slice_index e 3) 30))
    → ((n : ℕ) (ws : List ℕ) → AreWordsAndE (backwards y) ws n → r ≡ backwards (four_rounds f k (with_e (backwards x) n) ws))
    → r ≡ backwards (S1.rounds s w (t + 4))
x86_four {x} {words} e f k s w t four_is x_is e_is words_are y_is r_is =
    let v = S1.rounds s w t in
    let y = y_is ∙ (ap (λ z. backwards (add_to_first (backwards z) (rotate_left w32 (slice_index e 3) 30))) words_are
    ∙ ap (λ z. backwards (add_to_first (four w t) z)) e_is) in
    r_is (slice_index v 4) (four w t) (ap (λ z. slice_index z 3) y, ap (λ z. slice_index z 2) y, ap (λ z. slice_index z 1) y, ap (λ z. slice_index z 0) y)
    ∙ (ap (λ z. backwards (four_rounds f k (with_e (backwards z) (slice_index v 4)) (four w t))) x_is ∙ ap backwards four_is)

-- what E becomes is A of four rounds before, rotated
pub e_after : (s w : List ℕ) (t : ℕ)
    → rotate_left w32 (slice_index (S1.rounds s w t) 0) 30 ≡ slice_index (S1.rounds s w (t + 4)) 4
e_after s w t =
    let at4 : t + 4 ≡ t + 3 + 1 = omega arith in
    let at3 : t + 3 ≡ t + 2 + 1 = omega arith in
    let at2 : t + 2 ≡ t + 1 + 1 = omega arith in
    rw (at4, rounds_next s w (t + 3), at3, rounds_next s w (t + 2), at2, rounds_next s w (t + 1), rounds_next s w t) refl

-- by vectors of ARM
pub arm_four : {x words y r : List ℕ} (e : List ℕ) (f : ℕ → ℕ → ℕ → ℕ) (k : ℕ) (s w : List ℕ) (t : ℕ)
    → four_rounds f k (S1.rounds s w t) (four w t) ≡ S1.rounds s w (t + 4)
    → x ≡ first_four (S1.rounds s w t) → slice_index e 0 ≡ slice_index (S1.rounds s w t) 4
    → words ≡ four w t → y ≡ add words (k ∷ k ∷ k ∷ k ∷ [])
    → ((n : ℕ) (ws : List ℕ) → AreSums y ws n → r ≡ first_four (four_rounds f n (with_e x (slice_index e 0)) ws))
    → r ≡ first_four (S1.rounds s w (t + 4))
arm_four {x} {words} e f k s w t four_is x_is e_is words_are y_is r_is =
    let v = S1.rounds s w t in
    let y = y_is ∙ ap (λ z. add z (k ∷ k ∷ k ∷ k ∷ [])) words_are in
    r_is k (four w t) (ap (λ z. slice_index z 0) y, ap (λ z. slice_index z 1) y, ap (λ z. slice_index z 2) y, ap (λ z. slice_index z 3) y)
    ∙ (ap (λ z. first_four (four_rounds f k (with_e z (slice_index e 0)) (four w t))) x_is
    ∙ (ap (λ z. first_four (four_rounds f k (with_e (first_four v) z) (four w t))) e_is ∙ ap first_four four_is))

-- ---- the schedule

in_order : (p q r t : ℕ) → bit_xor (bit_xor (bit_xor p t) q) r ≡ bit_xor (bit_xor (bit_xor r q) p) t
in_order p q r t =
    xor_comm (bit_xor (bit_xor p t) q) r
    ∙ (ap (bit_xor r) (xor_comm (bit_xor p t) q)
    ∙ (sym (xor_assoc r q (bit_xor p t)) ∙ sym (xor_assoc (bit_xor r q) p t)))

-- a word of the schedule, from the words before it
word_is : (b : List ℕ) (t p q r u : ℕ) → t + 16 < 80 → p ≡ t + 2 → q ≡ t + 8 → r ≡ t + 13 → u ≡ t + 16
    → rotate_left w32 (bit_xor (bit_xor (bit_xor (slice_index (S1.schedule b 64) p) (slice_index (S1.schedule b 64) t))
    (slice_index (S1.schedule b 64) q)) (slice_index (S1.schedule b 64) r)) 1
    ≡ slice_index (S1.schedule b 64) u
word_is b t p q r u lt p_is q_is r_is u_is =
    let w = S1.schedule b 64 in
    let at16 : t ≡ u - 16 = omega arith in
    let at14 : p ≡ u - 14 = omega arith in
    let at8 : q ≡ u - 8 = omega arith in
    let at3 : r ≡ u - 3 = omega arith in
    ap (λ z. rotate_left w32 z 1) (in_order (slice_index w p) (slice_index w q) (slice_index w r) (slice_index w t))
    ∙ (ap (λ z. rotate_left w32 (bit_xor (bit_xor (bit_xor (slice_index w r) (slice_index w q)) (slice_index w p)) (slice_index w z)) 1) at16
    ∙ (ap (λ z. rotate_left w32 (bit_xor (bit_xor (bit_xor (slice_index w r) (slice_index w q)) (slice_index w z)) (slice_index w (u - 16))) 1) at14
    ∙ (ap (λ z. rotate_left w32 (bit_xor (bit_xor (bit_xor (slice_index w r) (slice_index w z)) (slice_index w (u - 14))) (slice_index w (u - 16))) 1) at8
    ∙ (ap (λ z. rotate_left w32 (bit_xor (bit_xor (bit_xor (slice_index w z) (slice_index w (u - 8))) (slice_index w (u - 14))) (slice_index w (u - 16))) 1) at3
    ∙ sym (slice_index-schedule_next b 64 u (omega arith) (omega arith))))))

-- four words of it, from the sixteen before them
next_is : (b : List ℕ) (t : ℕ) → t + 20 ≤ 80
    → rotated (xor (xor_two_on (four (S1.schedule b 64) t) (four (S1.schedule b 64) (t + 4))) (four (S1.schedule b 64) (t + 8)))
    (four (S1.schedule b 64) (t + 12))
    ≡ four (S1.schedule b 64) (t + 16)
next_is b t le =
    let w = S1.schedule b 64 in
    let r0 = word_is b t (t + 2) (t + 8) (t + 12 + 1) (t + 16) (omega arith) (omega arith) (omega arith) (omega arith) (omega arith) in
    let r1 = word_is b (t + 1) (t + 3) (t + 8 + 1) (t + 12 + 2) (t + 16 + 1) (omega arith) (omega arith) (omega arith) (omega arith) (omega arith) in
    let r2 = word_is b (t + 2) (t + 4) (t + 8 + 2) (t + 12 + 3) (t + 16 + 2) (omega arith) (omega arith) (omega arith) (omega arith) (omega arith) in
    let r3 = word_is b (t + 3) (t + 4 + 1) (t + 8 + 3) (t + 16) (t + 16 + 3) (omega arith) (omega arith) (omega arith) (omega arith) (omega arith) in
    four_eq r0 r1 r2
    (ap (λ z. rotate_left w32 (bit_xor (bit_xor (bit_xor (slice_index w (t + 4 + 1)) (slice_index w (t + 3))) (slice_index w (t + 8 + 3))) z) 1) r0 ∙ r3)

-- by vectors
pub vectors_next : {w0 w1 w2 w3 r : List ℕ} (b : List ℕ) (t : ℕ) → t + 20 ≤ 80
    → w0 ≡ four (S1.schedule b 64) t → w1 ≡ four (S1.schedule b 64) (t + 4)
    → w2 ≡ four (S1.schedule b 64) (t + 8) → w3 ≡ four (S1.schedule b 64) (t + 12)
    → r ≡ rotated (xor (xor_two_on w0 w1) w2) w3
    → r ≡ four (S1.schedule b 64) (t + 16)
vectors_next {w0} {w1} {w2} {w3} b t le e0 e1 e2 e3 is =
    let w = S1.schedule b 64 in
    is ∙ (ap (λ z. rotated (xor (xor_two_on z w1) w2) w3) e0
    ∙ (ap (λ z. rotated (xor (xor_two_on (four w t) z) w2) w3) e1
    ∙ (ap (λ z. rotated (xor (xor_two_on (four w t) (four w (t + 4))) z) w3) e2
    ∙ (ap (λ z. rotated (xor (xor_two_on (four w t) (four w (t + 4))) (four w (t + 8))) z) e3
    ∙ next_is b t le))))

-- the first words are the block's
pub first_words : (b : List ℕ) (t : ℕ) → t + 4 ≤ 16 → four_at b (4 * t) ≡ four (S1.schedule b 64) t
first_words b t le =
    let at = λ (k p : ℕ) (lt : k < 16) (is : p ≡ 4 * k). ap (S1.word_at b) is ∙ sym (slice_index-schedule_first b 64 k lt) in
    four_eq (at t (4 * t) (omega arith) refl) (at (t + 1) (4 * t + 4) (omega arith) (omega arith))
    (at (t + 2) (4 * t + 8) (omega arith) (omega arith)) (at (t + 3) (4 * t + 12) (omega arith) (omega arith))

-- ---- rotations

rotl1_is : (x : ℕ) → x < 2 ^ 32 → rotate_left w32 x 1 ≡ x % 2 ^ 31 * 2 ^ 1 + x / 2 ^ 31
rotl1_is x fits =
    let low : x * 2 ^ 1 % 2 ^ 32 ≡ x % 2 ^ 31 * 2 ^ 1 = omega arith in
    ap (λ z. bit_or z (x / 2 ^ 31)) low ∙ or_shifted (x % 2 ^ 31) 1 (x / 2 ^ 31) (omega arith)

rotl2_is : (x : ℕ) → x < 2 ^ 32 → rotate_left w32 x 2 ≡ x % 2 ^ 30 * 2 ^ 2 + x / 2 ^ 30
rotl2_is x fits =
    let low : x * 2 ^ 2 % 2 ^ 32 ≡ x % 2 ^ 30 * 2 ^ 2 = omega arith in
    ap (λ z. bit_or z (x / 2 ^ 30)) low ∙ or_shifted (x % 2 ^ 30) 2 (x / 2 ^ 30) (omega arith)

rotl30_is : (x : ℕ) → x < 2 ^ 32 → rotate_left w32 x 30 ≡ x % 2 ^ 2 * 2 ^ 30 + x / 2 ^ 2
rotl30_is x fits =
    let low : x * 2 ^ 30 % 2 ^ 32 ≡ x % 2 ^ 2 * 2 ^ 30 = omega arith in
    ap (λ z. bit_or z (x / 2 ^ 2)) low ∙ or_shifted (x % 2 ^ 2) 30 (x / 2 ^ 2) (omega arith)

-- a rotation by 2 and one by 30 are none
pub rotl_back : (x : ℕ) → x < 2 ^ 32 → rotate_left w32 (rotate_left w32 x 2) 30 ≡ x
rotl_back x fits =
    let is = rotl2_is x fits in
    ap (λ z. rotate_left w32 z 30) is ∙ (rotl30_is (x % 2 ^ 30 * 2 ^ 2 + x / 2 ^ 30) (omega arith) ∙ omega arith)

-- a rotation goes through the exclusive or
pub rotl_xor : (x y : ℕ) → x < 2 ^ 32 → y < 2 ^ 32
    → bit_xor (rotate_left w32 x 1) (rotate_left w32 y 2) ≡ rotate_left w32 (bit_xor x (rotate_left w32 y 1)) 1
rotl_xor x y fits_x fits_y =
    let z : ℕ = y % 2 ^ 31 * 2 ^ 1 + y / 2 ^ 31 in
    let fits : z < 2 ^ 32 = omega arith in
    let twice : rotate_left w32 y 2 ≡ z % 2 ^ 31 * 2 ^ 1 + z / 2 ^ 31 = rotl2_is y fits_y ∙ omega arith in
    ap (λ v. bit_xor v (rotate_left w32 y 2)) (rotl1_is x fits_x)
    ∙ (ap (bit_xor (x % 2 ^ 31 * 2 ^ 1 + x / 2 ^ 31)) twice
    ∙ (xor_block 1 (x % 2 ^ 31) (z % 2 ^ 31) (x / 2 ^ 31) (z / 2 ^ 31) (omega arith) (omega arith)
    ∙ (ap (λ v. v * 2 ^ 1 + bit_xor (x / 2 ^ 31) (z / 2 ^ 31)) (sym (xor_mod x z 31))
    ∙ (ap (λ v. bit_xor x z % 2 ^ 31 * 2 ^ 1 + v) (sym (xor_shr x z 31))
    ∙ (sym (rotl1_is (bit_xor x z) (xor_lt 32 x z fits_x fits))
    ∙ ap (λ v. rotate_left w32 (bit_xor x v) 1) (sym (rotl1_is y fits_y)))))))

-- ---- the hash value

pub rounds_start : (h w : List ℕ) → h ≡ S1.rounds h w 0
unfolding S1.rounds
rounds_start h w = refl

-- the vectors of a hash value, and of what is added to it
pub sum_is : (for_arm : Bool) (h b : List ℕ)
    → add (in_vector for_arm h) (in_vector for_arm (S1.rounds h (S1.schedule b 64) 80)) ≡ in_vector for_arm (S1.compress h b)
unfolding S1.compress
sum_is true h b = refl
sum_is false h b = refl

pub e_sum_is : (h b : List ℕ) → S1.add32 (slice_index h 4) (slice_index (S1.rounds h (S1.schedule b 64) 80) 4) ≡ slice_index (S1.compress h b) 4
unfolding S1.compress
e_sum_is h b = refl

pub hash_start : (h p : List ℕ) → h ≡ hash_from h p 0
unfolding hash_from
hash_start h p = refl

pub hash_more : (h p : List ℕ) (k : ℕ)
    → S1.compress (hash_from h p k) (take (64 * k + 64 - 64 * k) (drop (64 * k) p)) ≡ hash_from h p (k + 1)
unfolding hash_from
hash_more h p k =
    let at : 64 * k ≡ k * 64 = omega arith in
    let long : 64 * k + 64 - 64 * k ≡ 64 = omega arith in
    let next : suc k ≡ k + 1 = omega arith in
    ap (λ z. S1.compress (hash_from h p k) (take z (drop (64 * k) p))) long
    ∙ (ap (λ z. S1.compress (hash_from h p k) (take 64 (drop z p))) at ∙ ap (hash_from h p) next)

pub length-hash_from : (h p : List ℕ) (k : ℕ) → length h ≡ 5 → length (hash_from h p k) ≡ 5
unfolding hash_from S1.compress
length-hash_from h p zero l = l
length-hash_from h p (suc k) l = refl
