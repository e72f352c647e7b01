-- SHA-1: the schedule, the rounds and the hash value of one lane, by the definitions of `sha1`.
use Rattle.std.proofs.Common.{◌≡◌, ℕ, zero, suc, ◌+◌, ◌-◌, ◌*◌, ◌/◌, ◌%◌, ◌^◌, ◌<◌, ◌≤◌, List, [], ◌∷◌, ◌++◌, length, slice_index, get_or, take, drop}
use Rattle.std.proofs.{Common.{set, refl, ap, sym, ◌∙◌, arith}, Math.{Nat.mod-eq_of_lt, Seq.take-length, ListN.length-map}}
use Rattle.std.{proofs.lemmas.{List.{get_or-take, take_more_set, map-set}, Bool.Decides.nat_tests}, specs.Prelude.{bit_or, bit_xor}}
use Rattle.{std.specs.Int.{w32, rotate_left, to_be_bytes}, sha_lanes.specs.declared.sha_1.functions.Kind.TheVariants.{First, Second, Third, Fourth}}
use Rattle.sha_lanes.{proofs.LaneWise.word_of_lane, specs.{Lanes.lane, Sha1.first_round, declared.sha_1.functions.Kind.Kind}}
use Rattle.sha1.specs.Sha1 as S1
use Rattle.sha2.specs.Sha256 as S256

-- a rotation by less than a word
pub rotate_left_below : (x n : ℕ) → 0 < n → n < 32
    → bit_or ((x * 2 ^ n) % 2 ^ 32) (x / 2 ^ (32 - n)) ≡ rotate_left w32 x n
rotate_left_below x n pos lt =
    let e : n % 32 ≡ n = mod-eq_of_lt lt in
    let f : (32 - n % 32) % 32 ≡ 32 - n = ap (λ k. (32 - k) % 32) e ∙ mod-eq_of_lt (omega arith) in
    sym (ap (λ k. bit_or ((x * 2 ^ k) % 2 ^ 32) (x / 2 ^ ((32 - n % 32) % 32))) e
    ∙ ap (λ k. bit_or ((x * 2 ^ n) % 2 ^ 32) (x / 2 ^ k)) f)

-- ---- what SHA-1 has in common with SHA-256

-- the words of a block
pub same_words : (b : List ℕ) (n : ℕ) → S256.first_words b n ≡ S1.first_words b n
unfolding S1.first_words S256.first_words
same_words b zero = refl
same_words b (suc n) = ap (λ z. z ++ S1.word_at b (4 * n) ∷ []) (same_words b n)

-- the bytes of a hash value
pub same_bytes : (h : List ℕ) (n : ℕ) → S256.digest_bytes h n ≡ S1.digest_bytes h n
unfolding S1.digest_bytes S256.digest_bytes
same_bytes h zero = refl
same_bytes h (suc n) = ap (λ z. z ++ to_be_bytes w32 (slice_index h n)) (same_bytes h n)

-- ---- the schedule

-- the word made of the four
next_eq : {a b c d a' b' c' d' : ℕ} → a ≡ a' → b ≡ b' → c ≡ c' → d ≡ d'
    → rotate_left w32 (bit_xor (bit_xor (bit_xor a b) c) d) 1 ≡ rotate_left w32 (bit_xor (bit_xor (bit_xor a' b') c') d') 1
next_eq {a} {b} {c} {d} {a'} {b'} {c'} {d'} p q r s =
    ap (λ z. rotate_left w32 (bit_xor (bit_xor (bit_xor z b) c) d) 1) p
    ∙ (ap (λ z. rotate_left w32 (bit_xor (bit_xor (bit_xor a' z) c) d) 1) q
    ∙ (ap (λ z. rotate_left w32 (bit_xor (bit_xor (bit_xor a' b') z) d) 1) r
    ∙ ap (λ z. rotate_left w32 (bit_xor (bit_xor (bit_xor a' b') c') z) 1) s))

-- W t, written at t, is the next word of the schedule
schedule_next : (l b : List ℕ) (n t x : ℕ) → t ≡ n + 16 → t < length l
    → take t l ≡ S1.schedule b n
    → x ≡ rotate_left w32 (bit_xor (bit_xor (bit_xor (slice_index l (t - 3)) (slice_index l (t - 8)))
    (slice_index l (t - 14))) (slice_index l (t - 16))) 1
    → take (t + 1) (set l t x) ≡ S1.schedule b (t + 1 - 16)
unfolding S1.schedule
schedule_next l b n t x at lt begins is =
    let before = λ (k : ℕ) (pos : 0 < k) (le : k ≤ 16).
    let below : t - k < t = omega arith in
    (sym (get_or-take t l (t - k) 0 below) ∙ ap (λ (z : List ℕ). slice_index z (t - k)) begins)
    ∙ ap (λ (z : ℕ). slice_index (S1.schedule b n) (z - k)) at in
    let next : x ≡ S1.next_word (S1.schedule b n) (n + 16) =
    is ∙ next_eq (before 3 (omega arith) (omega arith)) (before 8 (omega arith) (omega arith))
    (before 14 (omega arith) (omega arith)) (before 16 (omega arith) (omega arith)) in
    let su : suc n ≡ t + 1 - 16 = omega arith in
    take_more_set l t x lt
    ∙ (ap (λ z. z ++ x ∷ []) begins
    ∙ (ap (λ z. S1.schedule b n ++ z ∷ []) next
    ∙ ap (S1.schedule b) su))

-- the first words, which are those of SHA-256
pub schedule_start : (b l : List ℕ) → take 16 l ≡ S256.first_words b 16 → take 16 l ≡ S1.schedule b 0
unfolding S1.schedule
schedule_start b l e = e ∙ same_words b 16

-- the same in a lane: W t, written at t, is the next word of its schedule
pub schedule_more : (w : List (List ℕ)) (x : List ℕ) (j : ℕ) (b : List ℕ) (n t : ℕ) → t ≡ n + 16 → t < length w
    → take t (lane w j) ≡ S1.schedule b n
    → slice_index x j ≡ rotate_left w32 (bit_xor (bit_xor (bit_xor (slice_index (get_or w (t - 3) []) j) (slice_index (get_or w (t - 8) []) j))
    (slice_index (get_or w (t - 14) []) j)) (slice_index (get_or w (t - 16) []) j)) 1
    → take (t + 1) (lane (set w t x) j) ≡ S1.schedule b (t + 1 - 16)
schedule_more w x j b n t at lt begins is =
    let lt' : t < length (lane w j) = omega (arith, length-map w (λ y. slice_index y j)) in
    ap (take (t + 1)) (map-set (λ y. slice_index y j) w t x)
    ∙ schedule_next (lane w j) b n t (slice_index x j) at lt' begins
    (is ∙ next_eq (word_of_lane w j (t - 3)) (word_of_lane w j (t - 8)) (word_of_lane w j (t - 14)) (word_of_lane w j (t - 16)))

-- the schedule with all its words
pub schedule_whole : (w : List (List ℕ)) (j : ℕ) (b : List ℕ) (t : ℕ) → t ≡ 80 → length w ≡ 80
    → take t (lane w j) ≡ S1.schedule b (t - 16) → lane w j ≡ S1.schedule b 64
schedule_whole w j b t end long is =
    sym (take-length (lane w j))
    ∙ (ap (λ z. take z (lane w j)) (length-map w (λ y. slice_index y j) ∙ (long ∙ sym end))
    ∙ (is ∙ ap (λ z. S1.schedule b (z - 16)) end))

-- ---- the rounds

-- the function of each round of a kind is that of its first
pub kind_fn : (kind : Kind) (t x y z : ℕ) → first_round kind ≤ t → t < first_round kind + 20
    → S1.round_fn (first_round kind) x y z ≡ S1.round_fn t x y z
kind_fn First t x y z le lt = grind (arith, nat_tests)
kind_fn Second t x y z le lt = grind (arith, nat_tests)
kind_fn Third t x y z le lt = grind (arith, nat_tests)
kind_fn Fourth t x y z le lt = grind (arith, nat_tests)

-- and so is its constant
pub kind_constant : (kind : Kind) (t : ℕ) → first_round kind ≤ t → t < first_round kind + 20
    → S1.round_constant (first_round kind) ≡ S1.round_constant t
kind_constant First t le lt = grind (arith, nat_tests)
kind_constant Second t le lt = grind (arith, nat_tests)
kind_constant Third t le lt = grind (arith, nat_tests)
kind_constant Fourth t le lt = grind (arith, nat_tests)

-- there are 80 rounds
pub kind_ends : (kind : Kind) → first_round kind + 20 ≤ 80
kind_ends First = omega arith
kind_ends Second = omega arith
kind_ends Third = omega arith
kind_ends Fourth = omega arith

-- a round, from the two words that it computes
pub round_of : (a b c d e f k w : ℕ) {t b' : ℕ}
    → t ≡ S1.add32 (S1.add32 (S1.add32 (S1.add32 (rotate_left w32 a 5) f) e) k) w
    → b' ≡ rotate_left w32 b 30
    → S1.round (a ∷ b ∷ c ∷ d ∷ e ∷ []) f k w ≡ t ∷ a ∷ b' ∷ c ∷ d ∷ []
round_of a b c d e f k w {t} p q =
    ap (λ u. u ∷ a ∷ rotate_left w32 b 30 ∷ c ∷ d ∷ []) (sym p) ∙ ap (λ u. t ∷ a ∷ u ∷ c ∷ d ∷ []) (sym q)

-- five words
pub five_words : (v : List ℕ) → length v ≡ 5
    → slice_index v 0 ∷ slice_index v 1 ∷ slice_index v 2 ∷ slice_index v 3 ∷ slice_index v 4 ∷ [] ≡ v
five_words (a ∷ b ∷ c ∷ d ∷ e ∷ []) l = refl
five_words v l = absurd (omega arith)

-- the lane of five vectors
pub lane_of_five : (v : List (List ℕ)) (j : ℕ) → length v ≡ 5
    → lane v j ≡ slice_index (get_or v 0 []) j ∷ slice_index (get_or v 1 []) j ∷ slice_index (get_or v 2 []) j
    ∷ slice_index (get_or v 3 []) j ∷ slice_index (get_or v 4 []) j ∷ []
lane_of_five (a ∷ b ∷ c ∷ d ∷ e ∷ []) j l = refl
lane_of_five v j l = absurd (omega arith)

-- the working variables before the first round
pub rounds_start : (h w : List ℕ) → h ≡ S1.rounds h w 0
unfolding S1.rounds
rounds_start h w = refl

-- a number of rounds in another form
pub rounds_at : (s w : List ℕ) {t u : ℕ} {v : List ℕ} → v ≡ S1.rounds s w t → t ≡ u → v ≡ S1.rounds s w u
rounds_at s w e f = e ∙ ap (S1.rounds s w) f

-- a round is the next of the rounds
pub round_next : (kind : Kind) (s w : List ℕ) (t u : ℕ) {v v' : List ℕ} {k x : ℕ} → u ≡ t + 1
    → first_round kind ≤ t → t < first_round kind + 20
    → v ≡ S1.rounds s w t
    → k ≡ S1.round_constant t
    → x ≡ slice_index w t
    → S1.round v (S1.round_fn (first_round kind) (slice_index v 1) (slice_index v 2) (slice_index v 3)) k x ≡ v'
    → v' ≡ S1.rounds s w u
unfolding S1.rounds
round_next kind s w t u {v} {v'} {k} {x} next le lt at k_is x_is step =
    let su : u ≡ suc t = omega arith in
    let f = λ (y : List ℕ). S1.round_fn (first_round kind) (slice_index y 1) (slice_index y 2) (slice_index y 3) in
    let r = S1.rounds s w t in
    sym step
    ∙ (ap (λ (y : List ℕ). S1.round y (f y) k x) at
    ∙ (ap (λ (y : ℕ). S1.round r y k x) (kind_fn kind t (slice_index r 1) (slice_index r 2) (slice_index r 3) le lt)
    ∙ (ap (λ (y : ℕ). S1.round r (S1.round_fn t (slice_index r 1) (slice_index r 2) (slice_index r 3)) y x) k_is
    ∙ (ap (λ (y : ℕ). S1.round r (S1.round_fn t (slice_index r 1) (slice_index r 2) (slice_index r 3)) (S1.round_constant t) y) x_is
    ∙ sym (ap (S1.rounds s w) su)))))

-- the hash value after a block
pub compress_is : (h w b : List ℕ) {v : List ℕ} → w ≡ S1.schedule b 64 → v ≡ S1.rounds h w 80
    → S1.add_state h v ≡ S1.compress h b
unfolding S1.compress
compress_is h w b {v} e f = ap (S1.add_state h) (f ∙ ap (λ z. S1.rounds h z 80) e)

-- ---- the hash value of a message, and its bytes

-- the hash value before the first block
pub hash_start : (p : List ℕ) → S1.initial_hash ≡ S1.hash_after p 0
unfolding S1.hash_after
hash_start p = refl

-- the hash value after one more block
pub hash_more : (p : List ℕ) (k : ℕ) {s s' b : List ℕ} → s ≡ S1.hash_after p k → b ≡ take 64 (drop (k * 64) p)
    → s' ≡ S1.compress s b → s' ≡ S1.hash_after p (k + 1)
unfolding S1.hash_after
hash_more p k {s} {s'} {b} e f step =
    let su : suc k ≡ k + 1 = omega arith in
    step ∙ (ap (λ z. S1.compress z b) e ∙ (ap (S1.compress (S1.hash_after p k)) f ∙ ap (S1.hash_after p) su))

-- the digest, from the hash value after the last block
pub sha1_is : (m : List ℕ) {s d : List ℕ} → d ≡ S1.digest_bytes s 5
    → s ≡ S1.hash_after (S1.padded_message m) (length (S1.padded_message m) / 64) → d ≡ S1.sha1 m
unfolding S1.sha1
sha1_is m e f = e ∙ ap (λ z. S1.digest_bytes z 5) f

-- the same, where the words of a lane stand between
pub sha1_of_words : (m : List ℕ) {s w d : List ℕ} → d ≡ S1.digest_bytes w 5 → w ≡ s
    → s ≡ S1.hash_after (S1.padded_message m) (length (S1.padded_message m) / 64) → d ≡ S1.sha1 m
sha1_of_words m e f g = sha1_is m e (f ∙ g)
