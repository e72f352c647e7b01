-- The schedule, the rounds and the hash value of one lane, by the definitions of `sha2`.
use Rattle.std.proofs.Common.{◌≡◌, ℕ, suc, ◌+◌, ◌-◌, ◌*◌, ◌/◌, ◌%◌, ◌^◌, ◌<◌, ◌≤◌, List, [], ◌∷◌, ◌++◌, length, slice_index, get_or, take, drop, set}
use Rattle.std.proofs.{Common.{refl, ap, sym, ◌∙◌, arith}, Math.{Nat.mod-eq_of_lt, Seq.take-length, ListN.{length-map, length-set}}}
use Rattle.std.{specs.Int.{w64, rotate_right, from_be_bytes, to_be_bytes}, proofs.lemmas.List.{get_or-take, get_or-drop, take_more_set, map-set}}
use Rattle.{sha_lanes.{specs.{Lanes.lane, Words64.AddsConstants}, proofs.LaneWise.{word_of_lane, word_kept, cons_eq}}, std.specs.Prelude.bit_or}
use Rattle.sha2.specs.Sha512 as S512

-- a rotation by less than a word
pub rotate_right_below : (x n : ℕ) → 0 < n → n < 64
    → bit_or (x / 2 ^ n) ((x * 2 ^ (64 - n)) % 2 ^ 64) ≡ rotate_right w64 x n
rotate_right_below x n pos lt =
    let e : n % 64 ≡ n = mod-eq_of_lt lt in
    let f : (64 - n % 64) % 64 ≡ 64 - n = ap (λ k. (64 - k) % 64) e ∙ mod-eq_of_lt (omega arith) in
    sym (ap (λ k. bit_or (x / 2 ^ k) ((x * 2 ^ ((64 - n % 64) % 64)) % 2 ^ 64)) e ∙ ap (λ k. bit_or (x / 2 ^ n) ((x * 2 ^ k) % 2 ^ 64)) f)

-- ---- the words of a block

pub first_words_start : (b : List ℕ) → [] ≡ S512.first_words b 0
unfolding S512.first_words
first_words_start b = refl

pub first_words_more : (b : List ℕ) (t x : ℕ) {s : List ℕ} → s ≡ S512.first_words b t → x ≡ S512.word_at b (8 * t)
    → s ++ x ∷ [] ≡ S512.first_words b (t + 1)
unfolding S512.first_words
first_words_more b t x {s} e f =
    let su : suc t ≡ t + 1 = omega arith in
    ap (λ z. z ++ x ∷ []) e ∙ (ap (λ z. S512.first_words b t ++ z ∷ []) f ∙ ap (S512.first_words b) su)

-- a word, by its bytes
word_eq : {a b c d e f g h a' b' c' d' e' f' g' h' : ℕ} → a ≡ a' → b ≡ b' → c ≡ c' → d ≡ d' → e ≡ e' → f ≡ f' → g ≡ g' → h ≡ h'
    → from_be_bytes w64 (a ∷ b ∷ c ∷ d ∷ e ∷ f ∷ g ∷ h ∷ []) ≡ from_be_bytes w64 (a' ∷ b' ∷ c' ∷ d' ∷ e' ∷ f' ∷ g' ∷ h' ∷ [])
word_eq p q r s t u v w = ap (from_be_bytes w64) (cons_eq p (cons_eq q (cons_eq r (cons_eq s (cons_eq t (cons_eq u (cons_eq v (cons_eq {s = []} w refl))))))))

-- a word of a part of the bytes
pub word_of_part : (p : List ℕ) (s o i : ℕ) → i + 8 ≤ 128 → S512.word_at p (s + (o + i)) ≡ S512.word_at (take 128 (drop (s + o) p)) i
word_of_part p s o i room =
    let byte = λ (k : ℕ) (below : k < 8).
    let lt : i + k < 128 = omega arith in
    let at : s + (o + i) + k ≡ s + o + (i + k) = omega arith in
    ap (slice_index p) at ∙ (sym (get_or-drop (s + o) p (i + k) 0) ∙ sym (get_or-take 128 (drop (s + o) p) (i + k) 0 lt)) in
    let first : slice_index p (s + (o + i)) ≡ slice_index (take 128 (drop (s + o) p)) i =
    ap (slice_index p) (omega arith) ∙ (byte 0 (omega arith) ∙ ap (slice_index (take 128 (drop (s + o) p))) (omega arith)) in
    word_eq first (byte 1 (omega arith)) (byte 2 (omega arith)) (byte 3 (omega arith)) (byte 4 (omega arith))
    (byte 5 (omega arith)) (byte 6 (omega arith)) (byte 7 (omega arith))

-- ---- the schedule

-- the sum of the four words
next_eq : {a b c d a' b' c' d' : ℕ} → a ≡ a' → b ≡ b' → c ≡ c' → d ≡ d'
    → S512.add64 (S512.add64 (S512.add64 (S512.small_sigma1 a) b) (S512.small_sigma0 c)) d
    ≡ S512.add64 (S512.add64 (S512.add64 (S512.small_sigma1 a') b') (S512.small_sigma0 c')) d'
next_eq {a} {b} {c} {d} {a'} {b'} {c'} {d'} p q r s =
    ap (λ z. S512.add64 (S512.add64 (S512.add64 (S512.small_sigma1 z) b) (S512.small_sigma0 c)) d) p
    ∙ (ap (λ z. S512.add64 (S512.add64 (S512.add64 (S512.small_sigma1 a') z) (S512.small_sigma0 c)) d) q
    ∙ (ap (λ z. S512.add64 (S512.add64 (S512.add64 (S512.small_sigma1 a') b') (S512.small_sigma0 z)) d) r
    ∙ ap (λ z. S512.add64 (S512.add64 (S512.add64 (S512.small_sigma1 a') b') (S512.small_sigma0 c')) z) s))

-- W t, written at t, is the next word of the schedule
schedule_next : (l b : List ℕ) (n t x : ℕ) → t ≡ n + 16 → t < length l
    → take t l ≡ S512.schedule b n
    → x ≡ S512.add64 (S512.add64 (S512.add64 (S512.small_sigma1 (slice_index l (t - 2))) (slice_index l (t - 7)))
    (S512.small_sigma0 (slice_index l (t - 15)))) (slice_index l (t - 16))
    → take (t + 1) (set l t x) ≡ S512.schedule b (n + 1)
unfolding S512.schedule
schedule_next l b n t x at lt begins is =
    let before = λ (k : ℕ) (pos : 0 < k) (le : k ≤ 16).
    let below : t - k < t = omega arith in
    (sym (get_or-take t l (t - k) 0 below) ∙ ap (λ (z : List ℕ). slice_index z (t - k)) begins)
    ∙ ap (λ (z : ℕ). slice_index (S512.schedule b n) (z - k)) at in
    let next : x ≡ S512.next_word (S512.schedule b n) (n + 16) =
    is ∙ next_eq (before 2 (omega arith) (omega arith)) (before 7 (omega arith) (omega arith))
    (before 15 (omega arith) (omega arith)) (before 16 (omega arith) (omega arith)) in
    let su : suc n ≡ n + 1 = omega arith in
    take_more_set l t x lt
    ∙ (ap (λ z. z ++ x ∷ []) begins
    ∙ (ap (λ z. S512.schedule b n ++ z ∷ []) next
    ∙ ap (S512.schedule b) su))

-- the first words
pub schedule_start : (b l : List ℕ) → take 16 l ≡ S512.first_words b 16 → take 16 l ≡ S512.schedule b 0
unfolding S512.schedule
schedule_start b l e = e

schedule_more : (w : List (List ℕ)) (x : List ℕ) (j : ℕ) (b : List ℕ) (n t : ℕ) → t ≡ n + 16 → t < length w
    → take t (lane w j) ≡ S512.schedule b n
    → slice_index x j ≡ S512.add64 (S512.add64 (S512.add64 (S512.small_sigma1 (slice_index (get_or w (t - 2) []) j)) (slice_index (get_or w (t - 7) []) j))
    (S512.small_sigma0 (slice_index (get_or w (t - 15) []) j))) (slice_index (get_or w (t - 16) []) j)
    → take (t + 1) (lane (set w t x) j) ≡ S512.schedule b (n + 1)
schedule_more w x j b n t at lt begins is =
    let lt' : t < length (lane w j) = omega (arith, length-map w (λ y. slice_index y j)) in
    ap (take (t + 1)) (map-set (λ y. slice_index y j) w t x)
    ∙ schedule_next (lane w j) b n t (slice_index x j) at lt' begins
    (is ∙ next_eq (word_of_lane w j (t - 2)) (word_of_lane w j (t - 7)) (word_of_lane w j (t - 15)) (word_of_lane w j (t - 16)))

-- two words, written at t and t + 1; u and v are the last two before them
pub schedule_two : (w : List (List ℕ)) (u v x y : List ℕ) (j : ℕ) (b : List ℕ) (n n' t t' : ℕ) → t ≡ n + 16 → t + 1 < length w
    → n' ≡ n + 2 → t' ≡ t + 2
    → u ≡ get_or w (t - 2) [] → v ≡ get_or w (t - 1) []
    → take t (lane w j) ≡ S512.schedule b n
    → slice_index x j ≡ S512.add64 (S512.add64 (S512.add64 (S512.small_sigma1 (slice_index u j)) (slice_index (get_or w (t - 7) []) j))
    (S512.small_sigma0 (slice_index (get_or w (t - 15) []) j))) (slice_index (get_or w (t - 16) []) j)
    → slice_index y j ≡ S512.add64 (S512.add64 (S512.add64 (S512.small_sigma1 (slice_index v j)) (slice_index (get_or w (t - 6) []) j))
    (S512.small_sigma0 (slice_index (get_or w (t - 14) []) j))) (slice_index (get_or w (t - 15) []) j)
    → take t' (lane (set (set w t x) (t + 1) y) j) ≡ S512.schedule b n'
schedule_two w u v x y j b n n' t t' at lt n_next t_next u_is v_is begins x_is y_is =
    let of = λ (z : List ℕ). slice_index z j in
    let first : take (t + 1) (lane (set w t x) j) ≡ S512.schedule b (n + 1) =
    schedule_more w x j b n t at (omega arith) begins
    (x_is ∙ next_eq {c = slice_index (get_or w (t - 15) []) j} {d = slice_index (get_or w (t - 16) []) j} (ap of u_is) refl refl refl) in
    let kept = word_kept w x j t in
    let second = schedule_more (set w t x) y j b (n + 1) (t + 1) (omega arith) (omega (arith, length-set w t x)) first
    (y_is ∙ next_eq (ap of v_is ∙ kept (t - 1) (t + 1 - 2) (omega arith) (omega arith))
    (kept (t - 6) (t + 1 - 7) (omega arith) (omega arith)) (kept (t - 14) (t + 1 - 15) (omega arith) (omega arith))
    (kept (t - 15) (t + 1 - 16) (omega arith) (omega arith))) in
    ap (λ z. take z (lane (set (set w t x) (t + 1) y) j)) (omega arith) ∙ (second ∙ ap (S512.schedule b) (omega arith))

pub schedule_whole : (w : List (List ℕ)) (j : ℕ) (b : List ℕ) (n : ℕ) → n ≡ 64 → length w ≡ 80
    → take (16 + n) (lane w j) ≡ S512.schedule b n → lane w j ≡ S512.schedule b 64
schedule_whole w j b n end long is =
    let all : length (lane w j) ≡ 16 + n = omega (arith, length-map w (λ y. slice_index y j)) in
    sym (take-length (lane w j)) ∙ (ap (λ z. take z (lane w j)) all ∙ (is ∙ ap (S512.schedule b) end))

-- ---- the rounds

-- a round, from the two words that it computes
pub round_of : (a b c d e f g h k w : ℕ) {a' e' : ℕ}
    → a' ≡ S512.add64 (S512.temp1 (a ∷ b ∷ c ∷ d ∷ e ∷ f ∷ g ∷ h ∷ []) k w) (S512.temp2 (a ∷ b ∷ c ∷ d ∷ e ∷ f ∷ g ∷ h ∷ []))
    → e' ≡ S512.add64 d (S512.temp1 (a ∷ b ∷ c ∷ d ∷ e ∷ f ∷ g ∷ h ∷ []) k w)
    → S512.round (a ∷ b ∷ c ∷ d ∷ e ∷ f ∷ g ∷ h ∷ []) k w ≡ a' ∷ a ∷ b ∷ c ∷ e' ∷ e ∷ f ∷ g ∷ []
round_of a b c d e f g h k w {a'} p q =
    ap (λ u. u ∷ a ∷ b ∷ c ∷ S512.add64 d (S512.temp1 (a ∷ b ∷ c ∷ d ∷ e ∷ f ∷ g ∷ h ∷ []) k w) ∷ e ∷ f ∷ g ∷ []) (sym p)
    ∙ ap (λ u. a' ∷ a ∷ b ∷ c ∷ u ∷ e ∷ f ∷ g ∷ []) (sym q)

-- the working variables before the first round
pub rounds_start : (h w : List ℕ) → h ≡ S512.rounds h w 0
unfolding S512.rounds
rounds_start h w = refl

-- a round is the next of the rounds
pub round_next : (s w : List ℕ) (t u : ℕ) {v v' : List ℕ} {k x : ℕ} → u ≡ t + 1
    → v ≡ S512.rounds s w t
    → k ≡ slice_index S512.round_constants t
    → x ≡ slice_index w t
    → S512.round v k x ≡ v'
    → v' ≡ S512.rounds s w u
unfolding S512.rounds
round_next s w t u {v} {v'} {k} {x} next at k_is x_is step =
    let su : u ≡ suc t = omega arith in
    sym step
    ∙ (ap (λ z. S512.round z k x) at
    ∙ (ap (λ z. S512.round (S512.rounds s w t) z x) k_is
    ∙ (ap (λ z. S512.round (S512.rounds s w t) (slice_index S512.round_constants t) z) x_is
    ∙ sym (ap (S512.rounds s w) su))))

-- the same, where the constant was added to the word before
pub plain_round_next : (kw : List (List ℕ)) (j : ℕ) (s w : List ℕ) → AddsConstants kw j w → (t u : ℕ) {v v' : List ℕ} → t < 80 → u ≡ t + 1
    → v ≡ S512.rounds s w t
    → ((k x : ℕ) → slice_index (get_or kw t []) j ≡ S512.add64 x k → S512.round v k x ≡ v')
    → v' ≡ S512.rounds s w u
plain_round_next kw j s w adds t u lt next at step =
    round_next s w t u next at refl refl (step (slice_index S512.round_constants t) (slice_index w t) (word_of_lane kw j t ∙ adds t lt))

-- one word of the sum
pub added : (h v : List (List ℕ)) (j i x : ℕ)
    → x ≡ S512.add64 (slice_index (get_or h i []) j) (slice_index (get_or v i []) j)
    → x ≡ S512.add64 (slice_index (lane h j) i) (slice_index (lane v j) i)
added h v j i x e =
    e ∙ (ap (λ z. S512.add64 z (slice_index (get_or v i []) j)) (word_of_lane h j i)
    ∙ ap (λ z. S512.add64 (slice_index (lane h j) i) z) (word_of_lane v j i))

-- the hash value after a block
pub compress_is : (h w b : List ℕ) {v : List ℕ} → w ≡ S512.schedule b 64 → v ≡ S512.rounds h w 80
    → S512.add_state h v ≡ S512.compress h b
unfolding S512.compress
compress_is h w b {v} e f = ap (S512.add_state h) (f ∙ ap (λ z. S512.rounds h z 80) e)

-- ---- the hash value of a message, and its bytes

pub hash_start : (h p : List ℕ) → h ≡ S512.hash_after h p 0
unfolding S512.hash_after
hash_start h p = refl

pub hash_more : (h p : List ℕ) (k : ℕ) {s s' b : List ℕ} → s ≡ S512.hash_after h p k → b ≡ take 128 (drop (k * 128) p)
    → s' ≡ S512.compress s b → s' ≡ S512.hash_after h p (k + 1)
unfolding S512.hash_after
hash_more h p k {s} {s'} {b} e f step =
    let su : suc k ≡ k + 1 = omega arith in
    step ∙ (ap (λ z. S512.compress z b) e ∙ (ap (S512.compress (S512.hash_after h p k)) f ∙ ap (S512.hash_after h p) su))

pub digest_start : (h : List ℕ) → [] ≡ S512.digest_bytes h 0
unfolding S512.digest_bytes
digest_start h = refl

pub digest_more : (h : List ℕ) (i : ℕ) {s x : List ℕ} → s ≡ S512.digest_bytes h i → x ≡ to_be_bytes w64 (slice_index h i)
    → s ++ x ≡ S512.digest_bytes h (i + 1)
unfolding S512.digest_bytes
digest_more h i {s} {x} e f =
    let su : suc i ≡ i + 1 = omega arith in
    ap (λ z. z ++ x) e ∙ (ap (λ z. S512.digest_bytes h i ++ z) f ∙ ap (S512.digest_bytes h) su)

pub sha512_is : (m : List ℕ) {s d : List ℕ} → d ≡ S512.digest_bytes s 8 → s ≡ S512.final_hash S512.initial_hash_512 m → d ≡ S512.sha512 m
unfolding S512.sha512
sha512_is m e f = e ∙ ap (λ z. S512.digest_bytes z 8) f

pub sha384_is : (m : List ℕ) {s c d : List ℕ} → c ≡ take 48 d → d ≡ S512.digest_bytes s 8 → s ≡ S512.final_hash S512.initial_hash_384 m
    → c ≡ S512.sha384 m
unfolding S512.sha384
sha384_is m e f g = e ∙ ap (take 48) (f ∙ ap (λ z. S512.digest_bytes z 8) g)
