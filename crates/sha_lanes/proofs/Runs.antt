-- Several blocks of a message that are taken into its hash value at once.
use Rattle.std.proofs.Common.{◌≡◌, ◌≢◌, ℕ, zero, suc, ◌+◌, ◌-◌, ◌*◌, ◌<◌, ◌≤◌, List, [], ◌++◌, length, take, drop, refl, ap, sym, subst, ◌∙◌, arith, below_more}
use Rattle.std.proofs.{lemmas.List.{get_or-set_same, get_or-set_other}, Math.ListN.set}
use Rattle.sha_lanes.specs.{Lanes.{HoldsFrom, row}, Sha1.final_hash, Words32.block_count as block_count32, Words64.block_count as block_count64}
use Rattle.sha_lanes.proofs.{Groups.block_of_group, OneMessage.hash_end_sha1, Padding32.length-padded_message as length-padded_message32}
use Rattle.sha_lanes.proofs.{Padding64.length-padded_message as length-padded_message64, Pieces.length-pieces}
use Rattle.sha_instructions.specs.Sha1Vectors.{hash_from}
use Rattle.sha1.specs.Sha1 as S1
use Rattle.sha2.specs.Sha256 as S256
use Rattle.sha2.specs.Sha512 as S512

-- for each hash function: `after h p n` is the hash value after n blocks of p, from the hash value h
run_more : (size : ℕ) (after : List ℕ → List ℕ → ℕ → List ℕ) (compress : List ℕ → List ℕ → List ℕ)
    → ((h p : List ℕ) → after h p 0 ≡ h)
    → ((h p : List ℕ) (n : ℕ) → after h p (suc n) ≡ compress (after h p n) (take size (drop (n * size) p)))
    → (h p r : List ℕ) (k c : ℕ) → HoldsFrom r p (k * size) → c * size ≤ length r → k * size + c * size ≤ length p
    → after (after h p k) r c ≡ after h p (k + c)
run_more size after compress none more h p r k zero holds room whole =
    none (after h p k) r ∙ ap (after h p) (omega arith)
run_more size after compress none more h p r k (suc c) holds room whole =
    let earlier = run_more size after compress none more h p r k c holds (omega arith) (omega arith) in
    let place : k * size + c * size ≡ (k + c) * size = omega arith in
    let next : suc (k + c) ≡ k + suc c = omega arith in
    let block : take size (drop (c * size) r) ≡ take size (drop ((k + c) * size) p) =
    block_of_group size c r p (k * size) holds (omega arith) (omega arith) ∙ ap (λ z. take size (drop z p)) place in
    more (after h p k) r c
    ∙ (ap (λ z. compress z (take size (drop (c * size) r))) earlier
    ∙ (ap (compress (after h p (k + c))) block
    ∙ (sym (more h p (k + c)) ∙ ap (after h p) next)))

-- the hash value after c blocks more, of a message in three pieces
run_more256 : (h p r : List ℕ) (k c : ℕ) → HoldsFrom r p (k * 64) → c * 64 ≤ length r → k * 64 + c * 64 ≤ length p
    → S256.hash_after (S256.hash_after h p k) r c ≡ S256.hash_after h p (k + c)
unfolding S256.hash_after
run_more256 = run_more 64 S256.hash_after S256.compress (λ h p. refl) (λ h p n. refl)

pub blocks_taken256 : (h first second third : List ℕ) (k c : ℕ) (r : List ℕ) {s s' : List ℕ}
    → HoldsFrom r (S256.padded_message (first ++ second ++ third)) (k * 64) → c * 64 ≤ length r
    → k + c ≤ block_count32 (length first + length second + length third)
    → s ≡ S256.hash_after h (S256.padded_message (first ++ second ++ third)) k → s' ≡ S256.hash_after s r c → s' ≡ S256.hash_after h (S256.padded_message (first ++ second ++ third)) (k + c)
blocks_taken256 h first second third k c r holds room inside before taken =
    let m = first ++ second ++ third in
    let n : length m ≡ length first + length second + length third = length-pieces first second third (length second) refl in
    let whole : k * 64 + c * 64 ≤ length (S256.padded_message m) = omega (arith, length-padded_message32 m, ap block_count32 n) in
    taken ∙ (ap (λ z. S256.hash_after z r c) before ∙ run_more256 h (S256.padded_message m) r k c holds room whole)

run_more1 : (h p r : List ℕ) (k c : ℕ) → HoldsFrom r p (k * 64) → c * 64 ≤ length r → k * 64 + c * 64 ≤ length p
    → hash_from (hash_from h p k) r c ≡ hash_from h p (k + c)
unfolding hash_from
run_more1 = run_more 64 hash_from S1.compress (λ h p. refl) (λ h p n. refl)

pub blocks_taken1 : (h first second third : List ℕ) (k c : ℕ) (r : List ℕ) {s s' : List ℕ}
    → HoldsFrom r (S1.padded_message (first ++ second ++ third)) (k * 64) → c * 64 ≤ length r
    → k + c ≤ block_count32 (length first + length second + length third)
    → s ≡ hash_from h (S1.padded_message (first ++ second ++ third)) k → s' ≡ hash_from s r c → s' ≡ hash_from h (S1.padded_message (first ++ second ++ third)) (k + c)
blocks_taken1 h first second third k c r holds room inside before taken =
    let m = first ++ second ++ third in
    let n : length m ≡ length first + length second + length third = length-pieces first second third (length second) refl in
    let whole : k * 64 + c * 64 ≤ length (S1.padded_message m) = omega (arith, length-padded_message32 m, ap block_count32 n) in
    taken ∙ (ap (λ z. hash_from z r c) before ∙ run_more1 h (S1.padded_message m) r k c holds room whole)

-- SHA-1 has one initial hash value
from_initial : (p : List ℕ) (k : ℕ) → hash_from S1.initial_hash p k ≡ S1.hash_after p k
unfolding hash_from S1.hash_after
from_initial p zero = refl
from_initial p (suc k) = ap (λ z. S1.compress z (take 64 (drop (k * 64) p))) (from_initial p k)

pub hash_start1 : (p : List ℕ) → S1.initial_hash ≡ hash_from S1.initial_hash p 0
unfolding hash_from
hash_start1 p = refl

pub hash_end1 : (first second third : List ℕ) (k : ℕ) {s : List ℕ} → s ≡ hash_from S1.initial_hash (S1.padded_message (first ++ second ++ third)) k
    → k ≡ block_count32 (length first + length second + length third) → s ≡ final_hash (first ++ second ++ third)
hash_end1 first second third k is count =
    hash_end_sha1 first second third k (is ∙ from_initial (S1.padded_message (first ++ second ++ third)) k) count

run_more512 : (h p r : List ℕ) (k c : ℕ) → HoldsFrom r p (k * 128) → c * 128 ≤ length r → k * 128 + c * 128 ≤ length p
    → S512.hash_after (S512.hash_after h p k) r c ≡ S512.hash_after h p (k + c)
unfolding S512.hash_after
run_more512 = run_more 128 S512.hash_after S512.compress (λ h p. refl) (λ h p n. refl)

pub blocks_taken512 : (h first second third : List ℕ) (k c : ℕ) (r : List ℕ) {s s' : List ℕ}
    → HoldsFrom r (S512.padded_message (first ++ second ++ third)) (k * 128) → c * 128 ≤ length r
    → k + c ≤ block_count64 (length first + length second + length third)
    → s ≡ S512.hash_after h (S512.padded_message (first ++ second ++ third)) k → s' ≡ S512.hash_after s r c → s' ≡ S512.hash_after h (S512.padded_message (first ++ second ++ third)) (k + c)
blocks_taken512 h first second third k c r holds room inside before taken =
    let m = first ++ second ++ third in
    let n : length m ≡ length first + length second + length third = length-pieces first second third (length second) refl in
    let whole : k * 128 + c * 128 ≤ length (S512.padded_message m) = omega (arith, length-padded_message64 m, ap block_count64 n) in
    taken ∙ (ap (λ z. S512.hash_after z r c) before ∙ run_more512 h (S512.padded_message m) r k c holds room whole)

-- what is left of a piece ends before the padding
pub within_blocks32 : (first second third : List ℕ) (k c : ℕ) (r : List ℕ) → k * 64 + length r ≤ length (first ++ second ++ third)
    → c * 64 ≤ length r → k + c ≤ block_count32 (length first + length second + length third)
within_blocks32 first second third k c r inside room =
    omega (arith, inside, room, length-pieces first second third (length second) refl)

pub within_blocks64 : (first second third : List ℕ) (k c : ℕ) (r : List ℕ) → k * 128 + length r ≤ length (first ++ second ++ third)
    → c * 128 ≤ length r → k + c ≤ block_count64 (length first + length second + length third)
within_blocks64 first second third k c r inside room =
    omega (arith, inside, room, length-pieces first second third (length second) refl)

-- ---- the hash values of several messages

-- part j of such parts, where it lies
pub part_at : (parts : List ℕ) (len from end j : ℕ) → from ≡ j * len → end - from ≡ len
    → take (end - from) (drop from parts) ≡ take len (drop (j * len) parts)
part_at parts len from end j at width =
    ap (λ z. take z (drop from parts)) width ∙ ap (λ z. take len (drop z parts)) at

-- the first rows of a table, after one more was set
pub row_set : (P : ℕ → List ℕ → Type 0) (rows : List (List ℕ)) (n : ℕ) (x : List ℕ) → n < length rows
    → ((j : ℕ) → j < n → P j (row rows j)) → P n x → (j : ℕ) → j < n + 1 → P j (row (set rows n x) j)
row_set P rows n x room earlier here =
    below_more _ _
    (λ j lt.
    let other : j ≢ n = omega (arith, lt) in
    subst (P j) (sym (get_or-set_other rows n j x [] other)) (earlier j lt))
    (subst (P n) (sym (get_or-set_same rows n x [] room)) here)
