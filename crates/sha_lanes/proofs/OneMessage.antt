-- One message alone: groups of blocks, and their schedules.
use Rattle.std.proofs.Common.{◌≡◌, ℕ, ◌+◌, ◌-◌, ◌*◌, ◌/◌, ◌≤◌, ◌<◌, List, ◌++◌, length, slice_index, take, drop, map, refl, ap, sym, ◌∙◌, arith}
use Rattle.std.{proofs.lemmas.{List.{take-replicate, drop-replicate, get_or-map}, Simd.get_or-replicate}, specs.Prelude.replicate}
use Rattle.sha_lanes.specs.{Lanes.HoldsFrom, Sha1.first_round, declared.sha_1.functions.Kind.Kind}
use Rattle.sha_lanes.specs.{declared.sha_1.functions.Kind.TheVariants.{First, Second, Third, Fourth}, Words32.block_count as block_count32}
use Rattle.sha_lanes.{specs.Words64.block_count as block_count64, proofs.{HashSha1.kind_constant, Pieces.length-pieces}}
use Rattle.sha_lanes.proofs.{Groups.block_of_group, Padding32.{length-padded_message as length-padded_message32, blocks_of as blocks_of32}}
use Rattle.sha_lanes.proofs.Padding64.{length-padded_message as length-padded_message64, blocks_of as blocks_of64}
use Rattle.sha1.specs.Sha1 as S1
use Rattle.sha2.specs.Sha256 as S256
use Rattle.sha2.specs.Sha512 as S512

-- a block of a group of zeros
zero_block : (size : ℕ) (blocks : List ℕ) → blocks ≡ replicate 512 0 → (j : ℕ) → size ≤ 512 - j * size
    → take size (drop (j * size) blocks) ≡ replicate size 0
zero_block size blocks zeros j room =
    ap (λ z. take size (drop (j * size) z)) zeros
    ∙ (ap (take {A = ℕ} size) (drop-replicate {X = ℕ} (j * size) 512 0) ∙ take-replicate size (512 - j * size) 0 room)

-- the schedule of a block of zeros
schedule_of_zeros32 : S256.schedule (replicate 64 0) 48 ≡ replicate 64 0
unfolding S256.schedule S256.first_words
schedule_of_zeros32 = refl

schedule_of_zeros64 : S512.schedule (replicate 128 0) 64 ≡ replicate 80 0
unfolding S512.schedule S512.first_words
schedule_of_zeros64 = refl

schedule_of_zeros_sha1 : S1.schedule (replicate 64 0) 64 ≡ replicate 80 0
unfolding S1.schedule S1.first_words
schedule_of_zeros_sha1 = refl

-- the schedules of a group of zeros
pub zero_schedule32 : (blocks : List ℕ) → blocks ≡ replicate 512 0 → (j : ℕ) → j < 8
    → S256.schedule (take 64 (drop (j * 64) blocks)) 48 ≡ replicate 64 0
zero_schedule32 blocks zeros j lt =
    ap (λ z. S256.schedule z 48) (zero_block 64 blocks zeros j (omega arith)) ∙ schedule_of_zeros32

pub zero_schedule64 : (blocks : List ℕ) → blocks ≡ replicate 512 0 → (j : ℕ) → j < 4
    → S512.schedule (take 128 (drop (j * 128) blocks)) 64 ≡ replicate 80 0
zero_schedule64 blocks zeros j lt =
    ap (λ z. S512.schedule z 64) (zero_block 128 blocks zeros j (omega arith)) ∙ schedule_of_zeros64

pub zero_schedule_sha1 : (blocks : List ℕ) → blocks ≡ replicate 512 0 → (j : ℕ) → j < 8
    → S1.schedule (take 64 (drop (j * 64) blocks)) 64 ≡ replicate 80 0
zero_schedule_sha1 blocks zeros j lt =
    ap (λ z. S1.schedule z 64) (zero_block 64 blocks zeros j (omega arith)) ∙ schedule_of_zeros_sha1

-- the constants, added to a schedule of zeros
sums_with_zero32 : map (S256.add32 0) S256.round_constants ≡ S256.round_constants
sums_with_zero32 = refl

pub constants_of_zeros32 : (t : ℕ) → t < 64
    → S256.add32 (slice_index (replicate 64 0) t) (slice_index S256.round_constants t) ≡ slice_index S256.round_constants t
constants_of_zeros32 t lt =
    ap (λ z. S256.add32 z (slice_index S256.round_constants t)) (get_or-replicate 64 t 0 0 lt)
    ∙ (sym (get_or-map (S256.add32 0) S256.round_constants t 0 0 lt) ∙ ap (λ z. slice_index z t) sums_with_zero32)

sums_with_zero64 : map (S512.add64 0) S512.round_constants ≡ S512.round_constants
sums_with_zero64 = refl

pub constants_of_zeros64 : (t : ℕ) → t < 80
    → S512.add64 (slice_index (replicate 80 0) t) (slice_index S512.round_constants t) ≡ slice_index S512.round_constants t
constants_of_zeros64 t lt =
    ap (λ z. S512.add64 z (slice_index S512.round_constants t)) (get_or-replicate 80 t 0 0 lt)
    ∙ (sym (get_or-map (S512.add64 0) S512.round_constants t 0 0 lt) ∙ ap (λ z. slice_index z t) sums_with_zero64)

sum_with_zero_sha1 : (kind : Kind) → S1.add32 0 (S1.round_constant (first_round kind)) ≡ S1.round_constant (first_round kind)
sum_with_zero_sha1 First = refl
sum_with_zero_sha1 Second = refl
sum_with_zero_sha1 Third = refl
sum_with_zero_sha1 Fourth = refl

pub constants_of_zeros_sha1 : (kind : Kind) (t : ℕ) → t < 80 → first_round kind ≤ t → t < first_round kind + 20
    → S1.add32 (slice_index (replicate 80 0) t) (S1.round_constant t) ≡ S1.round_constant (first_round kind)
constants_of_zeros_sha1 kind t lt first last =
    ap (λ z. S1.add32 z (S1.round_constant t)) (get_or-replicate 80 t 0 0 lt)
    ∙ (ap (S1.add32 0) (sym (kind_constant kind t first last)) ∙ sum_with_zero_sha1 kind)

-- ---- a group of blocks of a padded message

-- block k + j, from the group that begins with block k
block_at : (size k j : ℕ) (group p : List ℕ) → HoldsFrom group p (k * size) → length group ≡ 512
    → (k + j) * size + size ≤ length p → j * size + size ≤ 512
    → take size (drop (j * size) group) ≡ take size (drop ((k + j) * size) p)
block_at size k j group p holds long room inside =
    let place : (k + j) * size ≡ k * size + j * size = omega arith in
    block_of_group size j group p (k * size) holds (omega (arith, place)) (omega (arith, long)) ∙ ap (λ z. take size (drop z p)) (sym place)

-- and its schedule
pub schedule_at32 : (first second third : List ℕ) (k j : ℕ) (group : List ℕ) → j < 8
    → k + j < block_count32 (length first + length second + length third)
    → HoldsFrom group (S256.padded_message (first ++ second ++ third)) (k * 64) → length group ≡ 512
    → S256.schedule (take 64 (drop (j * 64) group)) 48
    ≡ S256.schedule (take 64 (drop ((k + j) * 64) (S256.padded_message (first ++ second ++ third)))) 48
schedule_at32 first second third k j group lt inside holds long =
    let m = first ++ second ++ third in
    let n : length m ≡ length first + length second + length third = length-pieces first second third (length second) refl in
    let room : (k + j) * 64 + 64 ≤ length (S256.padded_message m) = omega (arith, length-padded_message32 m, ap block_count32 n) in
    ap (λ z. S256.schedule z 48) (block_at 64 k j group (S256.padded_message m) holds long room (omega arith))

pub schedule_at64 : (first second third : List ℕ) (k j : ℕ) (group : List ℕ) → j < 4
    → k + j < block_count64 (length first + length second + length third)
    → HoldsFrom group (S512.padded_message (first ++ second ++ third)) (k * 128) → length group ≡ 512
    → S512.schedule (take 128 (drop (j * 128) group)) 64
    ≡ S512.schedule (take 128 (drop ((k + j) * 128) (S512.padded_message (first ++ second ++ third)))) 64
schedule_at64 first second third k j group lt inside holds long =
    let m = first ++ second ++ third in
    let n : length m ≡ length first + length second + length third = length-pieces first second third (length second) refl in
    let room : (k + j) * 128 + 128 ≤ length (S512.padded_message m) = omega (arith, length-padded_message64 m, ap block_count64 n) in
    ap (λ z. S512.schedule z 64) (block_at 128 k j group (S512.padded_message m) holds long room (omega arith))

pub schedule_at_sha1 : (first second third : List ℕ) (k j : ℕ) (group : List ℕ) → j < 8
    → k + j < block_count32 (length first + length second + length third)
    → HoldsFrom group (S1.padded_message (first ++ second ++ third)) (k * 64) → length group ≡ 512
    → S1.schedule (take 64 (drop (j * 64) group)) 64
    ≡ S1.schedule (take 64 (drop ((k + j) * 64) (S1.padded_message (first ++ second ++ third)))) 64
schedule_at_sha1 first second third k j group lt inside holds long =
    let m = first ++ second ++ third in
    let n : length m ≡ length first + length second + length third = length-pieces first second third (length second) refl in
    let room : (k + j) * 64 + 64 ≤ length (S1.padded_message m) = omega (arith, length-padded_message32 m, ap block_count32 n) in
    ap (λ z. S1.schedule z 64) (block_at 64 k j group (S1.padded_message m) holds long room (omega arith))

-- the hash value after all blocks
pub hash_end32 : (h first second third : List ℕ) (k : ℕ) {s : List ℕ}
    → s ≡ S256.hash_after h (S256.padded_message (first ++ second ++ third)) k
    → k ≡ block_count32 (length first + length second + length third)
    → s ≡ S256.final_hash h (first ++ second ++ third)
hash_end32 h first second third k is count =
    let m = first ++ second ++ third in
    is ∙ ap (S256.hash_after h (S256.padded_message m)) (blocks_of32 m k _ (length-pieces first second third (length second) refl) count)

pub hash_end64 : (h first second third : List ℕ) (k : ℕ) {s : List ℕ}
    → s ≡ S512.hash_after h (S512.padded_message (first ++ second ++ third)) k
    → k ≡ block_count64 (length first + length second + length third)
    → s ≡ S512.final_hash h (first ++ second ++ third)
hash_end64 h first second third k is count =
    let m = first ++ second ++ third in
    is ∙ ap (S512.hash_after h (S512.padded_message m)) (blocks_of64 m k _ (length-pieces first second third (length second) refl) count)

pub hash_end_sha1 : (first second third : List ℕ) (k : ℕ) {s : List ℕ}
    → s ≡ S1.hash_after (S1.padded_message (first ++ second ++ third)) k
    → k ≡ block_count32 (length first + length second + length third)
    → s ≡ S1.hash_after (S1.padded_message (first ++ second ++ third)) (length (S1.padded_message (first ++ second ++ third)) / 64)
hash_end_sha1 first second third k is count =
    let m = first ++ second ++ third in
    is ∙ ap (S1.hash_after (S1.padded_message m)) (blocks_of32 m k _ (length-pieces first second third (length second) refl) count)
