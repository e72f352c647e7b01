-- Plans: their levels and places, the limits that they keep, and which ones are made.
use Rattle.std.{proofs.Common.{◌≡◌, ℕ, cond, zero, suc, ◌+◌, ◌*◌, ◌/◌, ◌^◌, ◌<◌, ◌≤◌, arith, sym, ◌∙◌, ap, refl, inl, inr, subst}, specs.Int.div_ceil}
use Rattle.std.proofs.{lemmas.{Bool.{cases_lt, Decides.nat_tests}, Nat.{div-add-mod', mod_below}}, Math.Nat.{div-mul-le_self, zero-div}}
use Rattle.std.proofs.Math.Nat.{pow-suc, pow-le-pow_left, pow-le-pow_right, one-le-pow, mul-le-mul_left, mul-le-mul_right, mul-le-mul}
use Rattle.std.{proofs.Math.Bool.and-false, specs.Prelude.{◌==◌, Bool, nat_le, nat_eq, true, false, Ok, Err, Option, Some, None}}
use Rattle.verity_io.specs.Writing.{most_bytes}
use Rattle.verity_plan.specs.Plans.{level_count, level_size, plan_from, checked_plan, PlanFields, IsPlan, HasBlock, start_byte_of, end_place_of}
use Rattle.verity_plan.specs.{Plans.{has_room, block_count}, PlanCounts.{place_of, level_count_of, store_length_of, most_level_count}}
use Rattle.verity_plan.specs.{declared.plan_fault.PlanFault.TheVariants.{NoData, TooLarge}, Settings.{IsValid, TreeSettingsFields, fan}}
use Rattle.verity_plan.proofs.CountLemmas.{div_ceil-div_ceil, IsLevelCount-level_count, le-div_ceil, div_ceil-le, div_ceil-mul, div_ceil-pos}
use Rattle.verity_plan.proofs.{FanLemmas.{fan-two, some_data, two_slots, digest_len_of-pos, data_most, hash_most}, PlaceLemmas.PlacesAreOnce-all}

-- one level more
pub count-more : (fan n k count : ℕ) → 0 < fan → count ≡ div_ceil n (fan ^ k) → div_ceil count fan ≡ level_size fan n k
count-more fan n k count some is =
    let one : k + 1 ≡ suc k = omega arith in
    let power : fan ^ k * fan ≡ fan ^ (k + 1) = sym (ap (λ (m : ℕ). fan ^ m) one ∙ pow-suc fan k) in
    ap (λ (m : ℕ). div_ceil m fan) is
    ∙ div_ceil-div_ceil n (fan ^ k) fan (omega (arith, one-le-pow k fan some)) some
    ∙ ap (λ (m : ℕ). div_ceil n m) power

-- if more than one block is left, there is one more level
pub levels-more : (fan n k left : ℕ) → 2 ≤ fan → left ≡ div_ceil n (fan ^ k) → 1 < left → k < level_count fan n
levels-more fan n k left two is more =
    let count = IsLevelCount-level_count fan n two in
    let some : 0 < fan = omega arith in
    elim (cases_lt k (level_count fan n)) [
      | inl below ↦ below
      | inr past ↦
          let power : fan ^ level_count fan n ≤ fan ^ k = pow-le-pow_right some past in
          absurd (omega (
            arith,
            count.enough,
            power,
            is,
            more,
            div_ceil-le n (fan ^ k) 1 (omega (arith, one-le-pow k fan some)) (omega (arith, count.enough, power)),
          ))
    ]

-- if one block is left, there are no more levels
pub levels-all : (fan n k left : ℕ) → 2 ≤ fan → left ≡ div_ceil n (fan ^ k) → left ≤ 1 → level_count fan n ≤ k
levels-all fan n k left two is one =
    let count = IsLevelCount-level_count fan n two in
    let some : 0 < fan = omega arith in
    let enough : n ≤ 1 * fan ^ k =
    le-div_ceil n (fan ^ k) 1 (omega (arith, one-le-pow k fan some)) (omega (arith, is, one)) in
    elim (cases_lt k (level_count fan n)) [
      | inl below ↦ absurd (omega (arith, count.least k below, enough))
      | inr past ↦ past
    ]

-- the data blocks of a plan are at most as many as their bytes
pub blocks_few : (p : PlanFields) → IsPlan p → p.blocks ≤ most_bytes
blocks_few p h =
    let some : 1 ≤ p.settings.data_block = omega (arith, some_data p.settings h.valid) in
    omega (arith, mul-le-mul_left p.blocks some, h.data_most)

-- some data blocks have at most 63 levels
pub level_count-few : (f n : ℕ) → 2 ≤ f → n ≤ most_bytes → level_count f n ≤ 63
level_count-few f n two few =
    let count = IsLevelCount-level_count f n two in
    elim (cases_lt 63 (level_count f n)) [
      | inl more ↦ absurd (omega (arith, count.least 63 more, pow-le-pow_left two 63, few))
      | inr most ↦ most
    ]

-- a plan has at most 63 levels
pub levels_few : (p : PlanFields) → IsPlan p → level_count_of p ≤ 63
levels_few p h = level_count-few (fan p.settings) p.blocks (fan-two p.settings h.valid) (blocks_few p h)

-- more data blocks have no fewer levels
pub level_count-le : (f n m : ℕ) → 2 ≤ f → n ≤ m → level_count f n ≤ level_count f m
level_count-le f n m two le =
    let few = IsLevelCount-level_count f n two in
    let many = IsLevelCount-level_count f m two in
    elim (cases_lt (level_count f m) (level_count f n)) [
      | inl more ↦ absurd (omega (arith, few.least (level_count f m) more, many.enough, le))
      | inr most ↦ most
    ]

-- levels that have room for the data blocks are enough
pub level_count-least : (f n l : ℕ) → 2 ≤ f → n ≤ f ^ l → level_count f n ≤ l
level_count-least f n l two room = elim (cases_lt l (level_count f n)) [
  | inl more ↦ absurd (omega (arith, (IsLevelCount-level_count f n two).least l more, room))
  | inr most ↦ most
]

-- a plan has a data block
pub blocks-some : (p : PlanFields) → IsPlan p → 0 < p.blocks
blocks-some p planned =
    omega (
      arith,
      planned.blocks_are,
      div_ceil-pos p.wanted p.settings.data_block (some_data p.settings planned.valid) planned.some,
    )

-- a number past a quotient is past it as a product, and one within it is within it
pub past-quotient : (m d n : ℕ) → 0 < d → m / d < n → m < n * d
past-quotient m d n some past =
    let next : m / d + 1 ≤ n = omega arith in
    omega (arith, mul-le-mul_right d next, div-add-mod' m d, mod_below m d some)

pub within-quotient : (m d n : ℕ) → n ≤ m / d → n * d ≤ m
within-quotient m d n within = omega (arith, mul-le-mul_right d within, div-mul-le_self m d)

-- the place after all blocks is not before the first
pub base-le-end : (p : PlanFields) → p.base ≤ end_place_of p
base-le-end p = omega arith

-- no plan for areas past the limit
pub checked_plan-large : (p : PlanFields) → 0 < p.blocks → has_room p ≡ false → checked_plan p ≡ Err TooLarge
checked_plan-large p some none =
    let tested : nat_eq p.blocks 0 ≡ false = grind (arith, nat_tests, some) in
    rw (tested, none) refl

-- a plan that isn't made for want of data has no data blocks
pub no_blocks : (asked : PlanFields) → Err NoData ≡ checked_plan asked → asked.blocks ≡ 0
no_blocks asked is =
    elim (cases_lt 0 asked.blocks) [
      | inl some ↦
          let tested : nat_eq asked.blocks 0 ≡ false = grind (arith, nat_tests, some) in
          absurd (none_by (has_room asked) (rw tested at is))
      | inr none ↦ omega (arith, none)
    ]
  where
    none_by : (room : Bool) → Err NoData ≡ cond room (Ok asked) (Err TooLarge) → ⊥
    none_by true is = cc
    none_by false is = cc

pub has_room-data : (p : PlanFields) → most_bytes < p.blocks * p.settings.data_block → has_room p ≡ false
has_room-data p past = grind (arith, nat_tests, past)

pub has_room-hash : (p : PlanFields) → most_bytes < end_place_of p * p.settings.hash_block → has_room p ≡ false
has_room-hash p past =
    let tested : nat_le (end_place_of p * p.settings.hash_block) most_bytes ≡ false = grind (arith, nat_tests, past) in
    rw tested (and-false _)

-- a hash block has a byte
pub some_hash : (p : PlanFields) → IsPlan p → 1 ≤ p.settings.hash_block
some_hash p h = omega (arith, two_slots p.settings h.valid, digest_len_of-pos p.settings.algorithm)

-- the end fits a number of 63 bits
pub end_few : (p : PlanFields) → IsPlan p → end_place_of p ≤ most_bytes
end_few p h = omega (arith, mul-le-mul_left (end_place_of p) (some_hash p h), h.hash_most)

-- a store's length is a small number
pub store_few : (p : PlanFields) → IsPlan p → store_length_of p ≤ 2 ^ 26
store_few p h =
    omega (
      arith,
      mul-le-mul (levels_few p h) (hash_most p.settings h.valid),
      hash_most p.settings h.valid,
      data_most p.settings h.valid,
    )

-- some blocks have some bytes
pub some_wanted : (wanted size blocks : ℕ) → blocks ≡ div_ceil wanted size → 0 < blocks → 0 < wanted
some_wanted zero size blocks is some = absurd (omega (arith, is, zero-div size))
some_wanted (suc wanted) size blocks is some = omega arith

-- a hash block is within the limit
pub start-room : (p : PlanFields) → IsPlan p → (l j : ℕ) → HasBlock p l j
    → start_byte_of p l j + p.settings.hash_block ≤ most_bytes
start-room p h l j here =
    let within = (PlacesAreOnce-all (fan p.settings) p.blocks p.base).within l j here in
    let step : place_of p l j + 1 ≤ end_place_of p = omega (arith, within.1) in
    omega (arith, mul-le-mul_right p.settings.hash_block step, h.hash_most)

-- a plan that is made is the one that was asked for
pub planned_is : (asked plan : PlanFields) → Ok plan ≡ checked_plan asked → plan ≡ asked
planned_is asked plan is = by_tests (asked.blocks == 0) (has_room asked) is
  where
    by_tests : (none room : Bool) → Ok plan ≡ cond none (Err NoData) (cond room (Ok asked) (Err TooLarge))
        → plan ≡ asked
    by_tests true room e = absurd cc
    by_tests false true e = cc
    by_tests false false e = absurd cc

-- a plan that can be carried out is made
pub checked_plan-planned : (p : PlanFields) → IsPlan p → checked_plan p ≡ Ok p
checked_plan-planned p planned =
    let none : nat_eq p.blocks 0 ≡ false = grind (arith, nat_tests, blocks-some p planned) in
    let of_data : nat_le (p.blocks * p.settings.data_block) most_bytes ≡ true =
    grind (arith, nat_tests, planned.data_most) in
    let of_hash : nat_le (end_place_of p * p.settings.hash_block) most_bytes ≡ true =
    grind (arith, nat_tests, planned.hash_most) in
    rw (none, of_data, of_hash) refl

-- a plan that is made can be carried out
pub IsPlan-checked_plan : (asked p : PlanFields) → checked_plan asked ≡ Ok p → IsValid asked.settings
    → asked.blocks ≡ block_count asked.settings asked.wanted → IsPlan p
IsPlan-checked_plan asked p made valid counted =
    subst IsPlan (sym (planned_is asked p (sym made))) (by_tests (asked.blocks == 0) (has_room asked) refl refl made)
  where
    by_tests : (none room : Bool) → (asked.blocks == 0) ≡ none → has_room asked ≡ room
        → cond none (Err NoData) (cond room (Ok asked) (Err TooLarge)) ≡ Ok p → IsPlan asked
    by_tests true room some fits e = absurd cc
    by_tests false false some fits e = absurd cc
    by_tests false true some fits e =
        let more : 0 < asked.blocks = grind (arith, nat_tests, some) in
        record {
          valid = valid;
          some = some_wanted asked.wanted asked.settings.data_block asked.blocks counted more;
          blocks_are = counted;
          data_most = grind (arith, nat_tests, fits);
          hash_most = grind (arith, nat_tests, fits);
        }

-- and so can one that is made for whole data blocks
pub IsPlan-plan_from : (s : TreeSettingsFields) (blocks : ℕ) (base : Option ℕ) (p : PlanFields) → IsValid s
    → plan_from s blocks base ≡ Ok p → IsPlan p
IsPlan-plan_from s blocks (Some base) p valid made =
    IsPlan-checked_plan _ p made valid (sym (div_ceil-mul blocks s.data_block (some_data s valid)))
IsPlan-plan_from s blocks None p valid made = by_test (blocks == 0) made
  where
    by_test : (none : Bool) → cond none (Err NoData) (Err TooLarge) ≡ Ok p → IsPlan p
    by_test true e = absurd cc
    by_test false e = absurd cc

-- no plan has more levels than the largest tree of its settings
pub levels_most : (p : PlanFields) → IsPlan p → level_count_of p ≤ most_level_count p.settings
levels_most p h =
    let some : 0 < p.settings.data_block = some_data p.settings h.valid in
    let few : p.blocks ≤ most_bytes / p.settings.data_block =
    elim (cases_lt (most_bytes / p.settings.data_block) p.blocks) [
      | inl past ↦ absurd (omega (arith, past-quotient most_bytes p.settings.data_block p.blocks some past, h.data_most))
      | inr within ↦ within
    ] in
    level_count-le (fan p.settings) p.blocks (most_bytes / p.settings.data_block) (fan-two p.settings h.valid) few
