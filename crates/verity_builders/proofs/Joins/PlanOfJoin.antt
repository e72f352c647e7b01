-- The tree above the parts of a level is the levels from that one on of the whole tree.
use Rattle.std.proofs.Common.{◌≡◌, ℕ, zero, suc, ◌+◌, ◌-◌, ◌*◌, ◌^◌, ◌<◌, ◌≤◌, List, length, arith, sym, ◌∙◌, ap, inl, inr, refl, true, false}
use Rattle.std.{proofs.{lemmas.{Bool.{cases_lt, Decides.nat_tests}, Nat.pow-add}, Math.Nat.{mul-le-mul_left, one-le-pow}}, specs.Int.div_ceil}
use Rattle.{std.specs.Prelude.{Ok, Result, nat_eq, nat_le}, verity_io.specs.Writing.most_bytes}
use Rattle.verity_plan.specs.Plans.{IsPlan, PlanFields, blocks_from, end_place_of, level_count, level_size, plan_for_blocks}
use Rattle.verity_plan.specs.{PlanCounts.{level_count_of, count_under}, Settings.{TreeSettingsFields, fan}, declared.plan_fault.PlanFault.PlanFault}
use Rattle.verity_plan.proofs.CountLemmas.{IsLevelCount-level_count, IsLevelCount-same, div_ceil-div_ceil, div_ceil-le, div_ceil-mul, div_ceil-pos}
use Rattle.verity_plan.proofs.{CountLemmas.{le-div_ceil, mul_le}, FanLemmas.{fan-some, fan-two, some_data}, PlanLemmas.blocks-some}
use Rattle.{verity_plan.proofs.PlaceLemmas.{blocks_from-le, blocks_from-suc}, verity_builders.specs.{Parts.blocks_under, Steps.Parts.plan_of_join}}
use Rattle.verity_blocks.{specs.Levels.{blocks_up, data_blocks, up}, proofs.Levels.{CutBlocks.length-cut, LevelCounts.length-blocks_up}}

-- levels above a level are levels above the blocks below it
pub blocks_up-up : (s : TreeSettingsFields) (xs : List (List ℕ)) (m l : ℕ)
    → blocks_up s (blocks_up s xs m) l ≡ blocks_up s xs (m + l)
unfolding blocks_up
blocks_up-up s xs m zero = let e : m ≡ m + 0 = omega arith in ap (blocks_up s xs) e
blocks_up-up s xs m (suc l) =
    let e : suc (m + l) ≡ m + suc l = omega arith in ap (up s) (blocks_up-up s xs m l) ∙ ap (blocks_up s xs) e

-- a level's size by that of one below it
pub size-above : (f n m l : ℕ) → 0 < f → div_ceil (div_ceil n (f ^ m)) (f ^ l) ≡ div_ceil n (f ^ (m + l))
size-above f n m l some =
    div_ceil-div_ceil n (f ^ m) (f ^ l) (one-le-pow m f some) (one-le-pow l f some)
    ∙ ap (div_ceil n) (sym (pow-add f m l))

-- so many levels are left above a level
pub level_count-above : (f n m : ℕ) → 2 ≤ f → m ≤ level_count f n
    → level_count f (div_ceil n (f ^ m)) ≡ level_count f n - m
level_count-above f n m two within =
    let levels = level_count f n in
    let some : 0 < f = omega arith in
    let whole = IsLevelCount-level_count f n two in
    IsLevelCount-same f (div_ceil n (f ^ m)) _ _ (IsLevelCount-level_count f (div_ceil n (f ^ m)) two) (record {
      enough =
          let e : levels - m + m ≡ levels = omega (arith, within) in
          div_ceil-le n (f ^ m) (f ^ (levels - m)) (one-le-pow m f some)
          (omega (arith, whole.enough, pow-add f (levels - m) m, ap (λ (k : ℕ). f ^ k) e));
      least = λ k below. elim (cases_lt (f ^ k) (div_ceil n (f ^ m))) [
        | inl less ↦ less
        | inr past ↦
            let most = le-div_ceil n (f ^ m) (f ^ k) (one-le-pow m f some) past in
            absurd (omega (arith, most, pow-add f k m, whole.least (k + m) (omega (arith, below))))
      ];
    })

-- and so many hash blocks
blocks_from-above : (f n m l k : ℕ) → 0 < f → blocks_from f (div_ceil n (f ^ m)) l k ≡ blocks_from f n (m + l) k
blocks_from-above f n m l zero some = refl
blocks_from-above f n m l (suc k) some =
    let e : m + (l + 1) ≡ m + l + 1 = omega arith in
    let here : level_size f (div_ceil n (f ^ m)) l ≡ level_size f n (m + l) =
    size-above f n m (l + 1) some ∙ ap (λ (i : ℕ). div_ceil n (f ^ i)) e in
    let above : blocks_from f (div_ceil n (f ^ m)) (l + 1) k ≡ blocks_from f n (m + l + 1) k =
    blocks_from-above f n m (l + 1) k some ∙ ap (λ (i : ℕ). blocks_from f n i k) e in
    omega (arith, blocks_from-suc f (div_ceil n (f ^ m)) l k, blocks_from-suc f n (m + l) k, here, above)

-- a level has some parts, and no more than there are data blocks
pub parts-some : (p : PlanFields) (level : ℕ) → IsPlan p → 0 < count_under p level
parts-some p level planned =
    div_ceil-pos p.blocks (fan p.settings ^ level) (one-le-pow level (fan p.settings) (fan-some p.settings))
    (blocks-some p planned)

pub parts-most : (p : PlanFields) (level : ℕ) → count_under p level ≤ p.blocks
parts-most p level =
    let wide = one-le-pow level (fan p.settings) (fan-some p.settings) in
    div_ceil-le p.blocks (fan p.settings ^ level) p.blocks wide (omega (arith, mul-le-mul_left p.blocks wide))

-- the join's own levels
pub levels-of_join : (p : PlanFields) (level : ℕ) → IsPlan p → level ≤ level_count_of p
    → level_count_of (plan_of_join p level) ≡ level_count_of p - level
levels-of_join p level planned within =
    level_count-above (fan p.settings) p.blocks level (fan-two p.settings planned.valid) within

-- the plan of the join can be carried out
pub IsPlan-join : (p : PlanFields) (level : ℕ) → IsPlan p → level ≤ level_count_of p → IsPlan (plan_of_join p level)
IsPlan-join p level planned within =
    let s = p.settings in
    let size = s.data_block in
    let parts = count_under p level in
    let some = some_data s planned.valid in
    let levels = level_count_of p in
    record {
      valid = planned.valid;
      some = omega (arith, mul_le 1 parts size (parts-some p level planned), some);
      blocks_are = sym (div_ceil-mul parts size some);
      data_most = omega (arith, mul_le parts p.blocks size (parts-most p level), planned.data_most);
      hash_most =
          let e : level + 0 ≡ 0 + level = omega arith in
          let own : blocks_from (fan s) parts 0 (level_count (fan s) parts)
          ≡ blocks_from (fan s) p.blocks (0 + level) (levels - level) =
          ap (blocks_from (fan s) parts 0) (levels-of_join p level planned within)
          ∙ blocks_from-above (fan s) p.blocks level 0 (levels - level) (fan-some s)
          ∙ ap (λ (i : ℕ). blocks_from (fan s) p.blocks i (levels - level)) e in
          let few = blocks_from-le (fan s) p.blocks 0 levels level within in
          let end : end_place_of (plan_of_join p level) ≤ end_place_of p = omega (arith, own, few) in
          omega (
            arith,
            mul_le (end_place_of (plan_of_join p level)) (end_place_of p) s.hash_block end,
            planned.hash_most,
          );
    }

-- and it is what the code asks for
pub plan-of_join : (p : PlanFields) (level : ℕ) → IsPlan p → level ≤ level_count_of p
    → plan_for_blocks p.settings (count_under p level) 0 ≡ Ok (plan_of_join p level)
plan-of_join p level planned within =
    let own = plan_of_join p level in
    let h = IsPlan-join p level planned within in
    let some : nat_eq own.blocks 0 ≡ false = grind (arith, nat_tests, parts-some p level planned) in
    let blocks_room : nat_le (own.blocks * own.settings.data_block) most_bytes ≡ true =
    grind (arith, nat_tests, h.data_most) in
    let area_room : nat_le (end_place_of own * own.settings.hash_block) most_bytes ≡ true =
    grind (arith, nat_tests, h.hash_most) in
    rw (some, blocks_room, area_room) refl

-- the plan that the code is given
pub plan-found : (p : PlanFields) (s : TreeSettingsFields) (level size : ℕ) (found : Result PlanFields PlanFault)
    → IsPlan p
    → level ≤ level_count_of p → s ≡ p.settings → size ≡ count_under p level → found ≡ plan_for_blocks s size 0
    → found ≡ Ok (plan_of_join p level)
plan-found p s level size found planned within settings many is =
    is ∙ rw (settings, many) (plan-of_join p level planned within)

-- as many blocks are below the level as it has parts
pub length-under : (p : PlanFields) (level : ℕ) (bytes : List ℕ)
    → length (blocks_under p level bytes) ≡ count_under p level
length-under p level bytes =
    length-blocks_up p.settings (data_blocks p bytes) level (fan-some p.settings)
    ∙ ap (λ (n : ℕ). div_ceil n (fan p.settings ^ level)) (length-cut p.settings p.blocks p.wanted bytes)
