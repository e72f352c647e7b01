-- Valid settings: their superblock is valid and ends before the hash area, and their plan is made of their parts.
use Rattle.std.proofs.Common.{◌≡◌, ℕ, ◌+◌, ◌*◌, ◌≤◌, Bool, true, false, length, Some, None, Ok, nat_le, cond, arith, sym, ◌∙◌, ap}
use Rattle.{std.specs.Int.div_ceil, verity_io.specs.Writing.most_bytes, verity_format.specs.Superblocks.IsValidSuperblock}
use Rattle.verity_plan.{specs.Plans.{IsPlan, PlanFields, base_of, checked_plan, plan_at, plan_from}, proofs.CountLemmas.le-div_ceil}
use Rattle.verity_plan.proofs.PlanLemmas.{blocks-some, checked_plan-planned, some_hash}
use Rattle.veritysetup.specs.{Options.Settings.{PartsAgree, SettingsFields}, Runs.HashDevice.superblock_for}

-- what settings keep to: a plan that can be carried out, parts that agree, a UUID of 16 bytes
pub record AreValid (s : SettingsFields) : Type 0 where
  pub planned : IsPlan s.plan
  pub agree : PartsAgree s
  pub uuid : length s.uuid ≡ 16

-- ---- the superblock

pub superblock-valid : (s : SettingsFields) → AreValid s → IsValidSuperblock (superblock_for s)
superblock-valid s valid = record {
  tree = valid.planned.valid;
  of_type = valid.agree.of_type;
  uuid = valid.uuid;
  some = blocks-some s.plan valid.planned;
  within = valid.planned.data_most;
}

-- the superblock ends before the hash area
pub superblock-before : (s : SettingsFields) → AreValid s → s.superblock ≡ true
    → s.offset + 512 ≤ s.plan.base * s.plan.settings.hash_block
superblock-before s valid has =
    let size = s.plan.settings.hash_block in
    let based : base_of s.offset true size ≡ Some s.plan.base =
    ap (λ (b : Bool). base_of s.offset b size) (sym has) ∙ valid.agree.based in
    by_test (nat_le (s.offset + 512) most_bytes) based
  where
    by_test : (b : Bool)
        → cond b (Some (div_ceil (s.offset + 512) s.plan.settings.hash_block)) None ≡ Some s.plan.base
        → s.offset + 512 ≤ s.plan.base * s.plan.settings.hash_block
    by_test true e =
        let most : div_ceil (s.offset + 512) s.plan.settings.hash_block ≡ s.plan.base = cc in
        le-div_ceil (s.offset + 512) s.plan.settings.hash_block s.plan.base
        (some_hash s.plan valid.planned) (omega (arith, most))
    by_test false e = cc

-- ---- the plan

-- a plan for whole blocks, by its parts
plan_from-parts : (p : PlanFields) → p.wanted ≡ p.blocks * p.settings.data_block
    → plan_from p.settings p.blocks (Some p.base) ≡ checked_plan p
plan_from-parts p whole =
    ap (λ (n : ℕ). checked_plan (record { settings = p.settings; blocks = p.blocks; wanted = n; base = p.base }))
    (sym whole)

-- the plan of settings is made of their parts
pub plan-made : (s : SettingsFields) → AreValid s
    → plan_at s.plan.settings s.plan.blocks s.offset s.superblock ≡ Ok s.plan
plan-made s valid =
    let p = s.plan in
    ap (plan_from p.settings p.blocks) valid.agree.based
    ∙ plan_from-parts p valid.agree.whole
    ∙ checked_plan-planned p valid.planned
