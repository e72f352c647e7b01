-- Settings that say what parameters of the library for C say are those of a plan that can be carried out, their parts
-- agree, and their superblock is the one that the library writes.
use Rattle.std.proofs.Common.{◌≡◌, ℕ, ◌*◌, ◌%◌, ◌==◌, ◌∙◌, Bool, true, false, [], Some, None, Ok, if◌then◌else◌, arith, ap, refl, sym}
use Rattle.{std.proofs.lemmas.Bool.Decides.nat_tests, verity_c_api.specs.ReadBack.HasFields, verity_format.specs.Superblocks.superblock_bytes}
use Rattle.verity_c_api.{specs.declared.parameters.VerityParams.VerityParams, proofs.ParameterLemmas.{made-rule, plan-made, planned-ok}}
use Rattle.verity_c_api.{proofs.SuperblockLemmas.superblock_of-own, specs.{Answers.{superblock_in, value_or}, Parameters.{plan_if, plan_of}}}
use Rattle.{device_laws.specs.BuiltDevices.AreSettingsOf, verity_plan.specs.{Plans.{PlanFields, base_of, offset_unit, plan_at}, Settings.rule_of}}
use Rattle.veritysetup.proofs.{ChosenPlanLemmas.{IsPlanFrom, plan_is}, SettingsLemmas.{AreValid, superblock-valid}}
use Rattle.veritysetup.specs.{Options.Settings.SettingsFields, Runs.HashDevice.superblock_for}

-- the hash offset is a multiple of its unit, and the plan begins where it says
record IsPlaced (params : VerityParams) (p : PlanFields) : Type 0 where
  aligned : params.hash_offset % offset_unit (params.no_superblock == 0) p.settings.hash_block ≡ 0
  from : IsPlanFrom p.settings params.data_blocks
      (base_of params.hash_offset (params.no_superblock == 0) p.settings.hash_block) p

plan-placed : (params : VerityParams) (p : PlanFields) → plan_of params ≡ Ok p → IsPlaced params p
plan-placed params p made =
    by_test (params.hash_offset % offset_unit (params.no_superblock == 0) p.settings.hash_block == 0) refl
    (rw (plan-made params p made).tree at made)
  where
    by_test : (aligned : Bool)
        → (params.hash_offset % offset_unit (params.no_superblock == 0) p.settings.hash_block == 0) ≡ aligned
        → plan_if (if aligned then Some params.hash_offset else None) p.settings params ≡ Ok p → IsPlaced params p
    by_test true test e = record {
      aligned = grind (arith, nat_tests, test);
      from = plan_is p.settings params.data_blocks _ p (sym (planned-ok
          (plan_at p.settings params.data_blocks params.hash_offset (params.no_superblock == 0)) p e));
    }
    by_test false test e = absurd cc

pub settings-valid : (params : VerityParams) (s : SettingsFields) → HasFields params → AreSettingsOf params s → AreValid s
settings-valid params s fields of =
    let made = plan-made params s.plan of.plan_is in
    let placed = plan-placed params s.plan of.plan_is in
    let typed : made.settings.hash_type ≡ s.hash_type = cc in
    record {
      planned = made.planned;
      agree = record {
        of_type = made-rule params s.plan.settings made.settings ∙ ap rule_of typed;
        whole = ap (λ (p : PlanFields). p.wanted) placed.from.plan_is
            ∙ ap (λ (n : ℕ). n * s.plan.settings.data_block) (sym made.blocks);
        based = rw (of.offset_is, of.superblock_is)
            (placed.from.from_is ∙ ap (λ (p : PlanFields). Some p.base) (sym placed.from.plan_is));
        aligned = rw (of.offset_is, of.superblock_is) placed.aligned;
      };
      uuid = rw of.uuid_is fields.uuid;
    }

-- the bytes that the library writes are those of the settings' superblock
pub superblock-written : (params : VerityParams) (s : SettingsFields) → AreValid s → AreSettingsOf params s
    → value_or [] (superblock_in (plan_of params) params.uuid 512) ≡ superblock_bytes (superblock_for s)
superblock-written params s valid of =
    rw (of.plan_is, sym of.uuid_is, superblock_of-own (superblock_for s) (superblock-valid s valid)) refl
