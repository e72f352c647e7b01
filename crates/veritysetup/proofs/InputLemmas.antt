-- What verify goes by is one plan and one root hash, or one reason to refuse, and its plan can be carried out.
use Rattle.std.proofs.Common.{◌≡◌, ℕ, true, List, Some, None, sym, subst, ◌∙◌, ap, refl}
use Rattle.verity_format.specs.{CheckedSuperblocks.superblock_fault, Superblocks.{IsSuperblock, SuperblockFields}}
use Rattle.verity_format.{specs.declared.super_fault.SuperFault.SuperFault, proofs.SuperblockLemmas.{one-superblock, says-fault_none}}
use Rattle.verity_plan.{specs.Plans.{IsPlan, PlanFields, base_of, plan_at}, proofs.PlanLemmas.IsPlan-plan_from}
use Rattle.veritysetup.specs.{Faults.side_of, Options.Settings.read_root, Runs.{GivenBack.IsPlanIfGiven, HashDevice.superblock_at, Verified.Trusts}}
use Rattle.veritysetup.specs.{Runs.{SameVerdicts.HaveOneSuperblock, Verify.Refuses}, declared.fault.Fault.Fault}
use Rattle.veritysetup.specs.declared.runs.verify_input.VerifyInput.{VerifyInput, TheVariants.{Stored, Given}}
use Rattle.veritysetup.specs.declared.fault.Fault.TheVariants as fault
use Rattle.veritysetup.specs.declared.options.option_fault.OptionFault.TheVariants as option

-- ---- what an input and a device give is one

-- superblocks that are read there are one
one-stored : (offset : ℕ) (device : List ℕ) (v w : SuperblockFields) → IsSuperblock (superblock_at offset device) v
    → IsSuperblock (superblock_at offset device) w → v ≡ w
one-stored offset device v w = one-superblock (superblock_at offset device) v w

-- one plan and one root hash
pub trusted-one : (input : VerifyInput) (device : List ℕ) (p q : PlanFields) (root digest : List ℕ)
    → Trusts input device p root → Trusts input device q digest → (p ≡ q) × (root ≡ digest)
trusted-one (Stored offset text) device p q root digest this that =
    let one = one-stored offset device this.fields that.fields this.superblock that.superblock in
    let plans = sym this.plan_is
    ∙ ap (λ (v : SuperblockFields). plan_at v.tree v.blocks offset true) one
    ∙ that.plan_is in
    let roots = sym this.root_is
    ∙ ap (λ (v : SuperblockFields). read_root v.tree.algorithm text.now) one
    ∙ that.root_is in
    (cc, cc)
trusted-one (Given settings) device p q root digest this that =
    let roots = sym this.1 ∙ that.1 in
    (this.0 ∙ sym that.0, cc)

-- bytes that are a superblock fail no test
never-both : (offset : ℕ) (device : List ℕ) (v : SuperblockFields) (cause : SuperFault)
    → IsSuperblock (superblock_at offset device) v → superblock_fault (superblock_at offset device) ≡ Some cause → ⊥
never-both offset device v cause said failed =
    let none = says-fault_none (superblock_at offset device) v said in
    cc

-- what gives a plan and a root hash isn't refused
pub trusted-unrefused : (input : VerifyInput) (device : List ℕ) (plan : PlanFields) (root : List ℕ) (cause : Fault)
    → Trusts input device plan root → Refuses input device cause → cause ≡ fault.SuperblockUnread
trusted-unrefused (Stored offset text) device plan root fault.SuperblockUnread this refused = refl
trusted-unrefused (Stored offset text) device plan root (fault.Superblock cause) this refused =
    absurd (never-both offset device this.fields cause this.superblock refused)
trusted-unrefused (Stored offset text) device plan root fault.HashAreaTooLarge this refused =
    let one = one-stored offset device this.fields refused.fields this.superblock refused.superblock in
    let made = sym this.plan_is
    ∙ ap (λ (v : SuperblockFields). plan_at v.tree v.blocks offset true) one
    ∙ refused.no_plan in
    cc
trusted-unrefused (Stored offset text) device plan root (fault.Option option.BadRoot) this refused =
    let one = one-stored offset device this.fields refused.fields this.superblock refused.superblock in
    let read = sym this.root_is
    ∙ ap (λ (v : SuperblockFields). read_root v.tree.algorithm text.now) one
    ∙ refused.no_root in
    cc
trusted-unrefused (Stored offset text) device plan root other this refused = absurd refused
trusted-unrefused (Given settings) device plan root cause this refused =
    let none = sym this.1 ∙ refused.1 in
    cc

-- one reason to refuse, if no read failed
pub refused-one : (input : VerifyInput) (device : List ℕ) (cause other : Fault) → side_of cause ≡ None
    → side_of other ≡ None → Refuses input device cause → Refuses input device other → cause ≡ other
refused-one (Stored offset text) device fault.SuperblockUnread other called _ this that = cc
refused-one (Stored offset text) device cause fault.SuperblockUnread _ called this that = cc
refused-one (Stored offset text) device (fault.Superblock a) (fault.Superblock b) _ _ this that =
    let same = sym this ∙ that in
    cc
refused-one (Stored offset text) device (fault.Superblock a) fault.HashAreaTooLarge _ _ this that =
    absurd (never-both offset device that.fields a that.superblock this)
refused-one (Stored offset text) device (fault.Superblock a) (fault.Option option.BadRoot) _ _ this that =
    absurd (never-both offset device that.fields a that.superblock this)
refused-one (Stored offset text) device fault.HashAreaTooLarge (fault.Superblock b) _ _ this that =
    absurd (never-both offset device this.fields b this.superblock that)
refused-one (Stored offset text) device (fault.Option option.BadRoot) (fault.Superblock b) _ _ this that =
    absurd (never-both offset device this.fields b this.superblock that)
refused-one (Stored offset text) device fault.HashAreaTooLarge fault.HashAreaTooLarge _ _ this that =
    refl
refused-one (Stored offset text) device (fault.Option option.BadRoot) (fault.Option option.BadRoot) _ _ this that =
    refl
refused-one (Stored offset text) device fault.HashAreaTooLarge (fault.Option option.BadRoot) _ _ this that =
    let one = one-stored offset device this.fields that.fields this.superblock that.superblock in
    let made = sym this.no_plan
    ∙ ap (λ (v : SuperblockFields). plan_at v.tree v.blocks offset true) one
    ∙ that.plan_is in
    cc
refused-one (Stored offset text) device (fault.Option option.BadRoot) fault.HashAreaTooLarge _ _ this that =
    let one = one-stored offset device that.fields this.fields that.superblock this.superblock in
    let made = sym that.no_plan
    ∙ ap (λ (v : SuperblockFields). plan_at v.tree v.blocks offset true) one
    ∙ this.plan_is in
    cc
refused-one (Stored offset text) device (fault.Superblock a) other _ _ this that = absurd that
refused-one (Stored offset text) device fault.HashAreaTooLarge other _ _ this that = absurd that
refused-one (Stored offset text) device (fault.Option option.BadRoot) other _ _ this that = absurd that
refused-one (Stored offset text) device cause other _ _ this that = absurd this
refused-one (Given settings) device cause other _ _ this that = this.0 ∙ sym that.0

-- ---- devices with one superblock

pub trusted-there : (input : VerifyInput) (device other : List ℕ) (plan : PlanFields) (root : List ℕ)
    → HaveOneSuperblock input device other → Trusts input device plan root → Trusts input other plan root
trusted-there (Stored offset text) device other plan root same this = record {
  fields = this.fields;
  superblock = subst (λ (bytes : List ℕ). IsSuperblock bytes this.fields) same this.superblock;
  plan_is = this.plan_is;
  root_is = this.root_is;
}
trusted-there (Given settings) device other plan root same this = this

pub refused-there : (input : VerifyInput) (device other : List ℕ) (cause : Fault) → HaveOneSuperblock input device other
    → Refuses input device cause → Refuses input other cause
refused-there (Stored offset text) device other fault.SuperblockUnread same this = this
refused-there (Stored offset text) device other (fault.Superblock cause) same this =
    subst (λ (bytes : List ℕ). superblock_fault bytes ≡ Some cause) same this
refused-there (Stored offset text) device other fault.HashAreaTooLarge same this = record {
  fields = this.fields;
  superblock = subst (λ (bytes : List ℕ). IsSuperblock bytes this.fields) same this.superblock;
  cause = this.cause;
  no_plan = this.no_plan;
}
refused-there (Stored offset text) device other (fault.Option option.BadRoot) same this = record {
  fields = this.fields;
  superblock = subst (λ (bytes : List ℕ). IsSuperblock bytes this.fields) same this.superblock;
  plan = this.plan;
  plan_is = this.plan_is;
  no_root = this.no_root;
}
refused-there (Stored offset text) device other cause same this = absurd this
refused-there (Given settings) device other cause same this = this

-- ---- the plan of a run

-- the plan that verify goes by can be carried out
pub trusted-planned : (input : VerifyInput) (device : List ℕ) (plan : PlanFields) (digest : List ℕ) → IsPlanIfGiven input
    → Trusts input device plan digest → IsPlan plan
trusted-planned (Given settings) device plan digest planned trusted = subst IsPlan (sym trusted.0) planned
trusted-planned (Stored offset text) device plan digest planned trusted =
    IsPlan-plan_from trusted.fields.tree trusted.fields.blocks (base_of offset true trusted.fields.tree.hash_block) plan
    trusted.superblock.valid.tree trusted.plan_is
