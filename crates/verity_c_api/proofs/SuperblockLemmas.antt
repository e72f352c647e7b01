-- Parameters that make a plan have a superblock, and those that are read of one write it again.
use Rattle.std.proofs.{Common.{◌≡◌, ◌≢◌, ◌*◌, ◌∙◌, ℕ, true, List, Some, None, Ok, nat_le, arith, ap, refl}, lemmas.Bool.Decides.nat_tests}
use Rattle.{std.specs.Prelude.nat_lt, verity_format.specs.Superblocks.{IsValidSuperblock, SuperblockFields, superblock_bytes}}
use Rattle.verity_format.{proofs.ReadLemmas.{hash_type_of-rule_of, superblock_of-none}, specs.CheckedSuperblocks.{hash_type_of, superblock_of}}
use Rattle.verity_plan.{specs.Plans.{IsPlan, PlanFields}, proofs.PlanLemmas.blocks-some}
use Rattle.verity_c_api.{proofs.{ParameterLemmas.{made-rule, one_value, plan-made}, ReadLemmas.tree-read}, specs.Answers.superblock_in}
use Rattle.verity_c_api.specs.{Parameters.{parameters_of, plan_of, tree_of}, declared.parameters.VerityParams.VerityParams}

-- there is a superblock of the parameters that make a plan
pub some_superblock : (params : VerityParams) (p : PlanFields) (uuid : List ℕ) → plan_of params ≡ Ok p → IsPlan p
    → superblock_of p.settings uuid p.blocks ≢ None
some_superblock params p uuid made h =
    λ none.
    let by = (plan-made params p made).settings in
    let rule = made-rule params p.settings by in
    let past = superblock_of-none by.hash_type p.settings uuid p.blocks rule (blocks-some p h) none in
    absurd (grind (arith, nat_tests, past, h.data_most))

-- the superblock of its own parts
pub superblock_of-own : (v : SuperblockFields) → IsValidSuperblock v → superblock_of v.tree v.uuid v.blocks ≡ Some v
superblock_of-own v valid =
    let some : nat_lt 0 v.blocks ≡ true = grind (arith, nat_tests, valid.some) in
    let within : nat_le (v.blocks * v.tree.data_block) 9223372036854775807 ≡ true =
    grind (arith, nat_tests, valid.within) in
    let typed : hash_type_of v.tree.rule ≡ Some v.hash_type =
    ap hash_type_of valid.of_type ∙ hash_type_of-rule_of v.hash_type in
    rw (typed, some, within) refl

-- parameters that are read of a superblock write it again
pub written_again : (v : SuperblockFields) (offset : ℕ) (p : PlanFields) → IsValidSuperblock v
    → plan_of (parameters_of v offset) ≡ Ok p
    → superblock_in (plan_of (parameters_of v offset)) v.uuid 512 ≡ Ok (superblock_bytes v)
written_again v offset p valid made =
    let params = parameters_of v offset in
    let makes = plan-made params p made in
    let read : tree_of params ≡ Ok v.tree = tree-read v offset valid in
    let tree : p.settings ≡ v.tree = one_value (tree_of params) p.settings v.tree makes.tree read in
    let bytes : (q : PlanFields) → q.settings ≡ v.tree → q.blocks ≡ v.blocks
    → superblock_in (Ok q) v.uuid 512 ≡ Ok (superblock_bytes v) =
    λ q settings blocks. rw (settings, blocks, superblock_of-own v valid) refl in
    rw made (bytes p tree makes.blocks)
