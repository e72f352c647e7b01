-- What is read of a superblock that parameters write are these parameters.
use Rattle.std.proofs.Common.{◌≡◌, ℕ, ◌-◌, ◌≤◌, true, List, length, take, replicate, Option, Some, None, Result, Ok, arith, ap, refl, sym, subst, ◌∙◌}
use Rattle.std.{proofs.{Common.{inl, inr}, lemmas.{Bool.{eqb-true, Decides.nat_tests}, List.{length-take-le, take_at}}}, specs.Prelude.◌==◌}
use Rattle.verity_hash.specs.{Hashing.with_zeros, declared.algorithm.Algorithm.{Algorithm, TheVariants.{Sha1, Sha224, Sha256, Sha384, Sha512}}}
use Rattle.verity_format.proofs.{SuperblockLemmas.{one-superblock, says-fault_none}, NameLemmas.{chosen, numbered-is}}
use Rattle.verity_format.{proofs.TextLemmas.{length-superblock_bytes, text_says}, specs.declared.super_fault.SuperFault.SuperFault}
use Rattle.verity_format.specs.{Superblocks.{IsValidSuperblock, SuperblockFields, superblock_bytes}, CheckedSuperblocks.superblock_fault}
use Rattle.verity_plan.{specs.{Plans.{PlanFields, multiple_of, offset_unit}, Settings.{TreeSettingsFields, rule_of}}, proofs.PlanLemmas.blocks-some}
use Rattle.{verity_plan.specs.declared.hash_type.HashType.HashType, verity_c_api.specs.declared.parameters.VerityParams.VerityParams}
use Rattle.verity_c_api.proofs.{ParameterLemmas.{AreMadeBy, MakesPlan, made-rule, plan-made, settings_are}, SuperblockLemmas.superblock_of-own}
use Rattle.verity_c_api.specs.{Answers.{ReadsParameters, superblock_in}, ReadBack.{HasFields, IsReadBack, read_back}, declared.fault.Fault.Fault}
use Rattle.verity_c_api.specs.Parameters.{algorithm_of, number_of, parameters_of, plan_by, plan_if, plan_of, tree_of}

-- the number of the hash function of a number is that number
number_of-algorithm_of : (number : ℕ) (algorithm : Algorithm) → algorithm_of number ≡ Some algorithm
    → number_of algorithm ≡ number
number_of-algorithm_of number algorithm e =
    elim (chosen (number == 1) Sha256 _ algorithm e) [
      | inl here ↦ ap number_of (sym here.1) ∙ sym (eqb-true number 1 here.0)
      | inr e2 ↦ elim (chosen (number == 2) Sha512 _ algorithm e2) [
        | inl here ↦ ap number_of (sym here.1) ∙ sym (eqb-true number 2 here.0)
        | inr e3 ↦ elim (chosen (number == 3) Sha1 _ algorithm e3) [
          | inl here ↦ ap number_of (sym here.1) ∙ sym (eqb-true number 3 here.0)
          | inr e4 ↦ elim (chosen (number == 4) Sha224 _ algorithm e4) [
            | inl here ↦ ap number_of (sym here.1) ∙ sym (eqb-true number 4 here.0)
            | inr e5 ↦ elim (chosen (number == 5) Sha384 None algorithm e5) [
              | inl here ↦ ap number_of (sym here.1) ∙ sym (eqb-true number 5 here.0)
              | inr none ↦ absurd cc
            ]
          ]
        ]
      ]
    ]

-- the settings that are asked for
asked : VerityParams → Algorithm → HashType → TreeSettingsFields
asked params algorithm hash_type = record {
  algorithm = algorithm;
  rule = rule_of hash_type;
  salt = take params.salt_size params.salt;
  data_block = params.data_block_size;
  hash_block = params.hash_block_size;
}

length-counting : (params : VerityParams) (p : PlanFields) → HasFields params → AreMadeBy params p.settings
    → length (take params.salt_size params.salt) ≡ params.salt_size
length-counting params p fields made =
    let fits = made.fits in
    let short : params.salt_size ≤ 256 = grind (arith, nat_tests, fits) in
    length-take-le params.salt_size params.salt (omega (arith, short, fields.salt))

-- the superblock that parameters write
superblock_by : VerityParams → PlanFields → HashType → SuperblockFields
superblock_by params p hash_type =
    record { hash_type = hash_type; tree = p.settings; uuid = params.uuid; blocks = p.blocks }

superblock-valid : (params : VerityParams) (p : PlanFields) → HasFields params → (made : MakesPlan params p)
    → IsValidSuperblock (superblock_by params p made.settings.hash_type)
unfolding superblock_by
superblock-valid params p fields made = record {
  tree = made.planned.valid;
  of_type = made-rule params p.settings made.settings;
  uuid = fields.uuid;
  some = blocks-some p made.planned;
  within = made.planned.data_most;
}

superblock-written : (params : VerityParams) (p : PlanFields) → HasFields params → (made : MakesPlan params p)
    → plan_of params ≡ Ok p
    → superblock_in (plan_of params) params.uuid 512
    ≡ Ok (superblock_bytes (superblock_by params p made.settings.hash_type))
unfolding superblock_by
superblock-written params p fields made is =
    let v = superblock_by params p made.settings.hash_type in
    rw (is, superblock_of-own v (superblock-valid params p fields made)) refl

-- the parameters that it says
parameters-back : (params : VerityParams) (p : PlanFields) (offset : ℕ) → HasFields params → (made : MakesPlan params p)
    → parameters_of (superblock_by params p made.settings.hash_type) offset ≡ read_back params offset
unfolding superblock_by asked
parameters-back params p offset fields made =
    let by = made.settings in
    let tree : p.settings ≡ asked params by.algorithm by.hash_type = settings_are _ p.settings by.made in
    let with : TreeSettingsFields → ℕ → VerityParams =
    λ s n. parameters_of (record { hash_type = by.hash_type; tree = s; uuid = params.uuid; blocks = n }) offset in
    ap (λ (s : TreeSettingsFields). with s p.blocks) tree
    ∙ ap (with (asked params by.algorithm by.hash_type)) made.blocks
    ∙ rw (
      number_of-algorithm_of params.hash_algorithm by.algorithm by.numbered,
      sym (numbered-is params.hash_type by.hash_type by.typed),
      length-counting params p fields by,
    ) refl

-- what is read of its bytes
pub read-back : (params : VerityParams) (p : PlanFields) → HasFields params → plan_of params ≡ Ok p
    → (bytes : List ℕ) × IsReadBack params bytes
read-back params p fields is =
    let made = plan-made params p is in
    let v = superblock_by params p made.settings.hash_type in
    let valid = superblock-valid params p fields made in
    let bytes = superblock_bytes v in
    let said = text_says v valid in
    let none : superblock_fault bytes ≡ None = says-fault_none bytes v said in (
      bytes,
      record {
        written = superblock-written params p fields made is;
        whole = length-superblock_bytes v valid;
        right = none;
        read = λ offset before after reads.
            let found =
            subst (λ (fault : Option SuperFault). ReadsParameters fault bytes offset before after) none reads in
            found.parameters
            ∙ ap (λ (w : SuperblockFields). parameters_of w offset)
            (one-superblock bytes found.superblock v found.said said)
            ∙ parameters-back params p offset fields made;
      },
    )

-- the settings that the parameters make that come back
tree-back : (params : VerityParams) (p : PlanFields) (offset : ℕ) → HasFields params → AreMadeBy params p.settings
    → tree_of (read_back params offset) ≡ Ok p.settings
tree-back params p offset fields made =
    let counted : take params.salt_size (with_zeros 256 (take params.salt_size params.salt))
    ≡ take params.salt_size params.salt =
    take_at (take params.salt_size params.salt) (replicate (256 - length (take params.salt_size params.salt)) 0)
    params.salt_size (length-counting params p fields made) in
    rw (made.numbered, made.typed, counted, made.made, made.fits) refl

plan_if-back : (offset : Option ℕ) (tree : TreeSettingsFields) (params : VerityParams) → params.no_superblock ≡ 0
    → plan_if offset tree (read_back params params.hash_offset) ≡ plan_if offset tree params
plan_if-back None tree params plain = refl
plan_if-back (Some offset) tree params plain = rw plain refl

-- and the plan
pub plan-back : (params : VerityParams) (p : PlanFields) → HasFields params → plan_of params ≡ Ok p
    → params.no_superblock ≡ 0 → plan_of (read_back params params.hash_offset) ≡ Ok p
plan-back params p fields is plain =
    let made = plan-made params p is in
    let back = read_back params params.hash_offset in
    let unit : multiple_of (offset_unit true p.settings.hash_block) params.hash_offset
    ≡ multiple_of (offset_unit (params.no_superblock == 0) p.settings.hash_block) params.hash_offset =
    rw plain refl in
    ap (λ (tree : Result TreeSettingsFields Fault). plan_by tree back)
    (tree-back params p params.hash_offset fields made.settings)
    ∙ ap (λ (offset : Option ℕ). plan_if offset p.settings back) unit
    ∙ plan_if-back (multiple_of (offset_unit (params.no_superblock == 0) p.settings.hash_block) params.hash_offset)
    p.settings params plain
    ∙ ap (λ (tree : Result TreeSettingsFields Fault). plan_by tree params) (sym made.tree)
    ∙ is
