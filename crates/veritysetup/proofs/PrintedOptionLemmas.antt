-- What a report prints, given again as options, gives the same settings.
use Rattle.std.proofs.Common.{◌≡◌, ℕ, ◌+◌, ◌*◌, ◌/◌, ◌%◌, ◌^◌, ◌<◌, ◌≤◌, ◌&&◌, Bool, true, false, not, cond, List, [], ◌∷◌, length, take, drop}
use Rattle.std.proofs.Common.{Option, Some, None, Ok, Err, nat_le, nat_lt, arith, ◌⊎◌, sym, subst, ◌∙◌, ap, refl, inl, inr, lt-ltb}
use Rattle.std.proofs.{lemmas.{Bool.{and_parts, false_from_ne_true, le-leb, leb-true, Decides.nat_tests}, List.get_or_default}, Math.Nat.mul_comm}
use Rattle.std.{proofs.lemmas.{Fmt.{decimal_nonempty, digits_decimal, digits_value-decimal}, Slice.Eq.bytes_eq-Decides}, specs.Fmt.decimal}
use Rattle.std.specs.{Int.is_power_of_two, Prelude.{◌==◌, codes, ok_or, option_map, unwrap_or}, Result.result_ok, Str.bytes_eq}
use Rattle.{verity_io.specs.Writing.most_bytes, uuid.proofs.RoundTrips.parses_hyphenated, verity_format.proofs.NameLemmas.{named-back, numbered-back}}
use Rattle.hex.{specs.Hex.{IsBytes, decode_of, encode_lower, lower_digits}, proofs.HexLemmas.{decode_of-encode_lower, length-encode_with}}
use Rattle.command_line.{specs.Options.{algorithm_or_default, default_block_size, number, number_of}, proofs.Numerals.numerals}
use Rattle.verity_hash.specs.declared.{algorithm.Algorithm.Algorithm, salting.SaltRule.SaltRule}
use Rattle.verity_plan.specs.{CheckedSettings.type_of_number, Plans.{IsPlan, PlanFields, base_of, multiple_of, offset_unit, plan_at}}
use Rattle.verity_plan.{specs.Settings.{TreeSettingsFields, digest_len, is_block_size, least_block, rule_of, type_number}, proofs.CountLemmas.mul_le}
use Rattle.verity_plan.{specs.declared.hash_type.HashType.{HashType, TheVariants.{Original, Current}}, proofs.FanLemmas.some_data}
use Rattle.{verity_plan.proofs.LimitLemmas.{least-verity, salt-verity}, veritysetup.proofs.SettingsLemmas.{AreValid, plan-made}}
use Rattle.veritysetup.specs.Options.{Choices.{accepted_plan, settings_of, tree_of}, OptionTexts.{superblock_uuid, uuid_or_random}, Uuids.random_uuid}
use Rattle.veritysetup.specs.Options.OptionTexts.{block_size_of, number_if_given, number_option, root_if_given, OptionTexts, no_uuid, salt_or_random}
use Rattle.veritysetup.specs.{Options.PrintedOptions.{printed_options, verify_options, without_root}, Runs.HashDevice.superblock_for}
use Rattle.veritysetup.specs.{Options.Settings.{PartsAgree, SettingsFields, read_root}, Texts.Reports.{salt_text, uuid_text}}
use Rattle.veritysetup.{specs.declared.options.option_fault.OptionName.OptionName, proofs.ChosenPlanLemmas.{accepted_plan-is, plan_is}}
use Rattle.veritysetup.specs.declared.options.option_fault.OptionName.TheVariants.{Format, DataBlockSize, HashBlockSize, DataBlocks, HashOffset}
use Rattle.veritysetup.proofs.ChoiceLemmas.{Chosen, chosen, step, unstep, one-chosen, given-chosen, tree_with, tree_by_hash, tree_by_data, with_root}
use Rattle.veritysetup.proofs.ChoiceLemmas.{with_plan, with_offset, with_uuid, with_tree, with_type, with_algorithm, with_bytes, with_blocks}
use Rattle.veritysetup.proofs.ChoiceLemmas.{with_hash_block_size, with_data_block_size, with_format, all-steps}
use Rattle.veritysetup.specs.declared.options.option_fault.OptionFault.TheVariants as option

-- ---- numbers

number-back : (n : ℕ) → n < 2 ^ 64 → number_of (decimal n) ≡ Some n
number-back n small =
    let digits = digits_decimal numerals n small in
    let value : number (decimal n) ≡ n = digits_value-decimal numerals n small in
    let some = lt-ltb 0 (length (decimal n)) (decimal_nonempty n small) in
    let fits = lt-ltb n (2 ^ 64) small in
    rw (digits, some, value, fits) refl

-- ---- salt and sizes

-- digits of bytes aren't `-`
digits-no_dash : (b : ℕ) (rest : List ℕ) → bytes_eq (encode_lower (b ∷ rest)) (codes "-") ≡ false
digits-no_dash b rest = false_from_ne_true _ (λ same.
    let one = ap length ((bytes_eq-Decides (encode_lower (b ∷ rest)) (codes "-")).0 same) in
    absurd (omega (arith, one, length-encode_with lower_digits (b ∷ rest))))

salt-back : (salt : List ℕ) (random : Option (List ℕ)) → IsBytes salt → length salt ≤ 256
    → salt_or_random (Some (salt_text salt)) random ≡ Some salt
salt-back [] random bytes most = refl
salt-back (b ∷ rest) random bytes most =
    let salt = b ∷ rest in
    let dash = digits-no_dash b rest in
    let half : length (encode_lower salt) / 2 ≡ length salt = omega (arith, length-encode_with lower_digits salt) in
    let fits : nat_le (length (encode_lower salt) / 2) 256 ≡ true =
    le-leb (length (encode_lower salt) / 2) 256 (omega (arith, half, most)) in
    ap (λ (b : Bool). cond b (Some []) (cond (nat_le (length (encode_lower salt) / 2) 256)
    (result_ok (decode_of (encode_lower salt))) None)) dash
    ∙ ap (λ (b : Bool). cond b (result_ok (decode_of (encode_lower salt))) None) fits
    ∙ ap result_ok (decode_of-encode_lower salt bytes)

size-back : (size least : ℕ) → least ≡ 512 → is_block_size least size ≡ true → block_size_of size ≡ Some size
size-back size least same right =
    let test = ap (λ (n : ℕ). is_block_size n size) (sym same) ∙ right in
    ap (λ (b : Bool). cond b (Some size) None) test

-- ---- the parts of settings

numbered : (name : OptionName) (default n : ℕ) → n < 2 ^ 64
    → number_option name default (Some (decimal n)) ≡ chosen n
numbered name default n small = ap (λ (o : Option ℕ). ok_or o (option.BadNumber name)) (number-back n small)

-- a tree's settings from their parts
tree-back : (s : SettingsFields) → AreValid s
    → tree_of s.plan.settings.algorithm s.hash_type s.plan.settings.data_block s.plan.settings.hash_block
    (Some s.plan.settings.salt) ≡ chosen s.plan.settings
tree-back s valid =
    let t = s.plan.settings in
    let given = Some t.salt in
    let least = least-verity t.rule s.hash_type (digest_len t) valid.agree.of_type in
    let of_data = size-back t.data_block (least_block t.rule (digest_len t)) least
    valid.planned.valid.data_block_size in
    let of_hash = size-back t.hash_block (least_block t.rule (digest_len t)) least
    valid.planned.valid.hash_block_size in
    let y : Chosen TreeSettingsFields = Ok t in
    step (ok_or (block_size_of t.data_block) (option.BadBlockSize DataBlockSize)) t.data_block
    (tree_by_data t.algorithm s.hash_type t.hash_block given) y
    (ap (λ (o : Option ℕ). ok_or o (option.BadBlockSize DataBlockSize)) of_data)
    (step (ok_or (block_size_of t.hash_block) (option.BadBlockSize HashBlockSize)) t.hash_block
    (tree_by_hash t.algorithm s.hash_type given t.data_block) y
    (ap (λ (o : Option ℕ). ok_or o (option.BadBlockSize HashBlockSize)) of_hash)
    (ap (λ (rule : SaltRule). chosen (record {
      algorithm = t.algorithm;
      rule = rule;
      salt = t.salt;
      data_block = t.data_block;
      hash_block = t.hash_block;
    })) (sym valid.agree.of_type)))

-- a hash offset is a multiple, and below the limit
offset-back : (s : SettingsFields) → AreValid s
    → multiple_of (offset_unit s.superblock s.plan.settings.hash_block) s.offset ≡ Some s.offset
offset-back s valid =
    let test : (s.offset % offset_unit s.superblock s.plan.settings.hash_block == 0) ≡ true =
    ap (λ (n : ℕ). n == 0) valid.agree.aligned in
    ap (λ (b : Bool). cond b (Some s.offset) None) test

offset-most : (s : SettingsFields) → AreValid s → s.offset ≤ most_bytes
offset-most s valid = by_superblock s.superblock s.plan.settings.hash_block s.plan.base valid.agree.based
  where
    by_test : (b : Bool) (n : ℕ) (some : Option ℕ) (base : ℕ) → nat_le n most_bytes ≡ b → cond b some None ≡ Some base
        → n ≤ most_bytes
    by_test true n some base test e = grind (arith, nat_tests, test)
    by_test false n some base test e = cc

    by_superblock : (b : Bool) (size base : ℕ) → base_of s.offset b size ≡ Some base → s.offset ≤ most_bytes
    by_superblock true size base e =
        let most = by_test (nat_le (s.offset + 512) most_bytes) (s.offset + 512) _ base refl e in
        omega (arith, most)
    by_superblock false size base e = by_test (nat_le s.offset most_bytes) s.offset _ base refl e

-- the UUID of the printed text, and of none
uuid-back : (b : Bool) (uuid : List ℕ) (random : Option (List ℕ)) → length uuid ≡ 16 → IsBytes uuid
    → (found : List ℕ) × ((uuid_or_random (cond b (Some (uuid_text uuid)) None) random ≡ Some found)
    × (superblock_uuid b found ≡ superblock_uuid b uuid))
uuid-back true uuid random long bytes = (
  uuid,
  (
    sym (parses_hyphenated 97 uuid (inl refl) long (λ k d below.
        subst (λ (n : ℕ). n < 256) (get_or_default uuid k 0 d below) (bytes k))),
    refl,
  ),
)
uuid-back false uuid (Some drawn) long bytes = (random_uuid (take 16 (drop 32 drawn)), (refl, refl))
uuid-back false uuid None long bytes = (no_uuid, (refl, refl))

-- data and hash area don't overlap, if they are in one file
accepted_plan-back : (same_file : Bool) (p : PlanFields) (offset : ℕ) → (same_file ≡ true → p.wanted ≤ offset)
    → accepted_plan same_file offset (Ok p) ≡ Ok p
accepted_plan-back true p offset apart =
    let after : nat_lt offset p.wanted ≡ false = grind (arith, nat_tests, apart refl) in
    ap (λ (b : Bool). cond b (Err option.Overlap) (Ok p)) after
accepted_plan-back false p offset apart = refl

not-not : (b : Bool) → not (not b) ≡ b
not-not true = refl
not-not false = refl

size-small : (least size : ℕ) → is_block_size least size ≡ true → size < 2 ^ 64
size-small least size right =
    let within : (nat_le least size && nat_le size 524288) ≡ true =
    (and_parts (is_power_of_two size) (nat_le least size && nat_le size 524288) right).1 in
    let most : size ≤ 524288 =
    leb-true size 524288 (and_parts (nat_le least size) (nat_le size 524288) within).1 in
    omega (arith, most)

type-small : (hash_type : HashType) → type_number hash_type < 2 ^ 64
type-small Original = omega arith
type-small Current = omega arith

blocks-small : (p : PlanFields) → IsPlan p → p.blocks < 2 ^ 64
blocks-small p planned =
    let one = some_data p.settings planned.valid in
    let times : 1 * p.blocks ≤ p.settings.data_block * p.blocks =
    mul_le 1 p.settings.data_block p.blocks (omega (arith, one)) in
    let turned : p.settings.data_block * p.blocks ≡ p.blocks * p.settings.data_block =
    mul_comm p.settings.data_block p.blocks in
    omega (arith, times, turned, planned.data_most)

-- ---- what a report prints

pub printed-back : (s : SettingsFields) (same_file : Bool) (size : ℕ) (random : Option (List ℕ)) → AreValid s
    → IsBytes s.uuid → IsBytes s.plan.settings.salt → (same_file ≡ true → s.plan.wanted ≤ s.offset)
    → settings_of (printed_options (superblock_for s) s.offset s.superblock same_file) size random
    ≡ chosen (without_root s)
printed-back s same_file size random valid uuid salt apart =
    let p = s.plan in
    let t = p.settings in
    let tree_valid = valid.planned.valid in
    let texts = printed_options (superblock_for s) s.offset s.superblock same_file in
    let e : not (not s.superblock) ≡ s.superblock = not-not s.superblock in
    let u = uuid-back s.superblock s.uuid random valid.uuid uuid in
    let least = least_block t.rule (digest_len t) in
    let short : length t.salt ≤ 256 =
    omega (arith, tree_valid.salt_most, salt-verity t.rule s.hash_type valid.agree.of_type) in
    all-steps texts size random (type_number s.hash_type) t.data_block t.hash_block (Some p.blocks) s.offset t.algorithm
    s.hash_type t u.0 s.offset p None
    (numbered Format 1 (type_number s.hash_type) (type-small s.hash_type))
    (numbered DataBlockSize default_block_size t.data_block (size-small least t.data_block tree_valid.data_block_size))
    (numbered HashBlockSize default_block_size t.hash_block (size-small least t.hash_block tree_valid.hash_block_size))
    (ap (λ (o : Option ℕ). ok_or (option_map (λ (n : ℕ). Some n) o) (option.BadNumber DataBlocks))
    (number-back p.blocks (blocks-small s.plan valid.planned)))
    (numbered HashOffset 0 s.offset (omega (arith, offset-most s valid)))
    (ap (λ (o : Option Algorithm). ok_or o option.UnknownHash) (named-back t.algorithm))
    (ap (λ (o : Option HashType). ok_or o option.BadHashType) (numbered-back s.hash_type))
    (ap (tree_of t.algorithm s.hash_type t.data_block t.hash_block) (salt-back t.salt random salt short)
    ∙ tree-back s valid)
    (ap (λ (o : Option (List ℕ)). ok_or o option.BadUuid) u.1.0)
    (ap (λ (b : Bool). ok_or (multiple_of (offset_unit b t.hash_block) s.offset) option.BadHashOffset) e
    ∙ ap (λ (o : Option ℕ). ok_or o option.BadHashOffset) (offset-back s valid))
    (ap (λ (b : Bool). accepted_plan same_file s.offset (plan_at t p.blocks s.offset b)) e
    ∙ ap (accepted_plan same_file s.offset) (plan-made s valid)
    ∙ accepted_plan-back same_file p s.offset apart)
    refl
    ∙ ap (λ (b : Bool). made (superblock_uuid b u.0) b) e
    ∙ ap (λ (found : List ℕ). made found s.superblock) u.1.1
  where
    made : List ℕ → Bool → Chosen SettingsFields
    made found b = Ok (record {
      hash_type = s.hash_type;
      uuid = found;
      offset = s.offset;
      superblock = b;
      plan = s.plan;
      root = None;
    })

-- ---- the options of format, given to verify

-- what makes a tree has its algorithm, and makes it with its own salt too
tree_of-own_salt : (algorithm : Algorithm) (hash_type : HashType) (data_block_size hash_block_size : ℕ)
    (given : Option (List ℕ)) (tree : TreeSettingsFields)
    → tree_of algorithm hash_type data_block_size hash_block_size given ≡ chosen tree
    → (algorithm ≡ tree.algorithm)
    × (tree_of algorithm hash_type data_block_size hash_block_size (Some tree.salt) ≡ chosen tree)
tree_of-own_salt algorithm hash_type data_block_size hash_block_size given tree e =
    let of_data = unstep (ok_or (block_size_of data_block_size) (option.BadBlockSize DataBlockSize))
    (tree_by_data algorithm hash_type hash_block_size given) tree e in
    let of_hash = unstep (ok_or (block_size_of hash_block_size) (option.BadBlockSize HashBlockSize))
    (tree_by_hash algorithm hash_type given of_data.0) tree of_data.1.1 in
    let of_salt = unstep (ok_or given option.BadSalt) (tree_with algorithm hash_type of_data.0 of_hash.0) tree
    of_hash.1.1 in
    let one : tree_part of_data.0 of_hash.0 of_salt.0 ≡ tree =
    one-chosen (tree_part of_data.0 of_hash.0 of_salt.0) tree of_salt.1.1 in
    let salt : of_salt.0 ≡ tree.salt = ap (λ (t : TreeSettingsFields). t.salt) one in
    let own : given ≡ Some tree.salt =
    given-chosen given option.BadSalt of_salt.0 of_salt.1.0 ∙ ap (λ (xs : List ℕ). Some xs) salt in (
      ap (λ (t : TreeSettingsFields). t.algorithm) one,
      ap (tree_of algorithm hash_type data_block_size hash_block_size) (sym own) ∙ e,
    )
  where
    tree_part : ℕ → ℕ → List ℕ → TreeSettingsFields
    tree_part data_block hash_block salt = record {
      algorithm = algorithm;
      rule = rule_of hash_type;
      salt = salt;
      data_block = data_block;
      hash_block = hash_block;
    }

-- the number of blocks as it was given, for the same length, or as the report prints it, for any
given-again : (text given : Option (List ℕ)) (size last blocks unit : ℕ) (number : Option ℕ) → blocks < 2 ^ 64
    → ok_or (number_if_given text) (option.BadNumber DataBlocks) ≡ chosen number
    → unwrap_or number (size / unit) ≡ blocks
    → ((given ≡ text) × (last ≡ size)) ⊎ (given ≡ Some (decimal blocks))
    → (again : Option ℕ) × ((ok_or (number_if_given given) (option.BadNumber DataBlocks) ≡ chosen again)
    × (unwrap_or again (last / unit) ≡ blocks))
given-again text given size last blocks unit number small e counted (inl same) = (
  number,
  (
    ap (λ (t : Option (List ℕ)). ok_or (number_if_given t) (option.BadNumber DataBlocks)) same.0 ∙ e,
    ap (λ (n : ℕ). unwrap_or number (n / unit)) same.1 ∙ counted,
  ),
)
given-again text given size last blocks unit number small e counted (inr printed) = (
  Some blocks,
  (
    ap (λ (t : Option (List ℕ)). ok_or (number_if_given t) (option.BadNumber DataBlocks)) printed
        ∙ ap (λ (o : Option ℕ). ok_or (option_map (λ (n : ℕ). Some n) o) (option.BadNumber DataBlocks))
        (number-back blocks small),
    refl,
  ),
)

pub verified-options : (texts : OptionTexts) (size last : ℕ) (given : Option (List ℕ)) (random : Option (List ℕ))
    (s : SettingsFields) (digits root : List ℕ) → IsPlan s.plan → PartsAgree s → IsBytes s.plan.settings.salt
    → read_root s.plan.settings.algorithm digits ≡ Some root → settings_of texts size random ≡ chosen s
    → ((given ≡ texts.data_blocks) × (last ≡ size)) ⊎ (given ≡ Some (decimal s.plan.blocks))
    → (again : SettingsFields)
    × ((settings_of (verify_options texts given s.plan.settings.salt digits) last None ≡ chosen again)
    × ((again.plan ≡ s.plan) × (again.root ≡ Some root)))
verified-options texts size last given random s digits root planned agree bytes read made blocks_given =
    let format = unstep (number_option Format 1 texts.format) (with_format texts size random) s made in
    let data_block_size = unstep (number_option DataBlockSize default_block_size texts.data_block_size)
    (with_data_block_size texts size random format.0) s format.1.1 in
    let hash_block_size = unstep (number_option HashBlockSize default_block_size texts.hash_block_size)
    (with_hash_block_size texts size random format.0 data_block_size.0) s data_block_size.1.1 in
    let blocks = unstep (ok_or (number_if_given texts.data_blocks) (option.BadNumber DataBlocks))
    (with_blocks texts size random format.0 data_block_size.0 hash_block_size.0) s hash_block_size.1.1 in
    let offset_bytes = unstep (number_option HashOffset 0 texts.hash_offset)
    (with_bytes texts size random format.0 data_block_size.0 hash_block_size.0 blocks.0) s blocks.1.1 in
    let algorithm = unstep (ok_or (algorithm_or_default texts.hash) option.UnknownHash)
    (with_algorithm texts size random format.0 data_block_size.0 hash_block_size.0 blocks.0 offset_bytes.0) s
    offset_bytes.1.1 in
    let hash_type = unstep (ok_or (type_of_number format.0) option.BadHashType)
    (with_type texts size random data_block_size.0 hash_block_size.0 blocks.0 offset_bytes.0 algorithm.0) s
    algorithm.1.1 in
    let tree = unstep
    (tree_of algorithm.0 hash_type.0 data_block_size.0 hash_block_size.0 (salt_or_random texts.salt random))
    (with_tree texts size random algorithm.0 hash_type.0 blocks.0 offset_bytes.0) s hash_type.1.1 in
    let uuid = unstep (ok_or (uuid_or_random texts.uuid random) option.BadUuid)
    (with_uuid texts size random algorithm.0 hash_type.0 tree.0 blocks.0 offset_bytes.0) s tree.1.1 in
    let b = not texts.no_superblock in
    let offset = unstep (ok_or (multiple_of (offset_unit b tree.0.hash_block) offset_bytes.0) option.BadHashOffset)
    (with_offset texts size random algorithm.0 hash_type.0 tree.0 blocks.0 uuid.0) s uuid.1.1 in
    let count = unwrap_or blocks.0 (size / tree.0.data_block) in
    let plan = unstep (accepted_plan texts.same_file offset.0 (plan_at tree.0 count offset.0 b))
    (with_plan texts size random algorithm.0 hash_type.0 uuid.0 offset.0) s offset.1.1 in
    let own_root = unstep (ok_or (root_if_given algorithm.0 texts.root) option.BadRoot)
    (with_root texts size random hash_type.0 uuid.0 offset.0 plan.0) s plan.1.1 in
    let found : Option (List ℕ) → List ℕ → SettingsFields = λ digest id. record {
      hash_type = hash_type.0;
      uuid = superblock_uuid b id;
      offset = offset.0;
      superblock = b;
      plan = plan.0;
      root = digest;
    } in
    let same : plan.0 ≡ s.plan =
    ap (λ (v : SettingsFields). v.plan) (one-chosen (found own_root.0 uuid.0) s own_root.1.1) in
    let from : Ok plan.0 ≡ plan_at tree.0 count offset.0 b =
    accepted_plan-is texts.same_file offset.0 (plan_at tree.0 count offset.0 b) plan.0 (sym plan.1.0) in
    let planned_from =
    plan_is tree.0 count (base_of offset.0 b tree.0.hash_block) plan.0 from in
    let tree_is : tree.0 ≡ s.plan.settings =
    sym (ap (λ (p : PlanFields). p.settings) planned_from.plan_is) ∙ ap (λ (p : PlanFields). p.settings) same in
    let own = tree_of-own_salt algorithm.0 hash_type.0 data_block_size.0 hash_block_size.0
    (salt_or_random texts.salt random) tree.0 tree.1.0 in
    let named : algorithm.0 ≡ s.plan.settings.algorithm =
    own.0 ∙ ap (λ (t : TreeSettingsFields). t.algorithm) tree_is in
    let short : length s.plan.settings.salt ≤ 256 =
    omega (arith, planned.valid.salt_most, salt-verity s.plan.settings.rule s.hash_type agree.of_type) in
    let salt : salt_or_random (Some (salt_text s.plan.settings.salt)) None ≡ Some tree.0.salt =
    salt-back s.plan.settings.salt None bytes short
    ∙ ap (λ (t : TreeSettingsFields). Some t.salt) (sym tree_is) in
    let counted : count ≡ s.plan.blocks =
    sym (ap (λ (p : PlanFields). p.blocks) planned_from.plan_is) ∙ ap (λ (p : PlanFields). p.blocks) same in
    let again = given-again texts.data_blocks given size last s.plan.blocks tree.0.data_block blocks.0
    (blocks-small s.plan planned) blocks.1.0 counted blocks_given in
    let options = verify_options texts given s.plan.settings.salt digits in (
      found (Some root) no_uuid,
      (
        all-steps options last None format.0 data_block_size.0 hash_block_size.0 again.0 offset_bytes.0 algorithm.0
            hash_type.0 tree.0 no_uuid offset.0 plan.0 (Some root) format.1.0 data_block_size.1.0 hash_block_size.1.0
            again.1.0 offset_bytes.1.0 algorithm.1.0 hash_type.1.0
            (ap (tree_of algorithm.0 hash_type.0 data_block_size.0 hash_block_size.0) salt ∙ own.1)
            refl
            offset.1.0
            (ap (λ (n : ℕ). accepted_plan false offset.0 (plan_at tree.0 n offset.0 b)) (again.1.1 ∙ sym counted)
            ∙ ap (accepted_plan false offset.0) (sym from))
            (ap (λ (a : Algorithm). ok_or (root_if_given a (Some digits)) option.BadRoot) named
            ∙ ap (λ (o : Option (List ℕ)). ok_or (option_map (λ (r : List ℕ). Some r) o) option.BadRoot) read),
        (same, refl),
      ),
    )
