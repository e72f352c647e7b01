-- Bytes say a superblock exactly if they pass every test, and then just one.
use Rattle.std.proofs.Common.{◌≡◌, ℕ, ◌*◌, ◌<◌, ◌≤◌, Bool, true, false, List, [], ◌∷◌, length, take, drop, Option, Some, None, is_some, nat_le}
use Rattle.std.proofs.{Common.{nat_lt, arith, refl, ap, sym, ◌∙◌, length-drop}, lemmas.Bool.{eqb-true, le-leb, leb-true, Decides.nat_tests}}
use Rattle.{std.{proofs.lemmas.List.length-take-le, specs.Cmp.Lexicographic.bytes_decides}, verity_io.specs.Writing.most_bytes}
use Rattle.verity_hash.specs.{Hashing.algorithm_named, declared.{algorithm.Algorithm.Algorithm, salting.SaltRule.SaltRule}}
use Rattle.verity_plan.specs.{Settings.{TreeSettingsFields, IsValid, digest_len, least_block, rule_of}, declared.hash_type.HashType.HashType}
use Rattle.verity_plan.{specs.CheckedSettings.{is_verity_block_size, type_of_number}, proofs.LimitLemmas.{least-verity, salt_most}}
use Rattle.verity_format.specs.{declared.super_fault.SuperFault.SuperFault, CheckedSuperblocks.{superblock_fault, first_failed, superblock_tests}}
use Rattle.verity_format.specs.Superblocks.{field, number_at, until_zero, SuperblockFields, IsSuperblock, signature}
use Rattle.verity_format.proofs.ReadLemmas.{IsValid-verity}
use Rattle.verity_format.proofs.NameLemmas.{name_of-same, named-back, named-is, numbered-back, numbered-is, type_number-same}

-- every test is passed
abbrev AllPass : List (Bool × SuperFault) → Type 0
AllPass [] = Unit {0}
AllPass (test ∷ tests) = (test.0 ≡ true) × AllPass tests

passed : (tests : List (Bool × SuperFault)) → first_failed tests ≡ None → AllPass tests
passed [] none = tt
passed ((true, fault) ∷ tests) none = (refl, passed tests none)
passed ((false, fault) ∷ tests) none = cc

value_of : {A : Type 0} (o : Option A) → is_some o ≡ true → (x : A) × (o ≡ Some x)
value_of None h = cc
value_of (Some x) h = (x, refl)

-- bytes that pass every test say a superblock
pub fault_none-says : (s : List ℕ) → superblock_fault s ≡ None → (v : SuperblockFields) × IsSuperblock s v
fault_none-says s none =
    let all = passed (superblock_tests s) none in
    let long : 512 ≤ length s = leb-true 512 (length s) all.0 in
    let signed : take 8 s ≡ signature = (bytes_decides (take 8 s) signature).0 all.1.0 in
    let version : number_at 8 4 s ≡ 1 = eqb-true (number_at 8 4 s) 1 all.1.1.0 in
    let typed = value_of (type_of_number (number_at 12 4 s)) all.1.1.1.0 in
    let rest = all.1.1.1.1 in
    let known = value_of (algorithm_named (until_zero (field 32 32 s))) rest.1.1.0 in
    let short : number_at 80 2 s ≤ 256 = leb-true (number_at 80 2 s) 256 rest.1.1.1.0 in
    let counted = rest.1.1.1.1 in
    let some : 0 < number_at 72 8 s = grind (arith, nat_tests, counted) in
    let within : number_at 72 8 s * number_at 64 4 s ≤ most_bytes = grind (arith, nat_tests, counted) in
    let salt = field 88 (number_at 80 2 s) s in
    let held : length salt ≡ number_at 80 2 s =
    length-take-le (number_at 80 2 s) (drop 88 s) (omega (arith, length-drop 88 s)) in
    let sixteen : length (field 16 16 s) ≡ 16 = length-take-le 16 (drop 16 s) (omega (arith, length-drop 16 s)) in
    let tree : TreeSettingsFields = record {
      algorithm = known.0;
      rule = rule_of typed.0;
      salt = salt;
      data_block = number_at 64 4 s;
      hash_block = number_at 68 4 s;
    } in
    let valid : IsValid tree =
    IsValid-verity known.0 typed.0 salt (number_at 64 4 s) (number_at 68 4 s) rest.0 rest.1.0 (omega arith) in (
      record { hash_type = typed.0; tree = tree; uuid = field 16 16 s; blocks = number_at 72 8 s },
      record {
        long = long;
        signed = signed;
        version = version;
        hash_type = numbered-is (number_at 12 4 s) typed.0 typed.1;
        uuid = refl;
        algorithm = named-is (until_zero (field 32 32 s)) known.0 known.1;
        data_block = refl;
        hash_block = refl;
        blocks = refl;
        salt_size = sym held;
        salt = ap (λ n. field 88 n s) held;
        valid = record { tree = valid; of_type = refl; uuid = sixteen; some = some; within = within };
      },
    )

-- bytes that say a superblock pass every test
pub says-fault_none : (s : List ℕ) (v : SuperblockFields) → IsSuperblock s v → superblock_fault s ≡ None
says-fault_none s v a =
    let rule = a.valid.of_type in
    let limits = a.valid.tree in
    let least : least_block v.tree.rule (digest_len v.tree) ≡ 512 =
    least-verity v.tree.rule v.hash_type (digest_len v.tree) rule in
    let sized : is_verity_block_size v.tree.data_block ≡ true = rw least at limits.data_block_size in
    let hash_sized : is_verity_block_size v.tree.hash_block ≡ true = rw least at limits.hash_block_size in
    let long : nat_le 512 (length s) ≡ true = le-leb 512 (length s) a.long in
    let short : nat_le (length v.tree.salt) 256 ≡ true =
    le-leb (length v.tree.salt) 256 (omega (arith, salt_most v.tree.rule, limits.salt_most)) in
    let some : nat_lt 0 v.blocks ≡ true = (let h = a.valid.some in grind (arith, nat_tests, h)) in
    let within : nat_le (v.blocks * v.tree.data_block) most_bytes ≡ true =
    le-leb (v.blocks * v.tree.data_block) most_bytes a.valid.within in
    rw (
      long,
      a.signed,
      a.version,
      a.hash_type,
      numbered-back v.hash_type,
      a.data_block,
      sized,
      a.hash_block,
      hash_sized,
      a.algorithm,
      named-back v.tree.algorithm,
      a.salt_size,
      short,
      a.blocks,
      some,
      within,
    ) refl

-- settings by their parts
tree_from : Algorithm → SaltRule → List ℕ → ℕ → ℕ → TreeSettingsFields
tree_from algorithm rule salt data_block hash_block =
    record { algorithm = algorithm; rule = rule; salt = salt; data_block = data_block; hash_block = hash_block }

pub tree-same : (s t : TreeSettingsFields) → s.algorithm ≡ t.algorithm → s.rule ≡ t.rule → s.salt ≡ t.salt
    → s.data_block ≡ t.data_block → s.hash_block ≡ t.hash_block → s ≡ t
unfolding tree_from
tree-same s t algorithm rule salt data_block hash_block =
    ap (λ (x : Algorithm). tree_from x s.rule s.salt s.data_block s.hash_block) algorithm
    ∙ ap (λ (x : SaltRule). tree_from t.algorithm x s.salt s.data_block s.hash_block) rule
    ∙ ap (λ (x : List ℕ). tree_from t.algorithm t.rule x s.data_block s.hash_block) salt
    ∙ ap (λ (x : ℕ). tree_from t.algorithm t.rule t.salt x s.hash_block) data_block
    ∙ ap (λ (x : ℕ). tree_from t.algorithm t.rule t.salt t.data_block x) hash_block

-- a superblock by its parts
superblock_from : HashType → TreeSettingsFields → List ℕ → ℕ → SuperblockFields
superblock_from hash_type tree uuid blocks =
    record { hash_type = hash_type; tree = tree; uuid = uuid; blocks = blocks }

superblock-same : (v w : SuperblockFields) → v.hash_type ≡ w.hash_type → v.tree ≡ w.tree → v.uuid ≡ w.uuid
    → v.blocks ≡ w.blocks → v ≡ w
unfolding superblock_from
superblock-same v w hash_type tree uuid blocks =
    ap (λ (x : HashType). superblock_from x v.tree v.uuid v.blocks) hash_type
    ∙ ap (λ (x : TreeSettingsFields). superblock_from w.hash_type x v.uuid v.blocks) tree
    ∙ ap (λ (x : List ℕ). superblock_from w.hash_type w.tree x v.blocks) uuid
    ∙ ap (λ (x : ℕ). superblock_from w.hash_type w.tree w.uuid x) blocks

-- bytes say at most one superblock
pub one-superblock : (s : List ℕ) (v w : SuperblockFields) → IsSuperblock s v → IsSuperblock s w → v ≡ w
one-superblock s v w a b =
    let one : v.hash_type ≡ w.hash_type = type_number-same v.hash_type w.hash_type (sym a.hash_type ∙ b.hash_type) in
    let salts : length v.tree.salt ≡ length w.tree.salt = sym a.salt_size ∙ b.salt_size in
    superblock-same v w one
    (tree-same v.tree w.tree
    (name_of-same v.tree.algorithm w.tree.algorithm (sym a.algorithm ∙ b.algorithm))
    (a.valid.of_type ∙ ap rule_of one ∙ sym b.valid.of_type)
    (sym a.salt ∙ ap (λ (n : ℕ). field 88 n s) salts ∙ b.salt)
    (sym a.data_block ∙ b.data_block) (sym a.hash_block ∙ b.hash_block))
    (sym a.uuid ∙ b.uuid) (sym a.blocks ∙ b.blocks)
