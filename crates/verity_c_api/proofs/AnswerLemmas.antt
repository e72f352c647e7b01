-- What the numbers of an answer say: how much was taken, and which hash block is named, of a plan's or a file's tree.
use Rattle.std.proofs.Common.{◌≡◌, ◌≢◌, ◌<◌, ◌≤◌, ◌+◌, ◌*◌, ◌∙◌, ℕ, Bool, true, false, List, [], ◌∷◌, Option, Some, None, if◌then◌else◌, arith, ap}
use Rattle.std.{proofs.{Common.{inl, inr, refl, subst, sym}, lemmas.Bool.Decides.nat_tests}, specs.Prelude.{◌==◌, ◌⊎◌, MatchOption}}
use Rattle.verity_c_api.specs.{Building.{block_of, fed_by, fed_of, given_by, without_block}, FileTrees.{fed_by_file, fed_of_file, file_block_of}}
use Rattle.verity_c_api.specs.declared.build.VerityFed.{VerityFed}
use Rattle.verity_plan.{specs.{Plans.PlanFields, Settings.TreeSettingsFields}, proofs.CountLemmas.mul_le}
use Rattle.verity_blocks.specs.{ClosingOrder.{BlockIndex, block_index}, declared.hash_block.HashBlock.HashBlock}
use Rattle.verity_builders.specs.declared.{file_tree_builder.{FileFed.FileFed, FileHashBlock.FileHashBlock}, tree_builder.Fed.Fed}

-- the numbers say what was taken, and which hash block is named, of a kind that stands on a device or not
pub record Says {B : Type 0} (size taken : ℕ) (named : Option B) (fed : VerityFed) (block : B) : Type 0 where
  pub some_size : 0 < size
  pub taken_is : fed.taken ≡ taken
  pub length : (fed.block_length ≡ 0) ⊎ (fed.block_length ≡ size)
  pub zeros : fed.block_length ≡ 0 → fed ≡ without_block fed.taken
  pub none : fed.block_length ≡ 0 → named ≡ None
  pub some : fed.block_length ≢ 0 → named ≡ Some block

-- they say it if they are those of the hash block that is named, from which it can be made again
says : {B : Type 0} (size taken : ℕ) (numbers : B → VerityFed) (of : VerityFed → B) (named : Option B)
    (fed : VerityFed) → 0 < size → ((block : B) → (numbers block).taken ≡ taken)
    → ((block : B) → (numbers block).block_length ≡ size) → ((block : B) → of (numbers block) ≡ block)
    → MatchOption named (fed ≡ without_block taken) (λ block. fed ≡ numbers block) → Says size taken named fed (of fed)
says size taken numbers of None fed some taken_is length_is block_is is =
    subst (λ (f : VerityFed). Says size taken None f (of f)) (sym is) (record {
      some_size = some;
      taken_is = refl;
      length = inl refl;
      zeros = λ _. refl;
      none = λ _. refl;
      some = λ no. absurd (no refl);
    })
says size taken numbers of (Some block) fed some taken_is length_is block_is is =
    let no : (numbers block).block_length ≡ 0 → ⊥ = λ zero. omega (arith, some, length_is block, zero) in
    subst (λ (f : VerityFed). Says size taken (Some block) f (of f)) (sym is) (record {
      some_size = some;
      taken_is = taken_is block;
      length = inr (length_is block);
      zeros = λ zero. absurd (no zero);
      none = λ zero. absurd (no zero);
      some = λ _. ap (λ b. Some b) (sym (block_is block));
    })

-- so the answer of a builder of a plan's tree, and of a file's
pub says-of : (p : PlanFields) (answer : Fed) (fed : VerityFed) → fed ≡ fed_of p answer → 0 < p.settings.hash_block
    → Says p.settings.hash_block answer.taken answer.hash_block fed (block_of fed)
says-of p answer fed is some =
    says p.settings.hash_block answer.taken (λ block. fed_by p.settings.hash_block answer.taken (Some block)) block_of
    answer.hash_block fed some (λ _. refl) (λ _. refl) (λ _. refl) (by_block answer.hash_block is)
  where
    by_block : (named : Option HashBlock) → fed ≡ fed_by p.settings.hash_block answer.taken named
        → MatchOption named (fed ≡ without_block answer.taken)
        (λ block. fed ≡ fed_by p.settings.hash_block answer.taken (Some block))
    by_block None is = is
    by_block (Some block) is = is

pub says-of_file : (s : TreeSettingsFields) (answer : FileFed) (fed : VerityFed) → fed ≡ fed_of_file s answer
    → 0 < s.hash_block → Says s.hash_block answer.taken answer.hash_block fed (file_block_of fed)
says-of_file s answer fed is some =
    says s.hash_block answer.taken (λ block. fed_by_file s.hash_block answer.taken (Some block)) file_block_of
    answer.hash_block fed some (λ _. refl) (λ _. refl) (λ _. refl) (by_block answer.hash_block is)
  where
    by_block : (named : Option FileHashBlock) → fed ≡ fed_by_file s.hash_block answer.taken named
        → MatchOption named (fed ≡ without_block answer.taken)
        (λ block. fed ≡ fed_by_file s.hash_block answer.taken (Some block))
    by_block None is = is
    by_block (Some block) is = is

-- what was taken, in the numbers of the struct
pub taken_is : (p : PlanFields) (answer : Fed) (fed : VerityFed) → fed ≡ fed_of p answer → 0 < p.settings.hash_block
    → fed.taken ≡ answer.taken
taken_is p answer fed is some = (says-of p answer fed is some).taken_is

-- what holds where a hash block is named, and where none is
pub match-said : {B : Type 0} {size taken : ℕ} {named : Option B} {fed : VerityFed} {block : B} (none : Type 0)
    (holds : B → Type 0) → Says size taken named fed block → MatchOption named none holds
    → (fed.block_length ≡ 0 → none) × (fed.block_length ≢ 0 → holds block)
match-said none holds said h = (
  (λ zero. subst (λ n. MatchOption n none holds) (said.none zero) h),
  (λ some. subst (λ n. MatchOption n none holds) (said.some some) h),
)

-- the hash block in a list of its own
pub list-said : {B : Type 0} {size taken : ℕ} {named : Option B} {fed : VerityFed} {block : B}
    (list : Option B → List BlockIndex) → Says size taken named fed block → list None ≡ []
    → list (Some block) ≡ block_index fed.block_level fed.block_index ∷ [] → list named ≡ given_by fed
list-said {named = named} {fed = fed} list said none some = by_test (fed.block_length == 0) refl
  where
    by_test : (test : Bool) → (fed.block_length == 0) ≡ test
        → list named ≡ (if test then [] else block_index fed.block_level fed.block_index ∷ [])
    by_test true test = ap list (said.none (grind (arith, nat_tests, test))) ∙ none
    by_test false test = ap list (said.some (λ zero. absurd (grind (arith, nat_tests, test, zero)))) ∙ some

-- it stands within the memory of so many levels
pub within-said : {B : Type 0} {size taken : ℕ} {named : Option B} {fed : VerityFed} {block : B} (level levels : ℕ)
    → Says size taken named fed block → (fed.block_length ≢ 0 → (level < levels) × (fed.block_at ≡ level * size))
    → fed.block_at + fed.block_length ≤ levels * size
within-said {size = size} {fed = fed} level levels said placed = by_length said.length
  where
    by_length : (fed.block_length ≡ 0) ⊎ (fed.block_length ≡ size)
        → fed.block_at + fed.block_length ≤ levels * size
    by_length (inl zero) = omega (arith, zero, ap (λ (f : VerityFed). f.block_at) (said.zeros zero))
    by_length (inr is) =
        let at = placed (λ zero. absurd (omega (arith, said.some_size, is, zero))) in
        omega (arith, is, at.0, at.1, mul_le (level + 1) levels size (omega (arith, at.0)))
