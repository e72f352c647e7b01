-- A name says one algorithm, and a number one hash type.
use Rattle.std.proofs.Common.{◌≡◌, ◌⊎◌, ℕ, Bool, true, false, List, Option, Some, None, cond, codes, inl, inr, refl, ap, sym, ◌∙◌}
use Rattle.std.{proofs.lemmas.Bool.eqb-true, specs.{Prelude.◌==◌, Cmp.Lexicographic.bytes_decides, Str.bytes_eq}}
use Rattle.verity_hash.specs.{declared.algorithm.Algorithm.TheVariants.{Sha256, Sha512, Sha1, Sha224, Sha384}, Hashing.{algorithm_named, name_of}}
use Rattle.verity_plan.specs.{CheckedSettings.type_of_number, Settings.type_number, declared.hash_type.HashType.HashType}
use Rattle.{verity_plan.specs.declared.hash_type.HashType.TheVariants.{Original, Current}, verity_hash.specs.declared.algorithm.Algorithm.Algorithm}

pub named-back : (algorithm : Algorithm) → algorithm_named (name_of algorithm) ≡ Some algorithm
named-back Sha256 = refl
named-back Sha512 = refl
named-back Sha1 = refl
named-back Sha224 = refl
named-back Sha384 = refl

pub numbered-back : (hash_type : HashType) → type_of_number (type_number hash_type) ≡ Some hash_type
numbered-back Original = refl
numbered-back Current = refl

-- what a choice gives
pub chosen : {A : Type 0} (test : Bool) (x : A) (rest : Option A) (y : A) → cond test (Some x) rest ≡ Some y
    → ((test ≡ true) × (x ≡ y)) ⊎ (rest ≡ Some y)
chosen true x rest y e = inl (refl, cc)
chosen false x rest y e = inr e

-- the name of the algorithm that a text names
pub named-is : (name : List ℕ) (algorithm : Algorithm) → algorithm_named name ≡ Some algorithm
    → name ≡ name_of algorithm
named-is name algorithm e =
    elim (chosen (bytes_eq name (codes "sha256")) Sha256 _ algorithm e) [
      | inl here ↦ (bytes_decides name (codes "sha256")).0 here.0 ∙ ap name_of here.1
      | inr e2 ↦ elim (chosen (bytes_eq name (codes "sha512")) Sha512 _ algorithm e2) [
        | inl here ↦ (bytes_decides name (codes "sha512")).0 here.0 ∙ ap name_of here.1
        | inr e3 ↦ elim (chosen (bytes_eq name (codes "sha1")) Sha1 _ algorithm e3) [
          | inl here ↦ (bytes_decides name (codes "sha1")).0 here.0 ∙ ap name_of here.1
          | inr e4 ↦ elim (chosen (bytes_eq name (codes "sha224")) Sha224 _ algorithm e4) [
            | inl here ↦ (bytes_decides name (codes "sha224")).0 here.0 ∙ ap name_of here.1
            | inr e5 ↦ elim (chosen (bytes_eq name (codes "sha384")) Sha384 None algorithm e5) [
              | inl here ↦ (bytes_decides name (codes "sha384")).0 here.0 ∙ ap name_of here.1
              | inr none ↦ cc
            ]
          ]
        ]
      ]
    ]

-- the number of the hash type that a number says
pub numbered-is : (number : ℕ) (hash_type : HashType) → type_of_number number ≡ Some hash_type
    → number ≡ type_number hash_type
numbered-is number hash_type e =
    elim (chosen (number == 0) Original _ hash_type e) [
      | inl here ↦ eqb-true number 0 here.0 ∙ ap type_number here.1
      | inr e2 ↦ elim (chosen (number == 1) Current None hash_type e2) [
        | inl here ↦ eqb-true number 1 here.0 ∙ ap type_number here.1
        | inr none ↦ cc
      ]
    ]

-- algorithms of one name are the same
pub name_of-same : (a b : Algorithm) → name_of a ≡ name_of b → a ≡ b
name_of-same a b same =
    let named : Some a ≡ Some b = sym (named-back a) ∙ ap algorithm_named same ∙ named-back b in
    cc

-- and so are hash types of one number
pub type_number-same : (a b : HashType) → type_number a ≡ type_number b → a ≡ b
type_number-same a b same =
    let numbered : Some a ≡ Some b = sym (numbered-back a) ∙ ap type_of_number same ∙ numbered-back b in
    cc
