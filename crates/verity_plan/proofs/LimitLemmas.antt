-- The limits of a salt's length and of a block's size, by the salt rule and by dm-verity's hash type.
use Rattle.std.proofs.Common.{◌≡◌, ℕ, ◌≤◌, ap, arith}
use Rattle.verity_plan.specs.{declared.hash_type.HashType.{TheVariants.{Original, Current}, HashType}, Settings.{least_block, most_salt, rule_of}}
use Rattle.verity_hash.specs.declared.salting.SaltRule.{SaltRule, TheVariants.{Before, After, PaddedBefore}}

-- a salt has at most 256 bytes
pub salt_most : (rule : SaltRule) → most_salt rule ≤ 256
salt_most Before = omega arith
salt_most After = omega arith
salt_most PaddedBefore = omega arith

-- the limits of dm-verity
pub least-verity : (rule : SaltRule) (hash_type : HashType) (len : ℕ) → rule ≡ rule_of hash_type
    → least_block rule len ≡ 512
least-verity rule Original len of_type = ap (λ (r : SaltRule). least_block r len) of_type
least-verity rule Current len of_type = ap (λ (r : SaltRule). least_block r len) of_type

pub salt-verity : (rule : SaltRule) (hash_type : HashType) → rule ≡ rule_of hash_type → most_salt rule ≡ 256
salt-verity rule Original of_type = ap most_salt of_type
salt-verity rule Current of_type = ap most_salt of_type
