-- The zeros after the salt pad it to whole input blocks.
use Rattle.{std.proofs.Common.{ℕ, List, ◌-◌, ◌%◌, ◌++◌, length, take, replicate, ap, sym, ◌∙◌}, verity_hash.specs.declared.salting.SaltRule.SaltRule}
use Rattle.verity_hash.{proofs.WithZeros.{with_zeros-next_multiple_of, input_block_of-bounds}, specs.Hashing.{hash_of, input_block_of, salted_hash}}
use Rattle.verity_hash.proofs.salting.salted.Goals as goal

pub returns-in-PaddedBefore : goal.returns-in-PaddedBefore
returns-in-PaddedBefore c =
    let salt : List ℕ = c.args.salt.now in
    let block : List ℕ = c.args.block.now in
    let bounds = input_block_of-bounds c.args.algorithm in
    let zeros = with_zeros-next_multiple_of salt (input_block_of c.args.algorithm) bounds.0 bounds.1 in
    c.hash_pieces-in-PaddedBefore.ensures
    ∙ ap (λ (n : ℕ). hash_of c.args.algorithm (salt ++ take ((n - length salt % n) % n) (replicate 128 0) ++ block))
    c.input_block-input_block.ensures
    ∙ ap (λ (padded : List ℕ). hash_of c.args.algorithm (padded ++ block)) zeros
    ∙ ap (λ (rule : SaltRule). salted_hash c.args.algorithm rule salt block) (sym c.in-PaddedBefore.is)
