-- The salt is padded with zeros to its input block.
use Rattle.std.proofs.{Common.{ℕ, ◌<◌, List, [], ◌++◌, length, ap, arith, ◌≤◌, ◌∙◌, drop, replicate, take}, lemmas.Grind.common_steps}
use Rattle.std.{proofs.lemmas.List.append-nil, specs.{Fork.slice_chunk, Int.next_multiple_of}}
use Rattle.verity_hash.{specs.Hashing.{hash_of, input_block_of, with_zeros}, proofs.WithZeros.{with_zeros-front, input_block_of-bounds}}
use Rattle.verity_hash.proofs.rows.after_padded_salt.Goals as goal

pub returns : goal.returns
returns c r lt =
    let bounds = input_block_of-bounds c.args.algorithm in
    let salt : List ℕ = c.args.salt.now in
    let w = c.input_block-input_block.ensures in
    let some : 0 < length salt = grind (arith, common_steps, c.is_empty.ensures, c.if-is_empty.false) in
    let most : length salt ≤ input_block_of c.args.algorithm = omega (arith, w, c.if-salt-input_block.false) in
    let padded = with_zeros-front salt c.copy_from_slice.new.self (input_block_of c.args.algorithm)
    c.copy_from_slice.ensures.after some most bounds.1 in
    let before = ap (λ (k : ℕ). take k (c.copy_from_slice.new.self ++ drop (length salt) (replicate 128 0))) w ∙ padded in
    let block : List ℕ = slice_chunk c.args.rows.now c.args.size r in
    let zeros : List ℕ = with_zeros (next_multiple_of (length salt) (input_block_of c.args.algorithm)) salt in
    c.side_by_side-2.ensures r lt ∙ ap (λ (xs : List ℕ). hash_of c.args.algorithm (xs ++ block ++ [])) before
    ∙ ap (hash_of c.args.algorithm) (append-nil (zeros ++ block))
