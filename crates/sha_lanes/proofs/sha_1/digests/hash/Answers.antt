use Rattle.std.proofs.Common.{◌+◌, length, refl, ap, ◌∙◌, arith}
use Rattle.sha_lanes.{specs.Lanes.message_of, proofs.{Pieces.length-message_of, HashSha1.{hash_start, hash_more}, Padding32.blocks_of}}
use Rattle.sha1.specs.Sha1 as S1
use Rattle.sha_lanes.proofs.sha_1.digests.hash.Goals as goal

pub loop-k-init : goal.loop-k-init
loop-k-init c j lt within = c.initial_hash-state.ensures j lt ∙ hash_start _

pub loop-k-preserved : goal.loop-k-preserved
loop-k-preserved c j lt within =
    hash_more _ c.loop-k.k (c.loop-k.invariant j lt within) refl
    (c.compress.ensures j lt _ (c.load_block.ensures j lt within))

pub returns : goal.returns
returns c j lt within =
    let m = message_of c.args.before.now c.args.parts.now c.args.len c.args.after.now j in
    c.loop-k.invariant j lt within
    ∙ ap (S1.hash_after (S1.padded_message m))
    (blocks_of m c.loop-k.k (length c.args.before.now + c.args.len + length c.args.after.now)
    (length-message_of c.args.before.now c.args.parts.now c.args.len c.args.after.now j within)
    (omega (arith, c.block_count-k-end.ensures)))
