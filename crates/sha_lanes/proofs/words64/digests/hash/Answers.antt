use Rattle.std.proofs.Common.{◌+◌, length, refl, ap, ◌∙◌, arith}
use Rattle.sha_lanes.{proofs.{Padding64.blocks_of, Pieces.length-message_of, Hash64.{hash_start, hash_more}}, specs.Lanes.{lane, message_of}}
use Rattle.sha2.specs.Sha512 as S512
use Rattle.sha_lanes.proofs.words64.digests.hash.Goals as goal

pub loop-k-init : goal.loop-k-init
loop-k-init c j lt within = hash_start _ _

pub loop-k-preserved : goal.loop-k-preserved
loop-k-preserved c j lt within =
    hash_more _ _ c.loop-k.k (c.loop-k.invariant j lt within) refl
    (c.compress.ensures j lt _ (c.load_block.ensures j lt within))

pub returns : goal.returns
returns c j lt within =
    let m = message_of c.args.before.now c.args.parts.now c.args.len c.args.after.now j in
    c.loop-k.invariant j lt within
    ∙ ap (S512.hash_after (lane c.args.state.now j) (S512.padded_message m))
    (blocks_of m c.loop-k.k (length c.args.before.now + c.args.len + length c.args.after.now)
    (length-message_of c.args.before.now c.args.parts.now c.args.len c.args.after.now j within)
    (omega (arith, c.block_count-k-end.ensures)))
