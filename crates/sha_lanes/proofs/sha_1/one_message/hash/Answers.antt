use Rattle.{std.proofs.Common.{◌≡◌, ◌+◌, ◌*◌, ◌/◌, ◌%◌, ◌++◌, ap, ◌∙◌, arith}, sha_lanes.proofs.{HashSha1.hash_start, OneMessage.hash_end_sha1}}
use Rattle.sha1.specs.Sha1 as S1
use Rattle.sha_lanes.proofs.sha_1.one_message.hash.Goals as goal

pub loop-group-init : goal.loop-group-init
loop-group-init c = hash_start _

pub loop-group-preserved : goal.loop-group-preserved
loop-group-preserved c =
    c.take_blocks.ensures c.loop-group.invariant
    ∙ ap (S1.hash_after (S1.padded_message (c.args.first.now ++ c.args.second.now ++ c.args.third.now))) (omega arith)

pub returns-then-blocks-gt0 : goal.returns-then-blocks-gt0
returns-then-blocks-gt0 c =
    let p = S1.padded_message (c.args.first.now ++ c.args.second.now ++ c.args.third.now) in
    let blocks = c.block_count-blocks.result in
    let end : 8 * c.loop-group.group ≡ 8 * (blocks / 8) = omega arith in
    let rest : 8 * (blocks / 8) + blocks % 8 ≡ blocks = omega arith in
    hash_end_sha1 c.args.first.now c.args.second.now c.args.third.now _
    (c.take_blocks-then-blocks-gt0.ensures (c.loop-group.invariant ∙ ap (S1.hash_after p) end))
    (rest ∙ c.block_count-blocks.ensures)

pub returns-else-blocks-gt0 : goal.returns-else-blocks-gt0
returns-else-blocks-gt0 c =
    let all : 8 * c.loop-group.group ≡ c.block_count-blocks.result = omega arith in
    hash_end_sha1 c.args.first.now c.args.second.now c.args.third.now _ c.loop-group.invariant (all ∙ c.block_count-blocks.ensures)
