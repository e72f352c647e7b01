use Rattle.{std.proofs.Common.{◌≡◌, ◌+◌, ◌*◌, ◌/◌, ◌%◌, ◌++◌, ap, ◌∙◌, arith}, sha_lanes.proofs.{Hash64.hash_start, OneMessage.hash_end64}}
use Rattle.sha2.specs.Sha512 as S512
use Rattle.sha_lanes.proofs.words64.one_message.hash.Goals as goal

pub loop-group-init : goal.loop-group-init
loop-group-init c = hash_start _ _

pub loop-group-preserved : goal.loop-group-preserved
loop-group-preserved c =
    c.take_blocks.ensures _ c.loop-group.invariant
    ∙ ap (S512.hash_after c.args.state.now (S512.padded_message (c.args.first.now ++ c.args.second.now ++ c.args.third.now))) (omega arith)

pub returns-then-blocks-gt0 : goal.returns-then-blocks-gt0
returns-then-blocks-gt0 c =
    let blocks = c.block_count-blocks.result in
    let end : 4 * c.loop-group.group ≡ 4 * (blocks / 4) = omega arith in
    let rest : 4 * (blocks / 4) + blocks % 4 ≡ blocks = omega arith in
    hash_end64 c.args.state.now c.args.first.now c.args.second.now c.args.third.now _
    (c.take_blocks-then-blocks-gt0.ensures c.args.state.now
    (c.loop-group.invariant
    ∙ ap (S512.hash_after c.args.state.now (S512.padded_message (c.args.first.now ++ c.args.second.now ++ c.args.third.now))) end))
    (rest ∙ c.block_count-blocks.ensures)

pub returns-else-blocks-gt0 : goal.returns-else-blocks-gt0
returns-else-blocks-gt0 c =
    let all : 4 * c.loop-group.group ≡ c.block_count-blocks.result = omega arith in
    hash_end64 c.args.state.now c.args.first.now c.args.second.now c.args.third.now _ c.loop-group.invariant
    (all ∙ c.block_count-blocks.ensures)
