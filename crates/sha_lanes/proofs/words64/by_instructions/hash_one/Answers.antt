use Rattle.std.proofs.Common.{rules, ◌+◌, ◌*◌, ◌/◌, ◌≤◌, ◌++◌, length, arith}
use Rattle.sha_lanes.{specs.Words64.block_count, proofs.{Groups.holds_padded, Hash64.hash_start, Runs.{blocks_taken512, within_blocks64}}}
use Rattle.sha_lanes.proofs.words64.by_instructions.hash_one.Goals as goal

pub loop-k-init : goal.loop-k-init
loop-k-init c = record {
  most = omega arith;
  taken = hash_start _ _;
}

pub loop-k-preserved-in-Some : goal.loop-k-preserved-in-Some
loop-k-preserved-in-Some c =
    let first = c.args.first.now in
    let second = c.args.second.now in
    let third = c.args.third.now in
    let rest = c.in-Some.rest.now in
    let k = c.loop-k.k in
    let count = length rest / 128 in
    let found = c.in-Some.ensures.bytes in
    let room : count * 128 ≤ length rest = omega arith in
    let within : k + count ≤ block_count (length first + length second + length third) =
    within_blocks64 first second third k count rest found.1 room in record {
      most = omega (arith, within, c.block_count-blocks.ensures);
      taken = blocks_taken512 _ first second third k count rest (holds_padded rest (first ++ second ++ third) _ (k * 128) found.2 found.1)
          room within c.loop-k.invariant.taken c.take_blocks.ensures;
    }

pub loop-k-preserved : goal.loop-k-preserved
loop-k-preserved c =
    let within : c.loop-k.k + 1 ≤ block_count (length c.args.first.now + length c.args.second.now + length c.args.third.now) =
    omega (arith, c.block_count-blocks.ensures, c.loop-k-test.true) in record {
      most = omega (arith, within, c.block_count-blocks.ensures);
      taken = blocks_taken512 _ c.args.first.now c.args.second.now c.args.third.now c.loop-k.k 1 c.padded_row.result
          c.padded_row.ensures (search rules) within c.loop-k.invariant.taken c.take_blocks-in-None.ensures;
    }
