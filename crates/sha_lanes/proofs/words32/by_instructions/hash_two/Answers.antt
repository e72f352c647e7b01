use Rattle.std.proofs.Common.{rules, ◌+◌, ◌*◌, ◌/◌, ◌≤◌, ◌++◌, length, arith}
use Rattle.sha_lanes.{specs.Words32.block_count, proofs.{Groups.holds_padded, Hash32.hash_start, Runs.{blocks_taken256, within_blocks32}}}
use Rattle.sha_lanes.proofs.words32.by_instructions.hash_two.Goals as goal

pub loop-k-init : goal.loop-k-init
loop-k-init c = record {
  most = omega arith;
  of_first = hash_start _ _;
  of_second = hash_start _ _;
}

pub loop-k-preserved-in-Some-rest_in-2 : goal.loop-k-preserved-in-Some-rest_in-2
loop-k-preserved-in-Some-rest_in-2 c =
    let before = c.args.before.now in
    let part1 = c.args.part1.now in
    let part2 = c.args.part2.now in
    let after = c.args.after.now in
    let rest1 = c.in-Some-Some.rest1.now in
    let rest2 = c.in-Some-Some.rest2.now in
    let k = c.loop-k.k in
    let count = c.min-count.result / 64 in
    let found1 = c.in-Some-Some.ensures.bytes in
    let found2 = c.in-Some-Some.ensures'.bytes in
    let room1 : count * 64 ≤ length rest1 = omega (arith, c.min-count.ensures) in
    let room2 : count * 64 ≤ length rest2 = omega (arith, c.min-count.ensures) in
    let within1 : k + count ≤ block_count (length before + length part1 + length after) =
    within_blocks32 before part1 after k count rest1 found1.1 room1 in
    let within2 : k + count ≤ block_count (length before + length part2 + length after) =
    within_blocks32 before part2 after k count rest2 found2.1 room2 in record {
      most = omega (arith, within1, c.block_count-blocks.ensures);
      of_first = blocks_taken256 _ before part1 after k count rest1
          (holds_padded rest1 (before ++ part1 ++ after) _ (k * 64) found1.2 found1.1) room1 within1
          c.loop-k.invariant.of_first c.take_blocks_of_two.ensures.of_first;
      of_second = blocks_taken256 _ before part2 after k count rest2
          (holds_padded rest2 (before ++ part2 ++ after) _ (k * 64) found2.2 found2.1) room2 within2
          c.loop-k.invariant.of_second c.take_blocks_of_two.ensures.of_second;
    }

pub loop-k-preserved : goal.loop-k-preserved
loop-k-preserved c =
    let before = c.args.before.now in
    let part1 = c.args.part1.now in
    let part2 = c.args.part2.now in
    let after = c.args.after.now in
    let k = c.loop-k.k in
    let within1 : k + 1 ≤ block_count (length before + length part1 + length after) =
    omega (arith, c.block_count-blocks.ensures, c.loop-k-test.true) in
    let within2 : k + 1 ≤ block_count (length before + length part2 + length after) = omega (arith, within1, c.requires) in record {
      most = omega (arith, within1, c.block_count-blocks.ensures);
      of_first = blocks_taken256 _ before part1 after k 1 c.padded_row-row1.result c.padded_row-row1.ensures (search rules) within1
          c.loop-k.invariant.of_first c.take_blocks_of_two-in_default.ensures.of_first;
      of_second = blocks_taken256 _ before part2 after k 1 c.padded_row-row2.result c.padded_row-row2.ensures (search rules) within2
          c.loop-k.invariant.of_second c.take_blocks_of_two-in_default.ensures.of_second;
    }
