use Rattle.{std.proofs.{Common.{arith, ◌+◌, ◌^◌}, Math.Nat.one-le-pow}, verity_blocks.proofs.OpenBlocks.Reached.div_ceil-last}
use Rattle.verity_blocks.proofs.laws.closing_blocks_by_count.Goals as goal

pub returns : goal.returns
returns c = λ fan i l some. omega (arith, div_ceil-last i (fan ^ (l + 1)) (one-le-pow (l + 1) fan some))
