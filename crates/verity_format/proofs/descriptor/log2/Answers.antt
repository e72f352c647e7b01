use Rattle.{std.proofs.Common.sym, verity_plan.proofs.FanLemmas.log2-is}
use Rattle.verity_format.proofs.descriptor.log2.Goals as goal

pub returns : goal.returns
returns c = sym (log2-is c.args.size c.ilog2.result c.ilog2.ensures.power_le c.ilog2.ensures.next_power_gt)
