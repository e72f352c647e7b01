use Rattle.{std.{proofs.Common.{◌≡◌, ◌+◌, ◌-◌, ◌*◌, ◌^◌, ◌≤◌, ◌<◌}, specs.Int.div_ceil}, verity_plan.specs.Plans.{level_count, blocks_from}}
use Rattle.verity_plan.proofs.plan.levels_above.Given as goal

-- the levels so far are counted, and those that are left stand above them
abbrev pub invariant-levels : goal.invariant-levels
invariant-levels l = record {
  count_is : l.count ≡ div_ceil l.blocks (l.fan ^ l.tree.levels);
  some : 0 < l.count;
  within : l.tree.levels ≤ level_count l.fan l.blocks;
  counted : l.tree.blocks + blocks_from l.fan l.blocks l.tree.levels (level_count l.fan l.blocks - l.tree.levels)
      ≡ blocks_from l.fan l.blocks 0 (level_count l.fan l.blocks);
  most : l.tree.blocks + 2 * l.count ≤ 2 * l.blocks;
  few : l.tree.levels + l.count ≤ l.blocks;
}

abbrev pub decreases-levels : goal.decreases-levels
decreases-levels l = l.count
