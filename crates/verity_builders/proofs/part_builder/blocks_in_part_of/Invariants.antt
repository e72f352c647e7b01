use Rattle.{std.proofs.Common.{◌≡◌, ◌≤◌, ◌^◌}, verity_plan.specs.Settings.fan}
use Rattle.verity_builders.proofs.part_builder.blocks_in_part_of.Given as goal

-- the level's power of the fan-out, while it is at most all data blocks
abbrev pub invariant-loop-below : goal.invariant-loop-below
invariant-loop-below l = record {
  count_is : l.count ≡ fan l.plan.settings ^ l.below;
  most : l.count ≤ l.plan.blocks;
}
