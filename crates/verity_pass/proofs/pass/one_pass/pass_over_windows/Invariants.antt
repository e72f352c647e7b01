use Rattle.{std.proofs.Common.{◌≡◌, ◌*◌, ◌+◌, ◌-◌, ◌/◌, ◌<◌, ◌≤◌, [], length, take}, verity_io.specs.Reading.HasRead}
use Rattle.verity_plan.specs.PlanCounts.{level_count_of}
use Rattle.verity_blocks.specs.{ClosingOrder.handed_out, Levels.data_blocks, Steps.Feeding.Stands, Windows.window_length}
use Rattle.verity_pass.proofs.pass.one_pass.pass_over_windows.Given as goal

-- so many bytes were read, and the hash blocks of so many levels above the last of them were handed on
abbrev pub invariant-steps : goal.invariant-steps
invariant-steps g l = record {
  most : l.progress.fed ≤ l.plan.wanted;
  within : l.progress.closed ≤ level_count_of l.plan;
  long : length l.opened ≡ length l.fn.opened;
  whole : l.progress.fed < l.plan.wanted
      → l.progress.fed / window_length l.plan.settings * window_length l.plan.settings ≡ l.progress.fed;
  source_told : g.S.Source.tells l.fn.source → g.S.Source.tells l.source;
  device_told : g.D.Device.tells l.fn.device → g.D.Device.tells l.device;
  source_failures : g.S.Source.failures l.source ≡ g.S.Source.failures l.fn.source;
  device_failures : g.D.Device.failures l.device ≡ g.D.Device.failures l.fn.device;
  read : g.S.Source.tells l.fn.source
      → HasRead l.progress.fed (g.S.Source.remaining l.fn.source) (g.S.Source.remaining l.source);
  stands : g.S.Source.tells l.fn.source
      → Stands l.plan (level_count_of l.plan) (take l.progress.fed (g.S.Source.remaining l.fn.source)) l.progress.closed
      l.opened l.window;
  kept : g.D.Device.tells l.fn.device
      → g.C.OnClosed.keeps (g.D.Device.content l.fn.device) (g.D.Device.content l.fn.device)
      → g.C.OnClosed.keeps (g.D.Device.content l.fn.device) (g.D.Device.content l.device);
  closed : g.S.Source.tells l.fn.source → g.D.Device.tells l.fn.device
      → g.C.OnClosed.leaves l.plan (data_blocks l.plan (g.S.Source.remaining l.fn.source)) []
      (g.D.Device.content l.fn.device) (g.D.Device.content l.fn.device)
      → g.C.OnClosed.leaves l.plan (data_blocks l.plan (g.S.Source.remaining l.fn.source))
      (handed_out l.plan l.progress.fed l.progress.closed)
      (g.D.Device.content l.fn.device) (g.D.Device.content l.device);
}

abbrev pub decreases-steps : goal.decreases-steps
decreases-steps g l = (l.plan.wanted - l.progress.fed) * (level_count_of l.plan + 1) + (level_count_of l.plan - l.progress.closed)
