use Rattle.{std.{proofs.Common.{◌≡◌, ◌<◌, ℕ, ◌/◌, ◌^◌}, specs.Fork.slice_chunk}, verity_plan.specs.Settings.fan}
use Rattle.read_one_block.specs.Reading.{stored_above}
use Rattle.read_one_block.proofs.image.read_path.Given as goal

-- the hash blocks of the levels below this one have been read
abbrev pub invariant-loop-level : goal.invariant-loop-level
invariant-loop-level g l = record {
  quotient : l.index ≡ l.i / fan l.plan.settings ^ l.level;
  told : g.D.Device.tells l.fn.device → g.D.Device.tells l.device;
  same : g.D.Device.tells l.fn.device → g.D.Device.content l.device ≡ g.D.Device.content l.fn.device;
  failures : g.D.Device.failures l.device ≡ g.D.Device.failures l.fn.device;
  read : g.D.Device.tells l.fn.device → (m : ℕ) → m < l.level
      → slice_chunk l.path l.plan.settings.hash_block m ≡ stored_above l.plan l.i (g.D.Device.content l.fn.device) m;
}
