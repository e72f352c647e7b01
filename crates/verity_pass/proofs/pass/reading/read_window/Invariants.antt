use Rattle.{std.proofs.Common.{◌-◌, ◌≡◌, ◌*◌, ◌/◌, ◌<◌, List, ◌+◌, ◌≤◌, ℕ, take, drop, min, length}, verity_io.specs.Reading.HasRead}
use Rattle.verity_pass.proofs.pass.reading.read_window.Given as goal

-- the bytes up to a data block of the window were read
abbrev pub invariant-rows : goal.invariant-rows
invariant-rows g l = record {
  within : l.at ≤ l.count;
  count_is : l.count ≡ min (length l.fn.window) (l.plan.wanted - l.fed);
  whole : l.at < l.count → (l.fed + l.at) / l.plan.settings.data_block * l.plan.settings.data_block ≡ l.fed + l.at;
  told : g.S.Source.tells l.fn.source → g.S.Source.tells l.source;
  failures : g.S.Source.failures l.source ≡ g.S.Source.failures l.fn.source;
  holds : g.S.Source.tells l.fn.source → (bytes : List ℕ) → HasRead l.fed bytes (g.S.Source.remaining l.fn.source)
      → take l.at l.window ≡ take l.at (drop l.fed bytes);
  read : g.S.Source.tells l.fn.source → (bytes : List ℕ) → HasRead l.fed bytes (g.S.Source.remaining l.fn.source)
      → HasRead (l.fed + l.at) bytes (g.S.Source.remaining l.source);
}

abbrev pub decreases-rows : goal.decreases-rows
decreases-rows g l = l.count - l.at
