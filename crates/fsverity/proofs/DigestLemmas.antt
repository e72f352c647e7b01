-- What the answer of a pass over the data says of a file.
use Rattle.std.{proofs.{Common.{◌≡◌, ℕ, ◌+◌, ◌*◌, ◌/◌, ◌<◌, ◌≤◌, List, [], length, sym, arith}, Math.Nat.div-eq_of_lt-le}, specs.Prelude.min}
use Rattle.{verity_io.specs.Reading.HasRead, verity_blocks.specs.{Levels.data_blocks, TreeWriting.tree_on_device}}
use Rattle.{verity_pass.specs.Reading.{EndsWithin, FailsWithin}, fsverity.specs.Runs.FileDigest.with_tree}
use Rattle.verity_plan.specs.{Plans.{PlanFields, plan_of_file}, Settings.TreeSettingsFields}

-- a source that ended within block i holds so many blocks, and not all that is wanted
pub ends_short : (p : PlanFields) (i : ℕ) (before after : List ℕ) → EndsWithin p i before after →
    (length before < p.wanted) × (i ≡ length before / p.settings.data_block) × (after ≡ [])
ends_short p i before after ends =
    let short : length before < p.wanted = omega (arith, ends.short) in
    let from : i * p.settings.data_block ≤ length before = omega (arith, ends.enough, short) in
    let to : length before < (i + 1) * p.settings.data_block = omega (arith, ends.short) in
    (short, sym (div-eq_of_lt-le p.settings.data_block from to), ends.rest)

-- a source that failed within block i was read so far, and less than all that is wanted
pub fails_within : (p : PlanFields) (i : ℕ) (before after : List ℕ) → FailsWithin p i before after →
    (count : ℕ) × (i * p.settings.data_block ≤ count) × (count < min ((i + 1) * p.settings.data_block) p.wanted)
    × HasRead count before after
fails_within p i before after fails = (fails.count, omega (arith, fails.from, fails.to), fails.to, fails.read)

-- the device of a file that isn't empty holds its tree
pub tree_of_some : (s : TreeSettingsFields) (size : ℕ) (bytes device : List ℕ) → 0 < size
    → tree_on_device (plan_of_file s size) (data_blocks (plan_of_file s size) bytes) device ≡ with_tree s size bytes device
tree_of_some s size bytes device some = grind arith
