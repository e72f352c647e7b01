use Rattle.{std.proofs.{Common.{◌≡◌, ℕ, ◌*◌, ◌/◌, ◌^◌, ◌<◌, ◌≤◌, arith, sym, ◌∙◌, ap}, Math.Nat.div-le_self}, verity_io.specs.Writing.most_bytes}
use Rattle.verity_plan.{specs.{Plans.level_count, Settings.{IsValid, TreeSettingsFields}}, proofs.FanLemmas.{block_power, fan-power, some_data}}
use Rattle.verity_plan.proofs.{FitLemmas.power_of_two-exponent, PlanLemmas.level_count-few}
use Rattle.verity_plan.proofs.plan.Plan.most_levels.Goals as goal

-- how many data blocks there can be: a data block's size is a power of two, by whose exponent bytes are shifted
largest-is : (s : TreeSettingsFields) (size log : ℕ) → IsValid s → size ≡ s.data_block → 2 ^ log ≤ size
    → size < 2 * 2 ^ log → most_bytes / 2 ^ log ≡ most_bytes / s.data_block
largest-is s size log valid same low high =
    ap (λ (n : ℕ). most_bytes / n)
    (sym (power_of_two-exponent s.data_block log (some_data s valid) (block_power _ s.data_block valid.data_block_size)
    (omega (arith, low, same)) (omega (arith, high, same))))

pub returns-clause-value : goal.returns-clause-value
returns-clause-value c =
    let s = c.args.settings.now in
    c.levels_above.ensures.levels
    ∙ ap (λ (n : ℕ). level_count n (most_bytes / 2 ^ c.ilog2.result)) c.fan.ensures.value
    ∙ ap (level_count _) (largest-is s c.data_block.result c.ilog2.result c.data_block.ensures.valid
    c.data_block.ensures.value c.ilog2.ensures.power_le c.ilog2.ensures.next_power_gt)

pub returns-clause-few : goal.returns-clause-few
returns-clause-few c =
    let few : most_bytes / 2 ^ c.ilog2.result ≤ most_bytes = div-le_self most_bytes (2 ^ c.ilog2.result) in
    omega (
      arith,
      c.levels_above.ensures.levels,
      level_count-few c.fan.result (most_bytes / 2 ^ c.ilog2.result) c.fan.ensures.two few,
    )

pub levels_above-requires-clause-power : goal.levels_above-requires-clause-power
levels_above-requires-clause-power c =
    let power = fan-power c.args.settings.now in (power.0, c.fan.ensures.value ∙ power.1)
