use Rattle.std.proofs.{Common.{◌≡◌, ℕ, ◌/◌, ◌^◌, ◌≤◌, arith, ap, min, sym, ◌∙◌}, Math.Nat.{div-mul-le_self, mul-le-mul_right}}
use Rattle.verity_plan.{proofs.{FanLemmas.{block_power, some_data}, FitLemmas.power_of_two-exponent}, specs.Settings.{fan, most_block}}
use Rattle.verity_blocks.{specs.Windows.window_blocks, proofs.window.window_blocks.Goals.After-min-2}
use Rattle.verity_blocks.proofs.window.window_blocks.Goals as goal

-- a data block's size is a power of two, by whose exponent the largest block is shifted
blocks : (c : After-min-2) → c.min-2.result ≡ window_blocks c.args.settings.now
unfolding window_blocks
blocks c =
    let s = c.args.settings.now in
    let valid = c.data_block.ensures.valid in
    let size : s.data_block ≡ 2 ^ c.ilog2-room.result =
    power_of_two-exponent s.data_block c.ilog2-room.result (some_data s valid)
    (block_power _ s.data_block valid.data_block_size)
    (omega (arith, c.data_block.ensures.value, c.ilog2-room.ensures.power_le))
    (omega (arith, c.data_block.ensures.value, c.ilog2-room.ensures.next_power_gt)) in
    c.min-2.ensures
    ∙ ap (λ (n : ℕ). min n c.fan.result) c.min.ensures
    ∙ ap (λ (n : ℕ). min (min 8 (most_block / 2 ^ c.ilog2-room.result)) n) c.fan.ensures.value
    ∙ ap (λ (n : ℕ). min (min 8 (most_block / n)) (fan s)) (sym size)

pub returns-clause-value : goal.returns-clause-value
returns-clause-value c = blocks (goal.at.returns-clause-value c).After-min-2

pub returns-clause-room : goal.returns-clause-room
unfolding window_blocks
returns-clause-room c =
    let s = c.args.settings.now in
    let few : c.min-2.result ≤ 524288 / s.data_block = omega (arith, blocks (goal.at.returns-clause-room c).After-min-2) in
    omega (arith, mul-le-mul_right s.data_block few, div-mul-le_self 524288 s.data_block)
