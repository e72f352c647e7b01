-- The parts are those that the bytes say.
use Rattle.std.proofs.{Common.{◌≡◌, ◌+◌, ◌-◌, rules, arith, ap, sym, ◌∙◌, take, drop, length, length-drop}, lemmas.List.length-take-le}
use Rattle.verity_format.proofs.reading.read_settings.Goals as goal

pub returns-clause-value : goal.returns-clause-value
returns-clause-value c =
    let s = c.args.bytes.now in
    let n = c.u16_at-salt_size.result in
    let made = c.settings_within_limits.ensures.value in
    let less : 88 + n - 88 ≡ n = omega arith in
    let held : length (take n (drop 88 s)) ≡ n = length-take-le n (drop 88 s) (omega (arith, length-drop 88 s)) in
    let salt : c.settings_within_limits.result.salt ≡ take n (drop 88 s) =
    ap (λ t. t.salt) made ∙ ap (λ m. take m (drop 88 s)) less in
    let long : length c.settings_within_limits.result.salt ≡ n = ap length salt ∙ held in
    record {
      name = search rules;
      data_block = sym c.u32_at-data_block.ensures ∙ sym (ap (λ t. t.data_block) made);
      hash_block = sym c.u32_at-hash_block.ensures ∙ sym (ap (λ t. t.hash_block) made);
      salt_size = sym c.u16_at-salt_size.ensures ∙ sym long;
      salt = ap (λ m. take m (drop 88 s)) long ∙ sym salt;
    }
