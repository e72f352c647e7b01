use Rattle.{std.proofs.{Common.{◌≡◌, ℕ, ◌+◌, ◌*◌, ◌<◌, arith, sym, ◌∙◌, ap, inl, inr}, Math.Nat.mul-le-mul_right}, verity_io.specs.Writing.most_bytes}
use Rattle.verity_plan.specs.Plans.{level_count, blocks_from, PlanFields, end_place_of}
use Rattle.verity_plan.proofs.FanLemmas.{some_data, two_slots, digest_len_of-pos, fan-power}
use Rattle.verity_plan.proofs.PlanLemmas.{some_wanted, checked_plan-large, past-quotient, within-quotient, base-le-end, has_room-data, has_room-hash}
use Rattle.verity_plan.proofs.plan.Plan.try_new.Goals as goal

pub returns-then-blocks-most_blocks : goal.returns-then-blocks-most_blocks
returns-then-blocks-most_blocks c =
    let s = c.args.settings.now in
    let p : PlanFields = record { settings = s; blocks = c.args.blocks; wanted = c.args.wanted; base = c.args.base } in
    let some : 0 < c.args.blocks = omega (arith, c.if-blocks-eq0.false) in
    let data_is : c.from-most_blocks.result ≡ s.data_block = c.from-most_blocks.ensures ∙ c.data_block.ensures.value in
    let hash_is : c.from-most_end.result ≡ s.hash_block = c.from-most_end.ensures ∙ c.hash_block.ensures.value in
    let hash_some : 0 < c.from-most_end.result =
    omega (arith, hash_is, two_slots s c.hash_block.ensures.valid, digest_len_of-pos s.algorithm) in
    let data_some : 0 < c.from-most_blocks.result = omega (arith, data_is, some_data s c.data_block.ensures.valid) in
    elim c.then-blocks-most_blocks.either [
      | inl many ↦ sym (checked_plan-large p some (has_room-data p
          (omega (
            arith,
            past-quotient most_bytes c.from-most_blocks.result c.args.blocks data_some many,
            ap (λ (n : ℕ). c.args.blocks * n) data_is,
          ))))
      | inr far ↦ sym (checked_plan-large p some (has_room-hash p
          (omega (
            arith,
            past-quotient most_bytes c.from-most_end.result c.args.base hash_some far.1,
            ap (λ (n : ℕ). c.args.base * n) hash_is,
            mul-le-mul_right s.hash_block (base-le-end p),
          ))))
    ]

pub returns-then-end-most_end : goal.returns-then-end-most_end
returns-then-end-most_end c =
    let s = c.args.settings.now in
    let p : PlanFields = record { settings = s; blocks = c.args.blocks; wanted = c.args.wanted; base = c.args.base } in
    let some : 0 < c.args.blocks = omega (arith, c.if-blocks-eq0.false) in
    let hash_is : c.from-most_end.result ≡ s.hash_block = c.from-most_end.ensures ∙ c.hash_block.ensures.value in
    let hash_some : 0 < c.from-most_end.result =
    omega (arith, hash_is, two_slots s c.hash_block.ensures.valid, digest_len_of-pos s.algorithm) in
    let end_is : c.args.base + c.levels_above-tree.result.blocks ≡ end_place_of p =
    ap (λ (n : ℕ). c.args.base + n) (c.levels_above-tree.ensures.blocks
    ∙ ap (λ (f : ℕ). blocks_from f c.args.blocks 0 (level_count f c.args.blocks)) c.fan.ensures.value) in
    sym (checked_plan-large p some (has_room-hash p
    (omega (
      arith,
      past-quotient most_bytes c.from-most_end.result _ hash_some c.if-end-most_end.true,
      ap (λ (n : ℕ). (c.args.base + c.levels_above-tree.result.blocks) * n) hash_is,
      ap (λ (n : ℕ). n * s.hash_block) end_is,
    ))))

pub invariant_of-result : goal.invariant_of-result
invariant_of-result c =
    let s = c.args.settings.now in
    let p : PlanFields = record { settings = s; blocks = c.args.blocks; wanted = c.args.wanted; base = c.args.base } in
    let data_is : c.from-most_blocks.result ≡ s.data_block = c.from-most_blocks.ensures ∙ c.data_block.ensures.value in
    let hash_is : c.from-most_end.result ≡ s.hash_block = c.from-most_end.ensures ∙ c.hash_block.ensures.value in
    let end_is : c.args.base + c.levels_above-tree.result.blocks ≡ end_place_of p =
    ap (λ (n : ℕ). c.args.base + n) (c.levels_above-tree.ensures.blocks
    ∙ ap (λ (f : ℕ). blocks_from f c.args.blocks 0 (level_count f c.args.blocks)) c.fan.ensures.value) in
    record {
      planned = record {
        valid = c.data_block.ensures.valid;
        some = some_wanted c.args.wanted s.data_block c.args.blocks c.requires (omega (arith, c.if-blocks-eq0.false));
        blocks_are = c.requires;
        data_most = omega (
          arith,
          within-quotient most_bytes c.from-most_blocks.result c.args.blocks c.if-blocks-most_blocks.false,
          ap (λ (n : ℕ). c.args.blocks * n) data_is,
        );
        hash_most = omega (
          arith,
          within-quotient most_bytes c.from-most_end.result _ c.if-end-most_end.false,
          ap (λ (n : ℕ). (c.args.base + c.levels_above-tree.result.blocks) * n) hash_is,
          ap (λ (n : ℕ). n * s.hash_block) end_is,
        );
      };
      levels_are = c.levels_above-tree.ensures.levels
          ∙ ap (λ (f : ℕ). level_count f c.args.blocks) c.fan.ensures.value;
      end_is = end_is;
    }

pub levels_above-tree-requires-clause-power : goal.levels_above-tree-requires-clause-power
levels_above-tree-requires-clause-power c =
    let power = fan-power c.args.settings.now in (power.0, c.fan.ensures.value ∙ power.1)
