use Rattle.std.proofs.Common.{◌≡◌, ℕ, ◌+◌, ◌-◌, ◌*◌, ◌<◌, ◌++◌, List, length, ap, ◌∙◌, arith}
use Rattle.std.proofs.{lemmas.List.length-set, Math.ListN.set}
use Rattle.sha_lanes.{specs.{Lanes.{message_of}, Sha1.final_hash}, proofs.Runs.{part_at, row_set}}
use Rattle.sha_lanes.proofs.sha_1.by_instructions.hash_each.Goals as goal

pub loop-pair-preserved : goal.loop-pair-preserved
loop-pair-preserved c =
    let values = c.loop-pair.values in
    let len = c.args.len in
    let n = 2 * c.loop-pair.pair in
    let from = n * len in
    let Hashed = λ (j : ℕ) (value : List ℕ).
    value ≡ final_hash (message_of c.args.before.now c.args.parts.now len c.args.after.now j) in
    let with_part = λ (part : List ℕ). final_hash (c.args.before.now ++ part ++ c.args.after.now) in
    let first = c.hash_two.result.0 in
    let second = c.hash_two.result.1 in
    let more = set values n first in
    let long : length more ≡ 8 = length-set values n first ∙ c.loop-pair.invariant.long in
    let one : n < length values = omega (arith, c.loop-pair.invariant.long, c.requires.most, c.loop-pair-test.true) in
    let two : n + 1 < length more = omega (arith, long, c.requires.most, c.loop-pair-test.true) in
    let hashed =
    row_set Hashed more (n + 1) second two
    (row_set Hashed values n first one c.loop-pair.invariant.hashed
    (c.hash_two.ensures.of_first ∙ ap with_part (part_at c.args.parts.now len from (from + len) n (omega arith) (omega arith))))
    (c.hash_two.ensures.of_second ∙ ap with_part (part_at c.args.parts.now len (from + len) (from + 2 * len) (n + 1) (omega arith) (omega arith))) in
    record {
      long = length-set more (n + 1) second ∙ long;
      hashed = λ j lt. hashed j (omega (arith, lt));
    }

pub returns-then-count-gt0 : goal.returns-then-count-gt0
returns-then-count-gt0 c j lt =
    let len = c.args.len in
    let n = c.args.count - 1 in
    let Hashed = λ (j : ℕ) (value : List ℕ).
    value ≡ final_hash (message_of c.args.before.now c.args.parts.now len c.args.after.now j) in
    let with_part = λ (part : List ℕ). final_hash (c.args.before.now ++ part ++ c.args.after.now) in
    let last : n < length c.loop-pair.values = omega (arith, c.loop-pair.invariant.long, c.requires.most) in
    row_set Hashed c.loop-pair.values n c.hash_one.result last
    (λ i below. c.loop-pair.invariant.hashed i (omega (arith, below)))
    (c.hash_one.ensures ∙ ap with_part (part_at c.args.parts.now len (n * len) (n * len + len) n (omega arith) (omega arith)))
    j (omega (arith, lt))
