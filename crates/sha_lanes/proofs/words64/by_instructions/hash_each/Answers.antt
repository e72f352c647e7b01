use Rattle.std.proofs.Common.{◌≡◌, ℕ, ◌+◌, ◌*◌, ◌<◌, ◌++◌, List, length, ap, ◌∙◌, arith}
use Rattle.std.proofs.lemmas.List.{length-set}
use Rattle.sha_lanes.{specs.Lanes.message_of, proofs.Runs.{part_at, row_set}}
use Rattle.sha2.specs.Sha512 as S512
use Rattle.sha_lanes.proofs.words64.by_instructions.hash_each.Goals as goal

pub loop-j-preserved : goal.loop-j-preserved
loop-j-preserved c =
    let values = c.loop-j.values in
    let len = c.args.len in
    let n = c.loop-j.j in
    let Hashed = λ (j : ℕ) (value : List ℕ).
    value ≡ S512.final_hash c.args.initial.now (message_of c.args.before.now c.args.parts.now len c.args.after.now j) in
    let with_part = λ (part : List ℕ). S512.final_hash c.args.initial.now (c.args.before.now ++ part ++ c.args.after.now) in
    let room : n < length values = omega (arith, c.loop-j.invariant.long, c.requires.most, c.loop-j-test.true) in
    record {
      long = length-set values n c.hash_one.result ∙ c.loop-j.invariant.long;
      hashed = row_set Hashed values n c.hash_one.result room c.loop-j.invariant.hashed
          (c.hash_one.ensures ∙ ap with_part (part_at c.args.parts.now len (n * len) (n * len + len) n (omega arith) (omega arith)));
    }
