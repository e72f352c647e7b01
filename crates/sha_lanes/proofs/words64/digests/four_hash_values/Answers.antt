use Rattle.{std.proofs.Common.{ℕ, ◌+◌, ◌*◌, ◌<◌, ◌≤◌, length, ap, ◌∙◌, arith}, sha_lanes.{specs.Lanes.message_of, proofs.LaneWise.four_cases}}
use Rattle.sha2.specs.Sha512 as S512
use Rattle.sha_lanes.proofs.words64.digests.four_hash_values.Goals as goal

pub returns : goal.returns
returns c =
    let hashed = λ (j : ℕ) (lt : j < 4) (within : j * c.args.len + c.args.len ≤ length c.args.parts.now).
    c.hash.ensures j lt within
    ∙ ap (λ z. S512.final_hash z (message_of c.args.before.now c.args.parts.now c.args.len c.args.after.now j)) (c.in_each_lane-state.ensures j lt) in
    four_cases _
    (λ within. c.words_of.ensures ∙ hashed 0 (omega arith) within)
    (λ within. c.words_of-2.ensures ∙ hashed 1 (omega arith) within)
    (λ within. c.words_of-3.ensures ∙ hashed 2 (omega arith) within)
    (λ within. c.words_of-4.ensures ∙ hashed 3 (omega arith) within)
