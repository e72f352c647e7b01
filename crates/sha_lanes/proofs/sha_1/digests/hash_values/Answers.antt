use Rattle.std.proofs.Common.{ℕ, ◌+◌, ◌*◌, ◌<◌, ◌≤◌, length, ◌∙◌, arith}
use Rattle.sha_lanes.proofs.{LaneWise.first_cases, Pieces.part_below}
use Rattle.sha_lanes.proofs.sha_1.digests.hash_values.Goals as goal

pub returns : goal.returns
returns c =
    let hashed = λ (j : ℕ) (lt : j < c.args.count).
    let within : j * c.args.len + c.args.len ≤ length c.args.parts.now =
    omega (arith, c.requires.whole, part_below c.args.count j c.args.len lt) in
    c.hash-state.ensures j (omega (arith, c.requires.most)) within in
    first_cases _ c.requires.most
    (λ lt. c.words_of.ensures ∙ hashed 0 lt)
    (λ lt. c.words_of-2.ensures ∙ hashed 1 lt)
    (λ lt. c.words_of-3.ensures ∙ hashed 2 lt)
    (λ lt. c.words_of-4.ensures ∙ hashed 3 lt)
    (λ lt. c.words_of-5.ensures ∙ hashed 4 lt)
    (λ lt. c.words_of-6.ensures ∙ hashed 5 lt)
    (λ lt. c.words_of-7.ensures ∙ hashed 6 lt)
    (λ lt. c.words_of-8.ensures ∙ hashed 7 lt)
