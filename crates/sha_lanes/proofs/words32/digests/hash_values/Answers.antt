use Rattle.std.proofs.Common.{ℕ, ◌+◌, ◌*◌, ◌<◌, ◌≤◌, length, ap, ◌∙◌, arith}
use Rattle.sha_lanes.{specs.Lanes.message_of, proofs.{LaneWise.first_cases, Pieces.part_below}}
use Rattle.sha2.specs.Sha256 as S256
use Rattle.sha_lanes.proofs.words32.digests.hash_values.Goals as goal

pub returns : goal.returns
returns c =
    let hashed = λ (j : ℕ) (lt : j < c.args.count).
    let lane : j < 8 = omega (arith, c.requires.most) in
    let within : j * c.args.len + c.args.len ≤ length c.args.parts.now =
    omega (arith, c.requires.whole, part_below c.args.count j c.args.len lt) in
    c.hash.ensures j lane within
    ∙ ap (λ z. S256.final_hash z (message_of c.args.before.now c.args.parts.now c.args.len c.args.after.now j))
    (c.in_each_lane-state.ensures j lane) in
    first_cases _ c.requires.most
    (λ lt. c.words_of.ensures ∙ hashed 0 lt)
    (λ lt. c.words_of-2.ensures ∙ hashed 1 lt)
    (λ lt. c.words_of-3.ensures ∙ hashed 2 lt)
    (λ lt. c.words_of-4.ensures ∙ hashed 3 lt)
    (λ lt. c.words_of-5.ensures ∙ hashed 4 lt)
    (λ lt. c.words_of-6.ensures ∙ hashed 5 lt)
    (λ lt. c.words_of-7.ensures ∙ hashed 6 lt)
    (λ lt. c.words_of-8.ensures ∙ hashed 7 lt)
