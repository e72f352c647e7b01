use Rattle.std.proofs.Common.{◌≡◌, ℕ, ◌+◌, ◌*◌, ◌<◌, ◌≤◌, ◌++◌, length, ap, ◌∙◌, arith}
use Rattle.sha_lanes.proofs.{LaneWise.first_cases, Pieces.{part_below, part_of_rest, length_of_rest}}
use Rattle.sha2.specs.Sha512 as S512
use Rattle.sha_lanes.proofs.words64.digests.hash_values.Goals as goal

pub returns : goal.returns
returns c =
    let before = c.args.before.now in
    let parts = c.args.parts.now in
    let len = c.args.len in
    let after = c.args.after.now in
    let within : (j : ℕ) → j < c.args.count → j * len + len ≤ length parts = λ j lt.
    omega (arith, c.requires.whole, part_below c.args.count j len lt) in
    let first = λ (j : ℕ) (lane : j < 4) (lt : j < c.args.count).
    c.four_hash_values.ensures j lane (within j lt) in
    let second = λ (j i : ℕ) (lane : j < 4) (place : i * len ≡ 4 * len + j * len) (lt : i < c.args.count).
    let room : i * len + len ≤ length parts = within i lt in
    c.four_hash_values-2.ensures j lane (omega (arith, place, room, length_of_rest parts (4 * len) (omega arith)))
    ∙ ap (λ z. S512.final_hash c.args.initial.now (before ++ z ++ after))
    (part_of_rest parts len (4 * len) (i * len) j place room) in
    first_cases _ c.requires.most
    (first 0 (omega arith))
    (first 1 (omega arith))
    (first 2 (omega arith))
    (first 3 (omega arith))
    (second 0 4 (omega arith) (omega arith))
    (second 1 5 (omega arith) (omega arith))
    (second 2 6 (omega arith) (omega arith))
    (second 3 7 (omega arith) (omega arith))
