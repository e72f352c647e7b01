use Rattle.std.proofs.Common.{ℕ, ◌+◌, ◌<◌, refl, ◌∙◌, arith}
use Rattle.sha_lanes.{specs.Sha1.first_round, proofs.{LaneWise.word_of_lane, HashSha1.{kind_ends, five_words, round_next}}}
use Rattle.sha_lanes.proofs.sha_1.plain_rounds.five_rounds.Goals as goal

pub returns : goal.returns
returns c w s adds at =
    let kind = c.args.kind in
    let t = c.args.t in
    let word = λ (u : ℕ) (lt : u < first_round kind + 20).
    word_of_lane c.args.kw.now c.args.j u ∙ adds u (omega (arith, kind_ends kind)) in
    let r1 = round_next kind s w t (t + 1) (omega arith) (omega arith) (omega arith) (five_words c.args.v.now c.told-v ∙ at) refl refl
    (c.round-e.ensures _ _ (word t (omega arith))) in
    let r2 = round_next kind s w (t + 1) (t + 2) (omega arith) (omega arith) (omega arith) r1 refl refl
    (c.round-d.ensures _ _ (word (t + 1) (omega arith))) in
    let r3 = round_next kind s w (t + 2) (t + 3) (omega arith) (omega arith) (omega arith) r2 refl refl
    (c.round-c.ensures _ _ (word (t + 2) (omega arith))) in
    let r4 = round_next kind s w (t + 3) (t + 4) (omega arith) (omega arith) (omega arith) r3 refl refl
    (c.round-b.ensures _ _ (word (t + 3) (omega arith))) in
    round_next kind s w (t + 4) (t + 5) (omega arith) (omega arith) (omega arith) r4 refl refl
    (c.round-a.ensures _ _ (word (t + 4) (omega arith)))
