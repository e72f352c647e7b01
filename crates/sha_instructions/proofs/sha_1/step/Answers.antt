use Rattle.{std.proofs.Common.{◌≡◌, ℕ, ◌+◌, ap, ◌∙◌, arith}, sha_instructions.specs.{Sha1Vectors.in_vector, Vectors.four}}
use Rattle.sha1.specs.Sha1 as S1
use Rattle.sha_instructions.proofs.sha_1.step.Goals as goal

pub returns : goal.returns
returns c s b is =
    let t = c.args.t in
    let w = S1.schedule b 64 in
    let words = λ (n : ℕ). in_vector c.args.for_arm (four w n) in
    let at2 : t + 8 ≡ t + 4 + 4 = omega arith in
    let at3 : t + 12 ≡ t + 4 + 8 = omega arith in
    let at4 : t + 16 ≡ t + 4 + 12 = omega arith in (
      c.four_rounds.ensures s w is.0 is.1,
      is.2,
      is.3 ∙ ap words at2,
      is.4 ∙ ap words at3,
      c.next_four-next.ensures b t c.requires.last is.1 is.2 is.3 is.4 ∙ ap words at4,
    )
