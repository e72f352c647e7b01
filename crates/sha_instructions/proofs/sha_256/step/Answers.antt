use Rattle.{std.proofs.Common.{◌≡◌, ◌+◌, ap, ◌∙◌, arith}, sha_instructions.specs.Vectors.four}
use Rattle.sha2.specs.Sha256 as S256
use Rattle.sha_instructions.proofs.sha_256.step.Goals as goal

pub returns : goal.returns
returns c s b is =
    let t = c.args.t in
    let w = S256.schedule b 48 in
    let at2 : t + 8 ≡ t + 4 + 4 = omega arith in
    let at3 : t + 12 ≡ t + 4 + 8 = omega arith in
    let at4 : t + 16 ≡ t + 4 + 12 = omega arith in (
      c.four_rounds.ensures s w is.0 is.1,
      is.2,
      is.3 ∙ ap (four w) at2,
      is.4 ∙ ap (four w) at3,
      c.next_four-next.ensures b t c.requires is.1 is.2 is.3 is.4 ∙ ap (four w) at4,
    )
