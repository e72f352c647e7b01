use Rattle.{std.proofs.Common.{◌≡◌, ◌+◌, arith, subst}, sha_instructions.specs.Sha512Vectors.IsAt}
use Rattle.sha2.specs.Sha512 as S512
use Rattle.sha_instructions.proofs.sha_512.sixteen_rounds.Goals as goal

pub returns : goal.returns
returns c s b at =
    let w = S512.schedule b 64 in
    let t = c.args.t in
    let at4 : t + 2 + 2 ≡ t + 4 = omega arith in
    let at6 : t + 4 + 2 ≡ t + 6 = omega arith in
    let at8 : t + 6 + 2 ≡ t + 8 = omega arith in
    let at10 : t + 8 + 2 ≡ t + 10 = omega arith in
    let at12 : t + 10 + 2 ≡ t + 12 = omega arith in
    let at14 : t + 12 + 2 ≡ t + 14 = omega arith in
    let at16 : t + 14 + 2 ≡ t + 16 = omega arith in
    let is4 = subst (IsAt c.step-x-2.result s w) at4 (c.step-x-2.ensures s b (c.step-x.ensures s b at)) in
    let is6 = subst (IsAt c.step-x-3.result s w) at6 (c.step-x-3.ensures s b (is4)) in
    let is8 = subst (IsAt c.step-x-4.result s w) at8 (c.step-x-4.ensures s b (is6)) in
    let is10 = subst (IsAt c.step-x-5.result s w) at10 (c.step-x-5.ensures s b (is8)) in
    let is12 = subst (IsAt c.step-x-6.result s w) at12 (c.step-x-6.ensures s b (is10)) in
    let is14 = subst (IsAt c.step-x-7.result s w) at14 (c.step-x-7.ensures s b (is12)) in
    subst (IsAt c.step.result s w) at16 (c.step.ensures s b is14)
