use Rattle.{std.proofs.Common.{◌≡◌, ◌+◌, arith, subst}, sha_instructions.specs.Sha1Vectors.IsAt}
use Rattle.sha1.specs.Sha1 as S1
use Rattle.sha_instructions.proofs.sha_1.sixteen_rounds_of_two.Goals as goal

pub returns-clause-of_first : goal.returns-clause-of_first
returns-clause-of_first c s b at =
    let w = S1.schedule b 64 in
    let t = c.args.t in
    let at8 : t + 4 + 4 ≡ t + 8 = omega arith in
    let at12 : t + 8 + 4 ≡ t + 12 = omega arith in
    let at16 : t + 12 + 4 ≡ t + 16 = omega arith in
    let is8 = subst (IsAt c.args.for_arm c.step-x-2.result s w) at8 (c.step-x-2.ensures s b (c.step-x.ensures s b at)) in
    let is12 = subst (IsAt c.args.for_arm c.step-x-3.result s w) at12 (c.step-x-3.ensures s b is8) in
    subst (IsAt c.args.for_arm c.step-x-4.result s w) at16 (c.step-x-4.ensures s b is12)

pub returns-clause-of_second : goal.returns-clause-of_second
returns-clause-of_second c s b at =
    let w = S1.schedule b 64 in
    let t = c.args.t in
    let at8 : t + 4 + 4 ≡ t + 8 = omega arith in
    let at12 : t + 8 + 4 ≡ t + 12 = omega arith in
    let at16 : t + 12 + 4 ≡ t + 16 = omega arith in
    let is8 = subst (IsAt c.args.for_arm c.step-y-2.result s w) at8 (c.step-y-2.ensures s b (c.step-y.ensures s b at)) in
    let is12 = subst (IsAt c.args.for_arm c.step-y-3.result s w) at12 (c.step-y-3.ensures s b is8) in
    subst (IsAt c.args.for_arm c.step-y-4.result s w) at16 (c.step-y-4.ensures s b is12)
