-- All of a piece is taken.
use Rattle.std.proofs.{Common.{◌≡◌, ℕ, ◌+◌, ◌-◌, ◌*◌, ◌<◌, ◌≤◌, ◌++◌, length, take, arith, inl, inr, append_assoc}, lemmas.Bool.cases_lt}
use Rattle.{std.proofs.lemmas.List.take_all, verity_plan.{specs.PlanCounts.level_count_of, proofs.CountLemmas.mul_le}}
use Rattle.verity_blocks.proofs.ClosingSteps.Advancing.{length-fed, take-of_rest}
use Rattle.verity_builders.proofs.feeding.steps.feed_all.Goals as goal

-- a step takes bytes, or closes one level more
step-smaller : (all taken count levels closed new_closed : ℕ) → taken < all → taken + count ≤ all
    → (0 < count → new_closed ≡ 0) → (count ≡ 0 → (new_closed ≡ closed + 1) × (closed < levels))
    → (all - (taken + count)) * (levels + 1) + (levels - new_closed)
    < (all - taken) * (levels + 1) + (levels - closed)
step-smaller all taken count levels closed new_closed before most takes closes =
    elim (cases_lt 0 count) [
      | inl some ↦
          omega (arith, mul_le (all - (taken + count) + 1) (all - taken) (levels + 1) (omega (arith, before, most, some)))
      | inr none ↦
          let step = closes (omega (arith, none)) in
          let same : all - (taken + count) ≡ all - taken = omega (arith, none) in
          rw same (omega (arith, step.0, step.1))
    ]

pub pieces-smaller : goal.pieces-smaller
pieces-smaller c =
    let piece = c.args.piece.now in
    let most : c.pieces.taken + c.advance-taken.result ≤ length piece = omega arith in
    step-smaller (length piece) c.pieces.taken c.advance-taken.result (level_count_of c.args.plan.now)
    c.pieces.progress.closed c.advance-taken.new.progress.closed c.pieces-test.true most c.advance-taken.ensures.taken
    (λ none. let step = c.advance-taken.ensures.closed none in (step.0, omega (arith, step.1, c.levels-levels.ensures)))

pub pieces-preserved : goal.pieces-preserved
pieces-preserved c =
    let inv = c.pieces.invariant in
    let piece = c.args.piece.now in
    let taken = c.pieces.taken in
    let step = c.advance-taken.ensures in
    record {
      most = omega arith;
      fed = omega arith;
      closed = elim (cases_lt 0 c.advance-taken.result) [
        | inl some ↦ omega (arith, step.taken some)
        | inr none ↦ let up = step.closed (omega (arith, none)) in omega (arith, up.0, up.1, c.levels-levels.ensures)
      ];
      none_closes = λ last. step.taken (omega (arith, last, c.pieces-test.true));
      stands = λ levels fed enough room many h.
          let all : length (fed ++ take taken piece) ≡ c.pieces.progress.fed =
          length-fed fed piece c.args.count taken c.pieces.progress.fed many inv.most inv.fed in
          let next = step.stands levels (fed ++ take taken piece)
          (omega (arith, enough, c.levels-levels.ensures))
          (omega (arith, room, c.pieces.auto.opened)) all (inv.stands levels fed enough room many h) in
          rw (← take-of_rest taken c.advance-taken.result piece, ← append_assoc) next.stands;
    }

pub returns : goal.returns
returns c = λ levels fed enough room many h.
    let inv = c.pieces.invariant in
    let all : c.pieces.taken ≡ length c.args.piece.now = omega (arith, inv.most, c.pieces-test.false) in
    rw (take_all c.pieces.taken c.args.piece.now (omega (arith, all)), inv.none_closes all)
    at (inv.stands levels fed enough room many h)
