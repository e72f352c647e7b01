-- A hash block closes, or bytes may come.
use Rattle.std.proofs.Common.{◌≡◌, ◌⊎◌, ℕ, ◌+◌, ◌-◌, ◌*◌, ◌/◌, ◌^◌, ◌<◌, ◌≤◌, ◌%◌, List, length, true, false, arith, refl, inl, inr, sym, ◌∙◌, ap}
use Rattle.{std.proofs.lemmas.Bool.{cases_lt, Decides.nat_tests}, verity_plan.{specs.Settings.fan, proofs.CountLemmas.mul_le}}
use Rattle.verity_blocks.{specs.{Steps.{Feeding.{EndsWindow, Stands}, OpenBlocks.Adds}, Windows.window_length}, proofs.Levels.CutBlocks.length-cut}
use Rattle.verity_blocks.proofs.ClosingSteps.{Advancing.{KeepsOpen-settled, Stands-ends, Stands-settled}, Climbing.{most_closed-le, nothing-out}}
use Rattle.verity_blocks.proofs.ClosingSteps.Climbing.{climbs-closed, climbs-kept, climbs-past, handing-out, most_closed-all, most_closed-early}
use Rattle.verity_blocks.{proofs.{Windows.LastByte.{last-below, last-block}, OpenBlocks.DigestsInTurn.IsCarrying-first}, specs.Levels.data_blocks}
use Rattle.verity_blocks.proofs.closing.close_next.Goals.{Joined-count-gt0, Joined-level-eq0, Then-level-most_closed, else-level-eq0, then-level-eq0}
use Rattle.verity_blocks.proofs.closing.close_next.Goals.{then-count-gt0+then-count-wide-eq0, then-level-gt0, else-level-gt0}
use Rattle.verity_blocks.{proofs.closing.close_next.Goals.{then-count-gt0+else-count-wide-eq0, else-count-gt0}, specs.ClosingOrder.blocks_before}
use Rattle.verity_blocks.proofs.closing.close_next.Goals as goal

-- the bytes that are in the window, as the code counts them
in-window : (c : Joined-count-gt0) → (n : ℕ) → n ≡ c.args.progress.now.fed
    → n % window_length c.args.plan.now.settings ≡ c.args.progress.now.fed % c.window_length-wide.result
in-window c n count =
    ap (λ (k : ℕ). k % window_length c.args.plan.now.settings) count
    ∙ ap (λ (k : ℕ). c.args.progress.now.fed % k) (sym (c.window_length-wide.ensures.value ∙ ap window_length c.settings.ensures))

-- when the code finds that a window ends, it does
found : (c : Joined-count-gt0) → c.if-count-gt0.ends ≡ true → (0 < c.args.progress.now.fed)
    × ((0 < c.args.progress.now.closed)
    ⊎ ((c.args.progress.now.fed % window_length c.args.plan.now.settings ≡ 0)
    ⊎ (c.args.progress.now.fed ≡ c.args.plan.now.wanted)))
found c test = elim c.if-count-gt0.branch [
  | then-count-gt0+then-count-wide-eq0 w ↦ (
    omega (arith, w.if-count-gt0.true),
    elim w.if-level-gt0.branch [
      | then-level-gt0 v ↦ inl v.if-level-gt0.true
      | else-level-gt0 v ↦
          let none : c.args.progress.now.fed % c.window_length-wide.result ≡ 0 =
          grind (arith, nat_tests, sym v.value-is ∙ w.if-count-wide-eq0.true) in
          inr (inl (in-window c _ refl ∙ none))
    ],
  )
  | then-count-gt0+else-count-wide-eq0 w ↦ (
    omega (arith, w.if-count-gt0.true),
    let all : c.args.progress.now.fed ≡ w.wanted.result = grind (arith, nat_tests, sym w.ends-is ∙ test) in
        inr (inr (all ∙ w.wanted.ensures.value)),
  )
  | else-count-gt0 w ↦
      let some : 0 < c.args.progress.now.fed = grind (arith, nat_tests, sym w.ends-is ∙ test) in
      absurd (omega (arith, some, w.if-count-gt0.false))
]

ended : (c : Joined-count-gt0) → c.if-count-gt0.ends ≡ true → (levels : ℕ) (fed : List ℕ)
    → length fed ≡ c.args.progress.now.fed
    → Stands c.args.plan.now levels fed c.args.progress.now.closed c.args.opened.now c.args.window.now
    → EndsWindow c.args.plan.now (length fed)
ended c test levels fed count h =
    let ends = found c test in
    Stands-ends c.args.plan.now levels c.args.progress.now.closed fed c.args.opened.now c.args.window.now
    c.requires.step.planned (omega (arith, count, ends.0)) (omega (arith, count, c.requires.step.most))
    (rw count ends.1) h

pub returns-then-not-ends-clause-stands : goal.returns-then-not-ends-clause-stands
returns-then-not-ends-clause-stands c = λ levels fed enough room count h.
    let p = c.args.plan.now in
    let n = length fed in
    let closed = c.args.progress.now.closed in
    let j = (goal.at.returns-then-not-ends-clause-stands c).Joined-count-gt0 in
    let part : (n ≡ 0) ⊎ ((closed ≡ 0) × (0 < n % window_length p.settings)) =
    elim c.if-count-gt0.branch [
      | then-count-gt0+then-count-wide-eq0 u ↦
          let bad : true ≡ false = sym u.if-count-wide-eq0.true ∙ sym u.ends-is ∙ c.if-not-ends.true in absurd cc
      | then-count-gt0+else-count-wide-eq0 u ↦ elim u.if-level-gt0.branch [
        | then-level-gt0 v ↦
            let none : closed ≤ 0 = grind (arith, nat_tests, sym v.value-is ∙ u.if-count-wide-eq0.false) in
            absurd (omega (arith, none, v.if-level-gt0.true))
        | else-level-gt0 v ↦
            let some : 0 < c.args.progress.now.fed % c.window_length-wide.result =
            grind (arith, nat_tests, sym v.value-is ∙ u.if-count-wide-eq0.false) in
            inr (omega (arith, v.if-level-gt0.false), omega (arith, some, in-window j n count))
      ]
      | else-count-gt0 u ↦ inl (omega (arith, count, u.if-count-gt0.false))
    ] in
    Stands-settled p levels closed fed c.args.opened.now c.args.window.now c.requires.step.planned
    (omega (arith, count, c.requires.step.most)) part h

-- the last byte's data block, as the code counts it
block-is : (c : Joined-level-eq0) → (n : ℕ) → n ≡ c.args.progress.now.fed
    → blocks_before c.args.plan.now.settings n ≡ (c.args.progress.now.fed - 1) / c.data_block.result
block-is c n count = rw (count, c.data_block.ensures) refl

-- no more levels have closed than can have
below-levels : (c : Joined-level-eq0) → c.args.progress.now.closed < c.args.levels
below-levels c =
    omega (
      arith,
      c.if-level-most_closed.false,
      c.most_closed.ensures,
      most_closed-le c.args.plan.now c.args.levels c.args.progress.now.fed c.requires.step.own,
    )

pub add_digest-closes-requires-clause-room : goal.add_digest-closes-requires-clause-room
add_digest-closes-requires-clause-room c =
    let p = c.args.plan.now in
    let low : 1 ≤ c.args.levels =
    omega (
      arith,
      c.if-level-most_closed.false,
      c.most_closed.ensures,
      most_closed-le p c.args.levels c.args.progress.now.fed c.requires.step.own,
    ) in
    omega (
      arith,
      mul_le 1 c.args.levels p.settings.hash_block low,
      c.requires.step.open_room,
      c.add_window-digest.auto.opened,
    )

pub add_digest-closes-requires-clause-below : goal.add_digest-closes-requires-clause-below
add_digest-closes-requires-clause-below c =
    let some = (found (goal.at.add_digest-closes-requires-clause-below c).Joined-count-gt0 c.if-not-ends.false).0 in
    rw c.data_block.ensures
    (last-below c.args.plan.now c.args.progress.now.fed c.requires.step.planned some c.requires.step.most)

pub carry_up-closes-requires-clause-room : goal.carry_up-closes-requires-clause-room
carry_up-closes-requires-clause-room c =
    let p = c.args.plan.now in
    let level = c.args.progress.now.closed in
    let low : level + 1 ≤ c.args.levels =
    omega (
      arith,
      c.if-level-most_closed.false,
      c.most_closed.ensures,
      most_closed-le p c.args.levels c.args.progress.now.fed c.requires.step.own,
    ) in
    omega (arith, mul_le (level + 1) c.args.levels p.settings.hash_block low, c.requires.step.open_room)

-- the digest comes to the level, of the last byte's data block or of the hash block below, which was handed out: the
-- level's block has closed, or it has room for more
added : (c : Joined-level-eq0) → (levels : ℕ) (fed : List ℕ) → c.args.levels ≤ levels
    → levels * c.args.plan.now.settings.hash_block ≤ length c.args.opened.now → length fed ≡ c.args.progress.now.fed
    → Stands c.args.plan.now levels fed c.args.progress.now.closed c.args.opened.now c.args.window.now
    → Adds c.if-level-eq0.closes c.args.plan.now.settings (data_blocks c.args.plan.now fed)
    (blocks_before c.args.plan.now.settings (length fed)) c.args.progress.now.closed levels c.if-level-eq0.opened
added c levels fed within room count h =
    let p = c.args.plan.now in
    let level = c.args.progress.now.closed in
    let many = sym (length-cut p.settings p.blocks p.wanted fed) in
    let same = block-is c (length fed) count in
    let low = below-levels c in
    elim c.if-level-eq0.branch [
      | then-level-eq0 w ↦
          let come = w.add_window-digest.ensures.adds levels fed (omega (arith, c.requires.step.own, within)) room count
          (nothing-out p levels level fed c.args.opened.now c.args.window.now w.if-level-eq0.true h) in
          rw (w.opened-is, w.closes-is, w.if-level-eq0.true, same)
          (w.add_digest-closes.ensures.adds (data_blocks p fed) levels many (omega (arith, low, within))
          (omega (arith, room, w.add_window-digest.auto.opened))
          (rw same at (IsCarrying-first p.settings _ _ levels _ _ come.digest_is come.stands)))
      | else-level-eq0 w ↦
          rw (w.opened-is, w.closes-is, same)
          (w.carry_up-closes.ensures.adds (data_blocks p fed) levels many (omega (arith, low, within)) room
          (rw same at (handing-out p levels level fed c.args.opened.now c.args.window.now
          (omega (arith, w.if-level-eq0.false)) h).closed))
    ]

-- with the last data block it has closed
closes-last : (c : Joined-level-eq0)
    → (c.args.progress.now.fed - 1) / c.data_block.result + 1 ≡ c.args.plan.now.blocks → c.if-level-eq0.closes ≡ true
closes-last c last = elim c.if-level-eq0.branch [
  | then-level-eq0 w ↦ w.closes-is ∙ w.add_digest-closes.ensures.last last
  | else-level-eq0 w ↦ w.closes-is ∙ w.carry_up-closes.ensures.last last
]

room-left : (c : Joined-level-eq0) → c.if-level-eq0.closes ≡ false
    → (c.args.progress.now.fed - 1) / c.data_block.result
    / fan c.args.plan.now.settings ^ c.args.progress.now.closed % fan c.args.plan.now.settings + 1
    < fan c.args.plan.now.settings
room-left c stays = elim c.if-level-eq0.branch [
  | then-level-eq0 w ↦ rw w.if-level-eq0.true (w.add_digest-closes.ensures.room (sym w.closes-is ∙ stays))
  | else-level-eq0 w ↦ w.carry_up-closes.ensures.room (sym w.closes-is ∙ stays)
]

-- all levels that can close haven't closed when the last byte came, so more bytes come
more-comes : (c : Then-level-most_closed) → c.args.progress.now.fed < c.args.plan.now.wanted
more-comes c =
    let p = c.args.plan.now in
    let n = c.args.progress.now.fed in
    elim (cases_lt n p.wanted) [
      | inl less ↦ less
      | inr past ↦
          let all : n ≡ p.wanted = omega (arith, past, c.requires.step.most) in
          absurd (omega (
            arith,
            c.requires.some all,
            c.if-level-most_closed.true,
            c.most_closed.ensures,
            most_closed-all p c.args.levels n past,
          ))
    ]

pub returns-then-level-most_closed-clause-more : goal.returns-then-level-most_closed-clause-more
returns-then-level-most_closed-clause-more c = λ _. more-comes c

pub returns-then-level-most_closed-clause-stands : goal.returns-then-level-most_closed-clause-stands
returns-then-level-most_closed-clause-stands c = λ levels fed within room count h.
    let p = c.args.plan.now in
    let n = c.args.progress.now.fed in
    let at = goal.at.returns-then-level-most_closed-clause-stands c in
    let less = more-comes c in
    absurd (climbs-past p levels c.args.progress.now.closed fed c.args.opened.now c.args.window.now
    c.requires.step.planned (ended at.Joined-count-gt0 c.if-not-ends.false levels fed count h)
    (omega (arith, c.if-level-most_closed.true, c.most_closed.ensures, most_closed-early p c.args.levels n less))
    (omega (arith, count, less)) h)

pub returns-then-not-closes-clause-more : goal.returns-then-not-closes-clause-more
returns-then-not-closes-clause-more c = λ _.
    let p = c.args.plan.now in
    let at = (goal.at.returns-then-not-closes-clause-more c).Joined-level-eq0 in
    elim (cases_lt c.args.progress.now.fed p.wanted) [
      | inl less ↦ less
      | inr past ↦
          let all : c.args.progress.now.fed ≡ p.wanted = omega (arith, past, c.requires.step.most) in
          let here = block-is at p.wanted (sym all) in
          let bad : false ≡ true =
          sym c.if-not-closes.true ∙ closes-last at (omega (arith, here, last-block p c.requires.step.planned)) in absurd cc
    ]

pub returns-then-not-closes-clause-stands : goal.returns-then-not-closes-clause-stands
returns-then-not-closes-clause-stands c = λ levels fed within room count h.
    let p = c.args.plan.now in
    let level = c.args.progress.now.closed in
    let at = goal.at.returns-then-not-closes-clause-stands c in
    let ends = ended at.Joined-count-gt0 c.if-not-ends.false levels fed count h in
    let same = block-is at.Joined-level-eq0 (length fed) count in
    let more = rw c.if-not-closes.true at (added at.Joined-level-eq0 levels fed within room count h) in
    KeepsOpen-settled p levels level fed c.if-level-eq0.opened c.if-level-eq0.window c.requires.step.planned ends.some
    ends.most
    (climbs-kept p levels level fed c.args.opened.now c.args.window.now c.if-level-eq0.opened c.requires.step.planned
    ends (λ less. c.requires.step.early (omega (arith, count, less))) h
    (rw same (room-left at.Joined-level-eq0 c.if-not-closes.true)) more.0 more.1)

pub returns-clause-stands : goal.returns-clause-stands
returns-clause-stands c = λ levels fed within room count h.
    let at = goal.at.returns-clause-stands c in
    climbs-closed c.args.plan.now levels _ fed c.if-level-eq0.opened
    (ended at.Joined-count-gt0 c.if-not-ends.false levels fed count h)
    (omega (arith, below-levels at.Joined-level-eq0, within))
    (rw c.if-not-closes.false at (added at.Joined-level-eq0 levels fed within room count h))
