use Rattle.std.proofs.Common.{◌≡◌, ◌∙◌, ◌+◌, ◌*◌, ◌-◌, ◌/◌, ◌^◌, ℕ, Option, Some, None, true, false, arith, ap, inl, inr, refl, sym, zero-add}
use Rattle.std.{proofs.lemmas.Bool.{cases_lt, Decides.nat_tests}, specs.Prelude.{◌==◌, ◌||◌, MatchOption, Result, Ok}}
use Rattle.{verity_plan.specs.{Plans.{PlanFields, start_byte_of}, Settings.fan}, verity_builders.specs.Feeding.{HasLast, IsPlaced, feed_fault}}
use Rattle.verity_blocks.specs.{ClosingOrder.blocks_before, declared.hash_block.HashBlock.HashBlock}
use Rattle.verity_c_api.{proofs.{AnswerLemmas.{match-said, says-of}, BuildingLemmas.IsFedTo-at}, specs.{Answers.value_or, declared.fault.Fault.Fault}}
use Rattle.verity_c_api.specs.{Building.{builder_of, fed_by, last_in, last_index, last_of, with_piece}, declared.build.VerityBuild.VerityBuild}
use Rattle.verity_c.proofs.tree_building.verity_build_last_block.Goals as goal

pub returns-clause-block : goal.returns-clause-block
returns-clause-block c = λ memory bytes h _.
    let made = sym c.in-Ok.ensures in
    let fed = IsFedTo-at c.args.params.now _ c.args.build.now memory bytes made h in
    let both = match-said _ _ (says-of c.in-Ok.plan (record { taken = 0; hash_block = c.in-Ok-last_block.hash_block })
    c.fed_of.result c.fed_of.ensures.value c.fed_of.ensures.some)
    (c.in-Ok-last_block.ensures.stands memory bytes fed) in
    rw made (record { none = both.0; block = both.1 })

-- what a struct names last, by the numbers of the hash block that its builder names
placed : (p : PlanFields) (build : VerityBuild) (answer : Option HashBlock) → None ≡ feed_fault (builder_of p build) 0
    → MatchOption answer (HasLast (builder_of p build) → ⊥)
    (λ block. HasLast (builder_of p build) × IsPlaced p build.fed build.closed block)
    → fed_by p.settings.hash_block 0 answer ≡ last_of p build
placed p build None right none = elim (cases_lt 0 build.fed) [
  | inl some ↦ elim (cases_lt 0 build.closed) [
    | inl closed ↦
        absurd (none (record {
          some = some;
          most = grind (arith, nat_tests, right);
          closed = closed;
          levels = grind (arith, nat_tests, right);
        }))
    | inr unclosed ↦
        let test : ((build.fed == 0) || (build.closed == 0)) ≡ true = grind (arith, nat_tests, unclosed) in rw test refl
  ]
  | inr nothing ↦
      let test : ((build.fed == 0) || (build.closed == 0)) ≡ true = grind (arith, nat_tests, nothing) in rw test refl
]
placed p build (Some block) right named =
    let has = named.0 in
    let at_is = named.1 in
    let test : ((build.fed == 0) || (build.closed == 0)) ≡ false = grind (arith, nat_tests, has.some, has.closed) in
    let level : block.level ≡ build.closed - 1 = omega (arith, at_is.level_is) in
    let at : block.at ≡ (build.closed - 1) * p.settings.hash_block =
    at_is.at_is ∙ ap (λ (n : ℕ). n * p.settings.hash_block) level in
    let index : block.index ≡ last_index p build = at_is.index_is
    ∙ ap (λ (n : ℕ). (0 + blocks_before p.settings build.fed) / fan p.settings ^ n) (sym at_is.level_is)
    ∙ ap (λ (i : ℕ). i / fan p.settings ^ build.closed) (zero-add (blocks_before p.settings build.fed)) in
    let start : block.start ≡ start_byte_of p (build.closed - 1) (last_index p build) =
    at_is.start_is ∙ ap (λ (l : ℕ). start_byte_of p l block.index) level
    ∙ ap (λ (j : ℕ). start_byte_of p (build.closed - 1) j) index in
    rw (test, at, start, index, level) refl

pub returns-clause-fed : goal.returns-clause-fed
returns-clause-fed c =
    let p = c.in-Ok.plan in
    let build = c.args.build.now in
    let right = c.in-Ok-last_block.ensures.fault in
    let taken : with_piece (Ok p) build 0 ≡ Ok p = rw (← right) refl in
    c.fed_of.ensures.value
    ∙ placed p build c.in-Ok-last_block.hash_block right c.in-Ok-last_block.ensures.placed
    ∙ sym (ap (λ (r : Result PlanFields Fault). value_or c.args.fed.now (last_in r build))
    (ap (λ (r : Result PlanFields Fault). with_piece r build 0) (sym c.in-Ok.ensures) ∙ taken))
