use Rattle.std.{proofs.Common.{◌≡◌, ℕ, ◌+◌, ◌-◌, ◌<◌, arith, ◌∙◌, ap, subst}, specs.Int.div_ceil}
use Rattle.verity_plan.specs.{Plans.{level_size, blocks_from, IsPlan}, PlanCounts.level_count_of, Settings.fan}
use Rattle.verity_plan.proofs.{PlaceLemmas.{blocks_from-level, PlacesAreOnce-all}, PlanLemmas.{count-more, levels_few, end_few}}
use Rattle.verity_plan.proofs.plan.Plan.place.Goals as goal

pub overflow_add-below-end : goal.overflow_add-below-end
overflow_add-below-end c =
    omega (
      arith,
      c.requires.level_below,
      levels_few c.args.self.now (subst IsPlan c.self.view_is c.self.invariant.planned),
    )

pub overflow_sub-first : goal.overflow_sub-first
overflow_sub-first c =
    let p = c.args.self.now in
    let fan_is : c.fan-fan.result ≡ fan p.settings =
    c.fan-fan.ensures.value ∙ ap (λ v. fan v.settings) c.self.view_is in
    let some : 0 < fan p.settings = omega (arith, fan_is, c.fan-fan.ensures.two) in
    let next : c.div_ceil-count.result ≡ level_size (fan p.settings) p.blocks c.loop-below.below =
    c.div_ceil-count.ensures ∙ ap (λ (f : ℕ). div_ceil c.loop-below.count f) fan_is
    ∙ count-more (fan p.settings) p.blocks c.loop-below.below c.loop-below.count some c.loop-below.invariant.count_is in
    let below : c.loop-below.below < level_count_of p = omega (arith, c.loop-below-test.true, c.requires.level_below) in
    omega (
      arith,
      next,
      c.loop-below.invariant.first_is,
      blocks_from-level (fan p.settings) p.blocks c.loop-below.below (level_count_of p) below,
    )

pub loop-below-preserved : goal.loop-below-preserved
loop-below-preserved c =
    let p = c.args.self.now in
    let fan_is : c.fan-fan.result ≡ fan p.settings =
    c.fan-fan.ensures.value ∙ ap (λ v. fan v.settings) c.self.view_is in
    let some : 0 < fan p.settings = omega (arith, fan_is, c.fan-fan.ensures.two) in
    let next : c.div_ceil-count.result ≡ level_size (fan p.settings) p.blocks c.loop-below.below =
    c.div_ceil-count.ensures ∙ ap (λ (f : ℕ). div_ceil c.loop-below.count f) fan_is
    ∙ count-more (fan p.settings) p.blocks c.loop-below.below c.loop-below.count some c.loop-below.invariant.count_is in
    let below : c.loop-below.below < level_count_of p = omega (arith, c.loop-below-test.true, c.requires.level_below) in
    record {
      count_is = next;
      first_is = omega (
        arith,
        next,
        c.loop-below.invariant.first_is,
        blocks_from-level (fan p.settings) p.blocks c.loop-below.below (level_count_of p) below,
      );
    }

pub overflow_add-result : goal.overflow_add-result
overflow_add-result c =
    let p = c.args.self.now in
    let planned = subst IsPlan c.self.view_is c.self.invariant.planned in
    let past : c.loop-below.below ≡ c.args.level + 1 =
    omega (arith, c.loop-below.auto.below-end, c.loop-below-test.false) in
    let first : c.loop-below.first ≡ p.base + blocks_from (fan p.settings) p.blocks (c.args.level + 1)
    (level_count_of p - (c.args.level + 1)) =
    c.loop-below.invariant.first_is
    ∙ ap (λ (k : ℕ). p.base + blocks_from (fan p.settings) p.blocks k (level_count_of p - k)) past in
    omega (
      arith,
      first,
      end_few p planned,
      (PlacesAreOnce-all (fan p.settings) p.blocks p.base).within c.args.level c.args.index c.requires,
    )
