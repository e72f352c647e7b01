use Rattle.std.{proofs.Common.{◌≡◌, List, ℕ, ◌+◌, ◌-◌, ◌*◌, ◌<◌, ◌≤◌, min, take, drop, arith, sym, ap, ◌∙◌, below_more, refl}, specs.Str.bytes_eq}
use Rattle.{std.specs.{Prelude.{find, not, None, Option, Some}, List.range_with_len}, verity_pass.specs.Verdicts.{digest_in, first_slot, part_at}}
use Rattle.verity_plan.{specs.{Settings.{TreeSettingsFields, digest_len, fan, slot_width}, Plans.PlanFields}, proofs.FanLemmas.fan-some}
use Rattle.{verity_pass.proofs.Devices.StoredBlocks.{digest-room, find-range, find-range_none, first-child}, verity_plan.specs.PlanCounts.count_under}
use Rattle.verity_pass.proofs.part.part_between.Goals as goal

pub overflow_mul-first : goal.overflow_mul-first
overflow_mul-first c =
    let p = c.args.plan.now in
    let child = first-child p (fan-some p.settings) c.args.level c.args.index c.requires.here in
    grind (arith, c.count_under-below.type_inv)

pub overflow_sub-below : goal.overflow_sub-below
overflow_sub-below c =
    let p = c.args.plan.now in
    let child = first-child p (fan-some p.settings) c.args.level c.args.index c.requires.here in
    grind arith

-- what the code finds among the used slots
found-is : (p : PlanFields) (l j below used g : ℕ) (stored computed : List ℕ) (found : Option ℕ) → g ≡ fan p.settings
    → below ≡ count_under p l → used ≡ min (below - j * g) g
    → find (λ (slot : ℕ). not (bytes_eq (digest_in p.settings stored slot) (digest_in p.settings computed slot)))
    (range_with_len 0 used) ≡ found
    → part_at (j * g) found ≡ part_at (j * fan p.settings) (first_slot p l j stored computed)
found-is p l j below used g stored computed found g_is below_is used_is is =
    let first : j * g ≡ j * fan p.settings = ap (λ (n : ℕ). j * n) g_is in
    let many : used ≡ min (fan p.settings) (count_under p l - j * fan p.settings) =
    omega (arith, used_is, first, below_is, g_is) in
    rw (← many, is, first) refl

-- a slot of those that are used is within its block
used-room : (s : TreeSettingsFields) (slot used g width len : ℕ) → slot < used → used ≤ g → g ≡ fan s
    → width ≡ slot_width s → len ≡ digest_len s → fan s * slot_width s ≤ s.hash_block → slot * width + len ≤ s.hash_block
used-room s slot used g width len below most g_is width_is len_is fits =
    let at : slot * width ≡ slot * slot_width s = ap (λ (n : ℕ). slot * n) width_is in
    omega (arith, at, len_is, digest-room s slot (omega (arith, below, most, g_is)) fits)

-- the digest in a slot, as the code cuts it
cut-is : (s : TreeSettingsFields) (bytes : List ℕ) (slot width len : ℕ) → width ≡ slot_width s → len ≡ digest_len s
    → take (slot * width + len - slot * width) (drop (slot * width) bytes) ≡ digest_in s bytes slot
cut-is s bytes slot width len width_is len_is =
    let count : slot * width + len - slot * width ≡ digest_len s = omega (arith, len_is) in
    ap (λ (n : ℕ). take n (drop (slot * width) bytes)) count
    ∙ ap (λ (n : ℕ). take (digest_len s) (drop (slot * n) bytes)) width_is

pub slice_bounds-ne-end : goal.slice_bounds-ne-end
slice_bounds-ne-end c =
    let s = c.args.plan.now.settings in
    let room : c.loop-slot.slot * c.slot_width-width.result + c.digest_len-len.result ≤ s.hash_block =
    used-room s c.loop-slot.slot c.min-used.result c.fan-fan.result _ _ c.loop-slot-test.true
    (omega (arith, c.min-used.ensures)) c.fan-fan.ensures.value
    (c.slot_width-width.ensures.value ∙ ap slot_width c.settings.ensures) c.digest_len-len.ensures c.fan-fan.ensures.fits in
    grind arith

pub loop-slot-preserved : goal.loop-slot-preserved
loop-slot-preserved c =
    let s = c.args.plan.now.settings in
    let width = c.slot_width-width.ensures.value ∙ ap slot_width c.settings.ensures in
    let stored = cut-is s c.args.stored.now c.loop-slot.slot _ _ width c.digest_len-len.ensures in
    let computed = cut-is s c.args.computed.now c.loop-slot.slot _ _ width c.digest_len-len.ensures in
    below_more _ _ c.loop-slot.invariant (rw (← stored, ← computed) (sym c.ne.ensures ∙ c.if-ne.false))

pub returns-then-ne : goal.returns-then-ne
returns-then-ne c =
    let s = c.args.plan.now.settings in
    let width = c.slot_width-width.ensures.value ∙ ap slot_width c.settings.ensures in
    let stored = cut-is s c.args.stored.now c.loop-slot.slot _ _ width c.digest_len-len.ensures in
    let computed = cut-is s c.args.computed.now c.loop-slot.slot _ _ width c.digest_len-len.ensures in
    found-is c.args.plan.now c.args.level c.args.index _ _ _ c.args.stored.now c.args.computed.now
    (Some c.loop-slot.slot) c.fan-fan.ensures.value c.count_under-below.ensures c.min-used.ensures
    (find-range _ 0 c.min-used.result c.loop-slot.slot (omega arith) (omega (arith, c.loop-slot-test.true))
    (λ j a b. c.loop-slot.invariant j b) (rw (← stored, ← computed) (sym c.ne.ensures ∙ c.if-ne.true)))

pub returns : goal.returns
returns c =
    found-is c.args.plan.now c.args.level c.args.index _ _ _ c.args.stored.now c.args.computed.now None
    c.fan-fan.ensures.value c.count_under-below.ensures c.min-used.ensures
    (find-range_none _ 0 c.min-used.result
    (λ j a b. c.loop-slot.invariant j (omega (arith, b, c.loop-slot-test.false))))
